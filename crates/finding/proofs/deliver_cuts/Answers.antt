-- `deliver_cuts` lists the cuts in a local array, and copies them where the result slice is long enough, and else refuses.
use mathlib.Core.Path.{◌≡◌, sym, ◌∙◌, ap, subst}
use mathlib.Core.List.{List, [], ◌∷◌, ◌++◌, append_assoc}
use Prim.Native.Nat.{ℕ, ◌+◌, ◌-◌, ◌≤◌}
use native.Mathlib.Omega.{arith}
use lib.ListN.{length, take, drop, length-take, length-append}
use lib.Seq.{take_at}
use Rattle.definitions.specs.Words.{placed}
use Rattle.definitions.specs.Occurrences.{pattern_cuts}
use Rattle.definitions.specs.Services.{sample_order}
use Rattle.cuts.proofs.Lists.{most_cuts, eleven}
use Rattle.results.proofs.Writing.{list_refused, list_fits, list_written}
use Rattle.finding.proofs.deliver_cuts.Goals.{After-floor_log2-k, After-list-n}
use Rattle.finding.proofs.deliver_cuts.Goals as goal

-- the list has at most 11 words, and the cuts fit
few : (c : After-floor_log2-k) → c.floor_log2-k.result + 1 ≤ 11
few c =
    eleven (length c.args.pattern.now) c.floor_log2-k.result c.requires.1 c.floor_log2-k.ensures

most : (c : After-floor_log2-k) → length (pattern_cuts sample_order c.args.pattern.now) ≤ c.floor_log2-k.result + 1
most c = most_cuts sample_order c.args.pattern.now c.floor_log2-k.result c.floor_log2-k.ensures

pub list-n-requires : goal.list-n-requires
list-n-requires c = (simp length-take (omega (arith, few (goal.at.list-n-requires c).After-floor_log2-k, most (goal.at.list-n-requires c).After-floor_log2-k)), c.requires.1)

pub returns-in_default : goal.returns-in_default
returns-in_default c =
    let a = c.args in
    list_refused (pattern_cuts sample_order a.pattern.now) a.res.now c.list-n.result c.list-n.ensures.0 c.result_fits-a.result c.result_fits-a.ensures c.in_default.is

-- the list, with what stands behind it
abbrev zeros : List ℕ
zeros = 0 ∷ 0 ∷ 0 ∷ 0 ∷ 0 ∷ 0 ∷ 0 ∷ 0 ∷ 0 ∷ 0 ∷ 0 ∷ []

module _ (l old x y : List ℕ) (n : ℕ) (e : x ≡ placed l old) (q : n ≡ length l) where
  fits : n ≤ length (x ++ y)
  unfolding placed
  fits = omega (arith, length-append x y, ap length e ∙ length-append l (drop (length l) old))

  front : take n (x ++ y) ≡ l
  unfolding placed
  front = ap (λ (z : List ℕ). take n (z ++ y)) e ∙ ap (take n) (append_assoc l (drop (length l) old) y) ∙ take_at l (drop (length l) old ++ y) n (sym q)

pub slice_bounds-copy-end : goal.slice_bounds-copy-end
slice_bounds-copy-end c =
    let a = c.args in
    let k = c.floor_log2-k.result in
    fits (pattern_cuts sample_order a.pattern.now) (take (k + 1 - 0) zeros) c.list-n.new.cuts (drop (k + 1 - 0) zeros) c.list-n.result c.list-n.ensures.1 c.list-n.ensures.0

-- what is copied
copied : (c : After-list-n) → let a = c.args in
    let k = c.floor_log2-k.result in take (c.list-n.result - 0) (c.list-n.new.cuts ++ drop (k + 1 - 0) zeros) ≡ pattern_cuts sample_order a.pattern.now
copied c =
    let a = c.args in
    let k = c.floor_log2-k.result in
    front (pattern_cuts sample_order a.pattern.now) (take (k + 1 - 0) zeros) c.list-n.new.cuts (drop (k + 1 - 0) zeros) (c.list-n.result - 0) c.list-n.ensures.1 (omega (arith, c.list-n.ensures.0))

pub copy-requires : goal.copy-requires
copy-requires c =
    let a = c.args in
    subst (λ (x : List ℕ). length x ≤ length a.res.now) (sym (copied (goal.at.copy-requires c).After-list-n))
    (list_fits (pattern_cuts sample_order a.pattern.now) a.res.now c.list-n.result c.list-n.ensures.0 c.result_fits-a.result c.result_fits-a.ensures c.in-Ok.is)

pub returns : goal.returns
returns c =
    let a = c.args in
    list_written (pattern_cuts sample_order a.pattern.now) a.res.now c.list-n.result c.list-n.ensures.0 c.result_fits-a.result c.result_fits-a.ensures c.copy.new.to c.in-Ok.is
    (c.copy.ensures ∙ ap (λ (x : List ℕ). placed x a.res.now) (copied (goal.at.returns c).After-list-n))

pub overflow_add-k : goal.overflow_add-k
overflow_add-k c = omega (arith, few (goal.at.overflow_add-k c).After-floor_log2-k)

pub slice_bounds-list-end : goal.slice_bounds-list-end
slice_bounds-list-end c = omega (arith, few (goal.at.slice_bounds-list-end c).After-floor_log2-k)
