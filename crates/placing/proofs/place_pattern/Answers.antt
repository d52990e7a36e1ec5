-- `place_pattern` writes the ranks, then the cuts into a list of k + 1 words, and NO_CUT behind them.
use mathlib.Core.Path.{◌≡◌, refl, sym, ◌∙◌, subst}
use mathlib.Core.List.{◌++◌}
use Prim.Native.Nat.{◌+◌, ◌-◌, ◌≤◌, ◌<◌}
use native.Mathlib.Omega.{arith}
use lib.ListN.{length, take, drop, length-take, length-drop}
use Rattle.cuts.proofs.Lists.{most_cuts, eleven}
use Rattle.layout.specs.Layout.{PATTERN, CUTS}
use Rattle.joins.specs.Joining.{Tried}
use Rattle.rule_finds.specs.Searching.{Counting}
use Rattle.placing.proofs.Placing.{pattern_here, tried_start, counting_start, cuts_length}
use Rattle.placing.proofs.place_pattern.Goals.{After-floor_log2-k, After-list-cuts, After-put}
use Rattle.placing.proofs.place_pattern.Goals as goal

-- the list has at most 11 words
few : (c : After-floor_log2-k) → c.floor_log2-k.result + 1 ≤ 11
few c =
    eleven (length c.args.pattern.now) c.floor_log2-k.result c.requires.1 c.floor_log2-k.ensures

few_then : (l : After-list-cuts) → l.floor_log2-k.result + 1 ≤ 11
few_then l =
    eleven (length l.args.pattern.now) l.floor_log2-k.result l.requires.1 l.floor_log2-k.ensures

pub list-cuts-requires : goal.list-cuts-requires
list-cuts-requires c =
    let most = most_cuts c.args.order c.args.pattern.now c.floor_log2-k.result c.floor_log2-k.ensures in
    (simp (length-take, length-drop) (omega (arith, few (goal.at.list-cuts-requires c).After-floor_log2-k, most)), c.requires.1)

-- NO_CUT stands behind the cuts, before the table
behind : (l : After-list-cuts) → CUTS + l.list-cuts.result < CUTS + 12
behind l =
    omega (arith, few_then l, most_cuts l.args.order l.args.pattern.now l.floor_log2-k.result l.floor_log2-k.ensures, l.list-cuts.ensures.0)

-- the slice is as long as it was
size : (l : After-list-cuts) → let a = l.args in
    let m = PATTERN + length a.pattern.now - PATTERN in
    let k = CUTS + l.floor_log2-k.result + 1 - CUTS in
    let v = take PATTERN a.work.now ++ (l.write.new.ranks ++ drop m (drop PATTERN a.work.now)) in
    length (take CUTS v ++ (l.list-cuts.new.cuts ++ drop k (drop CUTS v))) ≡ length a.work.now
size l =
    let a = l.args in
    let m = PATTERN + length a.pattern.now - PATTERN in
    let k = CUTS + l.floor_log2-k.result + 1 - CUTS in
    cuts_length a.work.now l.write.new.ranks _ l.list-cuts.new.cuts m k l.requires.2 (omega (arith, l.requires.1)) l.write.auto.ranks refl (omega (arith, few_then l)) l.list-cuts.auto.cuts

pub put-requires : goal.put-requires
put-requires c =
    omega (arith, size (goal.at.put-requires c).After-list-cuts, behind (goal.at.put-requires c).After-list-cuts, c.requires.2)

-- its numbers are those of the pattern that is tried
tried : (l : After-put) → Tried (length l.args.pattern.now) l.list-cuts.result l.put.new.s
tried l =
    let a = l.args in
    let p = a.pattern.now in
    let m = PATTERN + length p - PATTERN in
    let k = CUTS + l.floor_log2-k.result + 1 - CUTS in
    let v = take PATTERN a.work.now ++ (l.write.new.ranks ++ drop m (drop PATTERN a.work.now)) in
    let q = pattern_here p l.requires.0 l.requires.1 (λ i b. omega (arith, l.type_inv.pattern i)) in
    let most = most_cuts a.order p l.floor_log2-k.result l.floor_log2-k.ensures in
    let few = eleven (length p) l.floor_log2-k.result l.requires.1 l.floor_log2-k.ensures in
    subst (Tried (length p) l.list-cuts.result) (sym l.put.ensures)
    (tried_start a.order p a.work.now l.write.new.ranks v l.list-cuts.new.cuts m k l.list-cuts.result (omega (arith, l.requires.2)) q (omega arith)
    l.write.ensures refl l.list-cuts.ensures.0 (omega (arith, most)) (omega (arith, few)) l.list-cuts.ensures.1)

pub longest_tail-longest-requires : goal.longest_tail-longest-requires
longest_tail-longest-requires c =
    let k = goal.at.longest_tail-longest-requires c in
    (tried k.After-put, omega (arith, c.put.auto.s, size k.After-list-cuts, c.requires.2))

pub returns : goal.returns
returns c =
    let a = c.args in
    let p = a.pattern.now in
    let m = PATTERN + length p - PATTERN in
    let k = CUTS + c.floor_log2-k.result + 1 - CUTS in
    let v = take PATTERN a.work.now ++ (c.write.new.ranks ++ drop m (drop PATTERN a.work.now)) in
    let q = pattern_here p c.requires.0 c.requires.1 (λ i b. omega (arith, c.type_inv.pattern i)) in
    let most = most_cuts a.order p c.floor_log2-k.result c.floor_log2-k.ensures in
    record {
      size = refl;
      in_work = record { tried = tried (goal.at.returns c).After-put; longest = c.longest_tail-longest.ensures };
      counting = λ text chair h.
          subst (Counting a.order p text chair (length p) c.list-cuts.result 0) (sym c.put.ensures)
          (counting_start a.order p a.work.now c.write.new.ranks v c.list-cuts.new.cuts m k c.list-cuts.result (omega (arith, c.requires.2)) q (omega arith)
          c.write.ensures refl c.list-cuts.ensures.0 (omega (arith, most)) (omega (arith, few (goal.at.returns c).After-floor_log2-k)) c.list-cuts.ensures.1 text chair h);
    }

pub overflow_add-k : goal.overflow_add-k
overflow_add-k c = omega (arith, few (goal.at.overflow_add-k c).After-floor_log2-k)

pub overflow_add-k-2 : goal.overflow_add-k-2
overflow_add-k-2 c = omega (arith, few (goal.at.overflow_add-k-2 c).After-floor_log2-k)

pub slice_bounds-list-end : goal.slice_bounds-list-end
slice_bounds-list-end c = omega (arith, few (goal.at.slice_bounds-list-end c).After-floor_log2-k)

pub overflow_add-cuts : goal.overflow_add-cuts
overflow_add-cuts c = omega (arith, behind (goal.at.overflow_add-cuts c).After-list-cuts)

pub shape_of-work : goal.shape_of-work
shape_of-work c = c.put.auto.s ∙ size (goal.at.shape_of-work c).After-list-cuts
