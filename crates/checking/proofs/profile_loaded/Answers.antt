-- `profile_loaded` writes the text that is loaded to the front of an array, and judges what stands there.
use mathlib.Core.Path.{◌≡◌, ◌∙◌, ap, subst}
use mathlib.Core.Bool.{false}
use mathlib.Core.List.{List}
use Prim.Native.Nat.{ℕ, ◌-◌}
use native.Mathlib.Omega.{arith}
use lib.ListN.{length, take, drop}
use lib.Seq.{take-length}
use Rattle.definitions.specs.Words.{placed}
use Rattle.definitions.specs.Services.{outcome_of, first_met, profile_checks}
use Rattle.lists.specs.Lists.{placed_front}
use Rattle.lists.specs.Decisions.{answered}
use Rattle.checking.proofs.profile_loaded.Goals as goal

-- what stands at the front is the text
written : (text old new : List ℕ) (n : ℕ) → n ≡ length text → new ≡ placed (take n (drop 0 text)) old → take (n - 0) new ≡ text
written text old new n e f =
    let all : take n text ≡ text = ap (λ (k : ℕ). take k text) e ∙ take-length text in
    let size : n - 0 ≡ length text = omega arith in
    ap (take (n - 0)) (f ∙ ap (λ (l : List ℕ). placed l old) all) ∙ ap (λ (k : ℕ). take k (placed text old)) size ∙ placed_front text old

pub write_part-requires : goal.write_part-requires
write_part-requires c = (c.args.loaded.now.rules, c.args.loaded.now.held, omega (arith, c.len-n.ensures), omega (arith, c.len-n.ensures, c.args.loaded.now.held.loaded.kept.stored.short))

pub slice_bounds-profile_fits-end : goal.slice_bounds-profile_fits-end
slice_bounds-profile_fits-end c = omega (arith, c.len-n.ensures, c.args.loaded.now.held.loaded.kept.stored.short)

pub returns : goal.returns
unfolding profile_checks first_met
returns c =
    let text = written c.args.loaded.now.held.text _ c.write_part.new.res c.len-n.result c.len-n.ensures
    (c.write_part.ensures c.args.loaded.now.rules c.args.loaded.now.held (omega (arith, c.len-n.ensures))) in
    subst (λ (x : List ℕ). outcome_of c.profile_fits.result ≡ answered (profile_checks false x) (length x)) text c.profile_fits.ensures
