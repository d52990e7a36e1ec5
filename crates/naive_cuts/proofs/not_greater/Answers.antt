-- `not_greater` makes the three tests of its definition in turn.
use mathlib.Core.Path.{◌≡◌, ◌∙◌}
use mathlib.Core.Bool.{◌||◌}
use mathlib.Core.List.{List, map}
use Prim.Native.Nat.{ℕ}
use Rattle.definitions.specs.Words.{begins, lexlt}
use Rattle.definitions.specs.Table.{rank_of}
use Rattle.definitions.specs.Services.{sample_order}
use Rattle.definitions.specs.Occurrences.{not_greater_at_difference}
use Rattle.naive_cuts.proofs.Cutting.{first_passed, first_left, one_passed, third_left}
use Rattle.naive_cuts.proofs.not_greater.Goals.{then-is_prefix, else-is_prefix}
use Rattle.naive_cuts.proofs.not_greater.Goals as goal

abbrev ranks : List ℕ → List ℕ
ranks = map (rank_of sample_order)

pub returns-then-is_prefix-2 : goal.returns-then-is_prefix-2
unfolding not_greater_at_difference
returns-then-is_prefix-2 c =
    let x = ranks c.args.x.now in
    let y = ranks c.args.y.now in
    let v : c.if-is_prefix.value ≡ begins x y || begins y x = elim c.if-is_prefix.branch [
      | then-is_prefix w ↦ first_passed (begins x y) (begins y x) c.is_prefix.ensures w.if-is_prefix.true w.value-is
      | else-is_prefix w ↦ first_left (begins x y) (begins y x) c.is_prefix.ensures w.if-is_prefix.false (w.value-is ∙ w.is_prefix-else-is_prefix.ensures)
    ] in
    one_passed (begins x y) (begins y x) (lexlt x y) v c.if-is_prefix-2.true

pub returns-else-is_prefix-2 : goal.returns-else-is_prefix-2
unfolding not_greater_at_difference
returns-else-is_prefix-2 c =
    let x = ranks c.args.x.now in
    let y = ranks c.args.y.now in
    let v : c.if-is_prefix.value ≡ begins x y || begins y x = elim c.if-is_prefix.branch [
      | then-is_prefix w ↦ first_passed (begins x y) (begins y x) c.is_prefix.ensures w.if-is_prefix.true w.value-is
      | else-is_prefix w ↦ first_left (begins x y) (begins y x) c.is_prefix.ensures w.if-is_prefix.false (w.value-is ∙ w.is_prefix-else-is_prefix.ensures)
    ] in
    c.is_smaller.ensures ∙ third_left (begins x y) (begins y x) (lexlt x y) v c.if-is_prefix-2.false
