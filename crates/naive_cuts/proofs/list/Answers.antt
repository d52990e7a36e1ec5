-- `list` tries every cut. The invariant: the cuts passed that are listed stand at the front of the slice.
use mathlib.Core.Path.{sym, ◌∙◌}
use native.Mathlib.Omega.{arith}
use Rattle.definitions.specs.Services.{sample_order}
use Rattle.lists.specs.Lists.{fronted_as}
use Rattle.naive.proofs.Noting.{none_noted, room, noted, passed}
use Rattle.naive_cuts.proofs.Cutting.{all_listed}
use Rattle.naive_cuts.proofs.list.Goals as goal
use Rattle.naive_cuts.proofs.list.Goals.{then-is_listed, else-is_listed}

pub loop-c-init : goal.loop-c-init
loop-c-init c = none_noted _ _

pub offset_bounds-cuts-n : goal.offset_bounds-cuts-n
offset_bounds-cuts-n c = omega (arith, room _ _ c.loop-c.invariant)

pub bounds-cuts-n : goal.bounds-cuts-n
bounds-cuts-n c = omega (arith, room _ _ c.loop-c.invariant)

pub overflow_add-n : goal.overflow_add-n
overflow_add-n c = omega (arith, room _ _ c.loop-c.invariant)

pub loop-c-preserved : goal.loop-c-preserved
loop-c-preserved c = elim c.if-is_listed.branch [
  | then-is_listed w ↦ noted _ _ c.loop-c.invariant (omega arith) (sym c.is_listed.ensures ∙ w.if-is_listed.true) w.n-is w.cuts-is
  | else-is_listed w ↦ passed _ _ c.loop-c.invariant (sym c.is_listed.ensures ∙ w.if-is_listed.false) w.n-is w.cuts-is
]

pub returns : goal.returns
returns c =
    let (first, second) = fronted_as (all_listed sample_order c.args.pattern.now c.loop-c.c (omega arith)) c.loop-c.invariant in
    record { value = first; cuts_after = second }
