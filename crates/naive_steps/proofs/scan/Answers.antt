-- `scan` goes over every position of the drive. The invariant: those passed from which the same steps follow stand at the front of the slice.
use mathlib.Core.Path.{sym, ◌∙◌}
use native.Mathlib.Omega.{arith}
use Rattle.lists.specs.Lists.{fronted_as}
use Rattle.naive.proofs.Noting.{none_noted, room, noted, passed}
use Rattle.naive_steps.proofs.Following.{all_noted}
use Rattle.naive_steps.proofs.scan.Goals as goal
use Rattle.naive_steps.proofs.scan.Goals.{then-follows_at, else-follows_at}

pub loop-i-init : goal.loop-i-init
loop-i-init c = none_noted _ _

pub offset_bounds-places-n : goal.offset_bounds-places-n
offset_bounds-places-n c = omega (arith, room _ _ c.loop-i.invariant)

pub bounds-places-n : goal.bounds-places-n
bounds-places-n c = omega (arith, room _ _ c.loop-i.invariant)

pub overflow_add-n : goal.overflow_add-n
overflow_add-n c = omega (arith, room _ _ c.loop-i.invariant)

pub loop-i-preserved : goal.loop-i-preserved
loop-i-preserved c = elim c.if-follows_at.branch [
  | then-follows_at w ↦ noted _ _ c.loop-i.invariant (omega arith) (sym c.follows_at.ensures ∙ w.if-follows_at.true) w.n-is w.places-is
  | else-follows_at w ↦ passed _ _ c.loop-i.invariant (sym c.follows_at.ensures ∙ w.if-follows_at.false) w.n-is w.places-is
]

pub returns : goal.returns
returns c =
    let (first, second) = fronted_as (all_noted c.args.pattern.now c.args.drive.now c.loop-i.i (omega arith)) c.loop-i.invariant in
    record { value = first; places_after = second }
