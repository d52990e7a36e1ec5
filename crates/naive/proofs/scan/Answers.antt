-- `scan` goes over every place of the text. The invariant: the places passed at which the pattern begins stand at the front of the slice.
use mathlib.Core.Path.{◌≡◌, sym, ◌∙◌}
use Prim.Native.Nat.{◌+◌}
use native.Mathlib.Omega.{arith}
use lib.ListN.{length}
use Rattle.definitions.specs.Words.{below}
use Rattle.lists.specs.Lists.{fronted_as, Fronted}
use Rattle.naive.proofs.Scanning.{begins_in, begins_here, all_noted}
use Rattle.naive.proofs.Noting.{none_noted, room, noted, passed}
use Rattle.naive.proofs.scan.Goals as goal
use Rattle.naive.proofs.scan.Goals.{then-starts_with, else-starts_with}

pub loop-i-init : goal.loop-i-init
loop-i-init c = none_noted _ _

pub offset_bounds-places-n : goal.offset_bounds-places-n
offset_bounds-places-n c = omega (arith, room _ _ c.loop-i.invariant)

pub bounds-places-n : goal.bounds-places-n
bounds-places-n c = omega (arith, room _ _ c.loop-i.invariant)

pub overflow_add-n : goal.overflow_add-n
overflow_add-n c = omega (arith, room _ _ c.loop-i.invariant)

pub loop-i-preserved : goal.loop-i-preserved
loop-i-preserved c =
    let e = begins_here c.args.pattern.now c.args.text.now c.loop-i.i ∙ sym c.starts_with.ensures.value in
    elim c.if-starts_with.branch [
      | then-starts_with w ↦ noted _ _ c.loop-i.invariant (omega arith) (e ∙ w.if-starts_with.true) w.n-is w.places-is
      | else-starts_with w ↦ passed _ _ c.loop-i.invariant (e ∙ w.if-starts_with.false) w.n-is w.places-is
    ]

pub returns-after-starts_with : goal.returns-after-starts_with
returns-after-starts_with c =
    let a = c.args in
    let e = begins_here a.pattern.now a.text.now c.loop-i.i ∙ sym c.starts_with.ensures.value in
    let last : c.loop-i.i ≡ length a.text.now = omega arith in
    let all : Fronted (below (begins_in a.pattern.now a.text.now) (c.loop-i.i + 1)) a.places.now c.if-starts_with.n c.if-starts_with.places = elim c.if-starts_with.branch [
      | then-starts_with w ↦ noted _ _ c.loop-i.invariant (omega arith) (e ∙ w.if-starts_with.true) w.n-is w.places-is
      | else-starts_with w ↦ passed _ _ c.loop-i.invariant (e ∙ w.if-starts_with.false) w.n-is w.places-is
    ] in
    let (first, second) = fronted_as (rw last (all_noted a.pattern.now a.text.now)) all in
    record { value = first; places_after = second }
