-- `first_fitting` goes down from the end of the list. The loop's invariant: the tails from i on fit. The first cut's does not, so the loop ends behind it.
use mathlib.Core.Path.{refl}
use Prim.Native.Nat.{◌<◌}
use native.Mathlib.Omega.{arith}
use Rattle.joins.specs.Joining.{longest_tail}
use Rattle.joins.proofs.Joining.{fits_all, short_right, fit_start, fit_more, fit_end}
use Rattle.joins.proofs.first_fitting.Goals.{Start}
use Rattle.joins.proofs.first_fitting.Goals as goal

pub returns-then-pattern-right : goal.returns-then-pattern-right
returns-then-pattern-right c =
    let a = c.args in
    fits_all a.work.now a.pattern.size a.pattern.cuts c.requires.0.tried c.requires.1 a.right (omega (arith, c.if-pattern-right.true, c.requires.0.longest))

-- not all tails fit
longer : (s : Start) → let a = s.args in a.right < a.pattern.longest → a.right < longest_tail a.pattern.size a.pattern.cuts a.work.now
longer s h = omega (arith, s.requires.0.longest)

pub overflow_sub-low : goal.overflow_sub-low
overflow_sub-low c =
    let a = c.args in
    omega (arith, short_right a.work.now a.pattern.size a.pattern.cuts c.requires.0.tried c.requires.1 a.right (longer (goal.at.overflow_sub-low c).Start (omega (arith, c.if-pattern-right.false))))

pub loop-i-init : goal.loop-i-init
loop-i-init c =
    let a = c.args in
    (refl, fit_start a.work.now a.pattern.size a.pattern.cuts c.requires.0.tried c.requires.1 a.right (longer (goal.at.loop-i-init c).Start (omega (arith, c.if-pattern-right.false))))

pub bounds-work-i : goal.bounds-work-i
bounds-work-i c =
    omega (arith, c.loop-i.invariant.1.0, c.loop-i.invariant.1.1, c.requires.0.tried.few, c.requires.1)

pub loop-i-preserved : goal.loop-i-preserved
loop-i-preserved c =
    let a = c.args in
    (refl, fit_more a.work.now a.pattern.size a.pattern.cuts c.requires.0.tried c.requires.1 a.right (longer (goal.at.loop-i-preserved c).Start (omega (arith, c.if-pattern-right.false))) c.loop-i.i c.loop-i.invariant.1 (omega (arith, c.loop-i-test.true, c.loop-i.invariant.0)))

pub returns : goal.returns
returns c =
    let a = c.args in
    fit_end a.work.now a.pattern.size a.pattern.cuts c.requires.0.tried c.requires.1 a.right (longer (goal.at.returns c).Start (omega (arith, c.if-pattern-right.false))) c.loop-i.i c.loop-i.invariant.1 (omega (arith, c.loop-i-test.false, c.loop-i.invariant.0))

pub overflow_cast-low : goal.overflow_cast-low
overflow_cast-low c = omega (arith, c.requires.0.tried.short)

pub overflow_add-i : goal.overflow_add-i
overflow_add-i c = omega (arith, c.loop-i.invariant.1.1, c.requires.0.tried.few)

pub overflow_sub-i : goal.overflow_sub-i
overflow_sub-i c = omega (arith, c.loop-i.invariant.1.0)

pub offset_bounds-work-i : goal.offset_bounds-work-i
offset_bounds-work-i c = omega (arith, c.loop-i.invariant.1.1, c.requires.0.tried.few)

pub overflow_sub-i-in-loop-i : goal.overflow_sub-i-in-loop-i
overflow_sub-i-in-loop-i c = omega (arith, c.loop-i.invariant.1.0)

pub loop-i-smaller : goal.loop-i-smaller
loop-i-smaller c = omega (arith, c.loop-i.invariant.1.0)
