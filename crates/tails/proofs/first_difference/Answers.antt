-- `first_difference` goes up to the first difference. The loop's invariant: that is not before i, nor behind the shorter tail's end.
use native.Mathlib.Omega.{arith}
use Rattle.lists.specs.FirstDifference.{difference_left, difference_right, difference_most, difference_further}
use Rattle.tails.proofs.first_difference.Goals as goal

pub loop-i-init : goal.loop-i-init
loop-i-init c =
    let a = c.args in
    omega (arith, c.min-short.ensures, c.requires, difference_left a.x.now a.y.now, difference_right a.x.now a.y.now)

pub loop-i-preserved : goal.loop-i-preserved
loop-i-preserved c =
    let a = c.args in
    omega (arith, difference_further a.x.now a.y.now c.loop-i.i c.loop-i.invariant.3 (omega arith) (omega arith) c.if-x-i.false)

pub returns-then-x-i : goal.returns-then-x-i
returns-then-x-i c =
    let a = c.args in
    omega (arith, difference_most a.x.now a.y.now c.loop-i.i c.if-x-i.true)
