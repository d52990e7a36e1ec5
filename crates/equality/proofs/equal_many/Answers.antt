-- `equal_many` decides sameness. The loop's invariant: the slices are the same where the words passed agree and the rest does.
use mathlib.Core.Path.{sym, ◌∙◌}
use native.Mathlib.Omega.{arith}
use Rattle.lists.specs.Sameness.{passed, all_passed}
use Rattle.equality.proofs.equal_many.Goals as goal

pub loop-i-preserved : goal.loop-i-preserved
loop-i-preserved c =
    let a = c.args in
    c.loop-i.invariant ∙ passed a.x.now a.y.now c.loop-i.i (omega arith) (omega arith) c.loop-i.alike

pub returns : goal.returns
returns c =
    let a = c.args in
    sym (c.loop-i.invariant ∙ all_passed a.x.now a.y.now c.loop-i.i (omega arith) (omega arith) c.loop-i.alike)
