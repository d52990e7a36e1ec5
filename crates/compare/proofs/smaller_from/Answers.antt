-- `smaller_from` compares symbol by symbol. The invariant: the symbols passed agree, so what is left decides.
use mathlib.Core.Path.{sym, ◌∙◌}
use native.Mathlib.Omega.{arith}
use Rattle.compare.proofs.Compare.{agree, differ, ended}
use Rattle.compare.proofs.smaller_from.Goals as goal

pub returns-then-a-b : goal.returns-then-a-b
returns-then-a-b c =
    let a = c.args in
    sym (c.loop-i.invariant ∙ differ a.x.now a.y.now c.loop-i.i (omega arith) (omega arith) c.if-a-b.true)

pub loop-i-preserved : goal.loop-i-preserved
loop-i-preserved c =
    let a = c.args in
    c.loop-i.invariant ∙ agree a.x.now a.y.now c.loop-i.i (omega arith) (omega arith) c.if-a-b.false

pub returns : goal.returns
returns c =
    let a = c.args in
    sym (c.loop-i.invariant ∙ ended a.x.now a.y.now c.loop-i.i (omega arith))
