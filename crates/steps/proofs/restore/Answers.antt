-- `restore` places samples at the front of a slice. The invariant: those by the steps passed stand there, and the last of them is known; before the first it is 0.
use Rattle.std.proofs.Common.{refl, sym, arith}
use Rattle.lists.specs.Lists.{placed_none}
use Rattle.steps.proofs.Writing.{sample_more, samples_all}
use Rattle.steps.proofs.restore.Goals as goal

pub loop-i-init : goal.loop-i-init
loop-i-init c = (refl, sym (placed_none c.args.text.now))

pub loop-i-preserved : goal.loop-i-preserved
loop-i-preserved c =
    let a = c.args in
    sample_more a.steps.now a.text.now c.loop-i.text c.loop-i.i c.loop-i.sample (omega arith) (omega arith) c.loop-i.invariant.0 c.loop-i.invariant.1

pub returns : goal.returns
returns c =
    let a = c.args in
    samples_all a.steps.now a.text.now c.loop-i.text c.loop-i.i (λ j h. omega (arith, c.type_inv.steps j)) (omega arith) c.loop-i.invariant.1
