-- `rearrange` places steps at the front of a slice, each from the sample before; before the first that is 0. The invariant: those of the samples passed stand there.
use Rattle.std.proofs.Common.{sym, arith}
use Rattle.lists.specs.Lists.{placed_none}
use Rattle.steps.proofs.Writing.{step_more, steps_all}
use Rattle.steps.proofs.rearrange.Goals as goal

pub loop-i-init : goal.loop-i-init
loop-i-init c = sym (placed_none c.args.steps.now)

pub loop-i-preserved : goal.loop-i-preserved
loop-i-preserved c =
    let a = c.args in
    step_more a.text.now a.steps.now c.loop-i.steps c.loop-i.i c.sample_before.result (omega arith) (omega arith) c.sample_before.ensures c.loop-i.invariant

pub returns : goal.returns
returns c =
    let a = c.args in
    steps_all a.text.now a.steps.now c.loop-i.steps c.loop-i.i (λ j h. omega (arith, c.type_inv.text j)) (omega arith) c.loop-i.invariant
