-- `expand` walks from the root to the end or the bound. The loop's invariant: the walk stands where `Expanding` says.
use native.Mathlib.Omega.{arith}
use Rattle.expansion.proofs.Walking.{walk_start, walk_long}
use Rattle.expansion.proofs.expand.Goals as goal

pub loop-p-init : goal.loop-p-init
loop-p-init c =
    let a = c.args in
    (omega arith, walk_start a.order a.table.now a.work.now c.requires.0)

pub expand_rule-requires : goal.expand_rule-requires
expand_rule-requires c =
    record {
      shaped = c.requires.0;
      most = c.requires.1;
      long = omega arith;
      room = c.loop-p-test.true;
      expanding = c.loop-p.invariant.1;
    }

pub returns : goal.returns
returns c =
    let a = c.args in
    walk_long a.order a.table.now c.loop-p.work c.loop-p.p.rule c.loop-p.p.written c.loop-p.p.pending c.requires.0 (omega arith) (omega arith) c.loop-p.invariant.1

pub overflow_sub-root : goal.overflow_sub-root
overflow_sub-root c = omega (arith, c.requires.0.even, c.requires.0.filled)
