-- `copy` places one slice at the front of another. The invariant: the entries passed stand there.
use mathlib.Core.Path.{sym, ◌∙◌, ap}
use native.Mathlib.Omega.{arith}
use lib.ListN.{set}
use Rattle.lists.specs.Lists.{placed_none}
use Rattle.slices.proofs.Fronts.{copied_more, taken_all}
use Rattle.slices.proofs.copy.Goals as goal

pub loop-i-init : goal.loop-i-init
loop-i-init g c = sym (placed_none c.args.to.now)

pub loop-i-preserved : goal.loop-i-preserved
loop-i-preserved g c =
    let a = c.args in
    ap (set c.loop-i.to c.loop-i.i) c.index-from-i.is
    ∙ copied_more a.from.now a.to.now c.loop-i.to c.index-from-i.result c.loop-i.i (omega arith) (omega arith) c.loop-i.invariant

pub returns : goal.returns
returns g c =
    let a = c.args in
    taken_all a.from.now a.to.now c.loop-i.to c.loop-i.i (omega arith) c.loop-i.invariant
