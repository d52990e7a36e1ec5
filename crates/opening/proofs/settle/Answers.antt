-- `settle` judges the table in the front of the work slice, and clears it where it refuses.
use Rattle.opening.proofs.Settling.{settled_refused, settled_done}
use Rattle.opening.proofs.settle.Goals as goal

pub returns-in_default : goal.returns-in_default
returns-in_default c =
    let a = c.args in
    settled_refused a.order a.table.now a.work.now c.load-a.new.work c.load-a.result c.requires.2 c.load-a.auto.work c.load-a.ensures
    c.clear_front.new.work c.in_default.is c.clear_front.ensures

pub returns : goal.returns
returns c =
    let a = c.args in
    settled_done a.order a.table.now a.work.now c.load-a.new.work c.load-a.result c.requires.2 c.load-a.auto.work c.load-a.ensures c.in-Ok.is
