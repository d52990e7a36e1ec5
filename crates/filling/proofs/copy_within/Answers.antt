-- `copy_within` copies word by word. The invariant: the first i words are copied.
use Rattle.filling.proofs.Copies.{copied_none, copied_more}
use Rattle.filling.proofs.copy_within.Goals as goal

pub loop-i-init : goal.loop-i-init
loop-i-init c = let a = c.args in copied_none a.work.now a.from a.to

pub loop-i-preserved : goal.loop-i-preserved
loop-i-preserved c = let a = c.args in copied_more a.work.now c.loop-i.work a.from a.to c.loop-i.i c.loop-i.invariant
