-- `fill_all` stores the mark's rank at the place of rule 0, and goes on with the samples.
use Rattle.filling.proofs.Rules.{mark_room, mark_written}
use Rattle.filling.proofs.fill_all.Goals as goal

pub bounds-work-start : goal.bounds-work-start
bounds-work-start c = mark_room c.args.order c.args.table.now c.args.work.now c.requires.0

pub fill_samples-requires : goal.fill_samples-requires
fill_samples-requires c = (mark_written c.args.order c.args.table.now c.args.work.now c.requires.0 c.requires.1, c.requires.1)
