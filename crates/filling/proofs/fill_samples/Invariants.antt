-- `fill_samples` goes up from rule 1. The invariant: the rules before r are written, and their halves are in order.
use Rattle.filling.specs.Filling.{Filling}
use Rattle.filling.proofs.fill_samples.Given as goal

abbrev pub invariant-loop-r : goal.invariant-loop-r
invariant-loop-r l = Filling l.order l.table l.r l.work
