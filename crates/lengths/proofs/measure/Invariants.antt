-- `measure` goes from the first rule up. The invariant: the rules before r have their lengths.
use Rattle.lengths.specs.Lengths.{Sized}
use Rattle.lengths.proofs.measure.Given as goal

abbrev pub invariant-loop-r : goal.invariant-loop-r
invariant-loop-r l = Sized l.table l.r l.work
