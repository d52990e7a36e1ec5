-- `measure` goes from the first rule up. The invariant: the rules passed are measured.
use Rattle.naive_tests.specs.Lengths.{Measured}
use Rattle.naive_tests.proofs.measure.Given as goal

abbrev pub invariant-loop-r : goal.invariant-loop-r
invariant-loop-r l = Measured l.table l.r l.lengths
