-- `measure` goes from the first rule up. The invariant: the rules passed are measured.
use native.Mathlib.Omega.{arith}
use Rattle.naive_tests.proofs.Testing.{one_measured}
use Rattle.naive_tests.proofs.measure.Goals as goal

pub loop-r-preserved : goal.loop-r-preserved
loop-r-preserved c = one_measured c.args.table.now c.loop-r.lengths c.loop-r.r c.length_of.result (omega arith) c.loop-r.invariant c.length_of.ensures
