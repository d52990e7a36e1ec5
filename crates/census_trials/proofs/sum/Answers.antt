-- `sum` goes over the counts. The loop's invariant: each is a word, so that their sum is one of 64 bits.
use native.Mathlib.Omega.{arith}
use Rattle.census_trials.proofs.sum.Goals as goal

pub overflow_add-s : goal.overflow_add-s
overflow_add-s c = omega (arith, c.type_inv.counts c.loop-count.count-index)

pub loop-count-preserved : goal.loop-count-preserved
loop-count-preserved c = omega (arith, c.type_inv.counts c.loop-count.count-index)
