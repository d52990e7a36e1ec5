-- `sum` goes over the counts. The loop's invariant: each is a word, so that their sum is one of 64 bits.
use Prim.Native.Nat.{◌*◌, ◌≤◌}
use Rattle.census_trials.proofs.sum.Given as goal

abbrev pub invariant-loop-count : goal.invariant-loop-count
invariant-loop-count l = l.s ≤ 4294967296 * l.count-index
