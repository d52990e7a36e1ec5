-- `first_fitting` goes down from the end of the list. The loop's invariant: the tails from i on fit. The first cut's does not, so the loop ends behind it.
use mathlib.Core.Path.{◌≡◌}
use Prim.Native.Nat.{◌-◌}
use Rattle.joins.proofs.Joining.{FitBehind}
use Rattle.joins.proofs.first_fitting.Given as goal

abbrev pub invariant-loop-i : goal.invariant-loop-i
invariant-loop-i l = (l.low ≡ l.fn.pattern.size - l.right) × FitBehind l.work l.fn.pattern.size l.fn.pattern.cuts l.right l.i

abbrev pub decreases-loop-i : goal.decreases-loop-i
decreases-loop-i l = l.i
