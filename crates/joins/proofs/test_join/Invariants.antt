-- `test_join` tests the cuts upwards, from the first whose tail fits. The loop's invariant: what is found is found at the cuts passed, the tests are those of them that
-- fit, and the tails of the others fit. NO_CUT ends the loop, if no cut does.
use mathlib.Core.Path.{◌≡◌}
use Prim.Native.Nat.{ℕ, ◌+◌, ◌-◌, ◌≤◌, ◌<◌}
use lib.ListN.{get_or}
use Rattle.lists.specs.Parts.{part}
use Rattle.lyndon.specs.Tests.{fitting}
use Rattle.layout.specs.Layout.{CUTS}
use Rattle.joins.proofs.Joining.{Sought}
use Rattle.joins.proofs.test_join.Given as goal

abbrev pub invariant-loop-pattern : goal.invariant-loop-pattern
invariant-loop-pattern l = (l.join ≡ l.at + l.left)
    × (l.i ≤ l.fn.pattern.cuts)
    × ((j : ℕ) → l.i ≤ j → j < l.fn.pattern.cuts → l.fn.pattern.size - get_or l.work (CUTS + j) 0 ≤ l.right)
    × Sought l.work l.fn.pattern.size l.at l.left l.right l.i l.tested.found
    × (l.tested.tests ≡ l.before + fitting l.fn.pattern.size l.left l.right (part CUTS l.i l.work))
    × (l.tested.tests ≤ l.before + l.i)

abbrev pub decreases-loop-pattern : goal.decreases-loop-pattern
decreases-loop-pattern l = l.fn.pattern.cuts - l.i
