-- `first_difference` goes up to the first difference. The loop's invariant: that is not before i, nor behind the shorter tail's end.
use Prim.Native.Nat.{◌-◌, ◌≤◌}
use lib.ListN.{length}
use Rattle.definitions.specs.Words.{first_difference}
use Rattle.tails.proofs.first_difference.Given as goal

abbrev pub invariant-loop-i : goal.invariant-loop-i
invariant-loop-i l = (l.short ≤ length l.x) × (l.short ≤ length l.y) × (first_difference l.x l.y ≤ l.short) × (l.i ≤ first_difference l.x l.y)

abbrev pub decreases-loop-i : goal.decreases-loop-i
decreases-loop-i l = l.short - l.i
