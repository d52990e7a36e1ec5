-- `find` walks the bucket of the two words from its newest rule down. The invariant is the walk's (Walk.antt), whatever number of rules the links are those of.
use lib.ListN.{length}
use Prim.Native.Nat.{ℕ, ◌+◌, ◌*◌, ◌≤◌}
use Rattle.dict.specs.Dictionary.{Dict}
use Rattle.dict.proofs.Walk.{Walk}
use Rattle.dict.proofs.find.Given as goal

abbrev pub invariant-loop-next : goal.invariant-loop-next
invariant-loop-next l = (2 * l.next ≤ length l.rules) × (1024 + l.next ≤ length l.links) × ((n : ℕ) → Dict l.rules l.links n → Walk l.rules n l.x l.y l.next)

abbrev pub decreases-loop-next : goal.decreases-loop-next
decreases-loop-next l = l.next
