-- `expand` walks from the root to the end or the bound. The loop's invariant: the walk stands where `Expanding` says.
use Prim.Native.Nat.{◌+◌, ◌-◌, ◌≤◌}
use Rattle.expansion.specs.Expansion.{Expanding}
use Rattle.expansion.proofs.expand.Given as goal

abbrev pub invariant-loop-p : goal.invariant-loop-p
invariant-loop-p l = (l.p.written + l.p.pending ≤ 2048) × Expanding l.order l.table l.work l.p.rule l.p.written l.p.pending

abbrev pub decreases-loop-p : goal.decreases-loop-p
decreases-loop-p l = 4098 - (l.p.written + l.p.written + l.p.pending)
