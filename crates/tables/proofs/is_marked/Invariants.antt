-- `is_marked` decides whether the first rank alone is the mark. The loop's invariant: it is decided of the ranks passed.
use Prim.Native.Nat.{◌+◌}
use Rattle.tables.proofs.Marks.{Decided}
use Rattle.tables.proofs.is_marked.Given as goal

abbrev pub invariant-loop-rank : goal.invariant-loop-rank
invariant-loop-rank l = Decided l.refuted l.work (l.rank-index + 1)
