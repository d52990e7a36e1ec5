-- `list` writes the listed cuts run by run. The loop's invariant: the scan has reached `start`, and the cuts before it stand at the front.
use mathlib.Core.Path.{◌≡◌}
use mathlib.Core.List.{map}
use Prim.Native.Nat.{◌-◌}
use lib.ListN.{length}
use Rattle.definitions.specs.Words.{placed}
use Rattle.definitions.specs.Table.{rank_of}
use Rattle.runs.specs.Runs.{Reached}
use Rattle.cuts.proofs.Lists.{passed}
use Rattle.cuts.proofs.list.Given as goal

abbrev pub invariant-loop-start : goal.invariant-loop-start
invariant-loop-start l = (l.m ≡ length l.pattern) × Reached (map (rank_of l.order) l.pattern) l.start
    × (l.n ≡ length (passed l.order l.pattern l.start)) × (l.cuts ≡ placed (passed l.order l.pattern l.start) l.initial.cuts)

abbrev pub decreases-loop-start : goal.decreases-loop-start
decreases-loop-start l = l.m - l.start
