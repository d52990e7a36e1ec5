-- `write` places the ranks of samples at the front of a slice. The invariant: those of the samples passed stand there.
use mathlib.Core.Path.{◌≡◌}
use mathlib.Core.List.{map}
use lib.ListN.{take}
use Rattle.definitions.specs.Words.{placed}
use Rattle.definitions.specs.Table.{rank_of}
use Rattle.ranks.proofs.write.Given as goal

abbrev pub invariant-loop-i : goal.invariant-loop-i
invariant-loop-i l = l.ranks ≡ placed (map (rank_of l.order) (take l.i l.samples)) l.initial.ranks
