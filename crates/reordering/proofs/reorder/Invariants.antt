-- `reorder` turns ranks where they stand. The invariant: those passed are turned, the others stand as before.
use mathlib.Core.Path.{◌≡◌}
use mathlib.Core.List.{map}
use lib.ListN.{take}
use Rattle.definitions.specs.Words.{placed}
use Rattle.definitions.specs.Services.{sample_order}
use Rattle.reordering.proofs.Reordering.{turned}
use Rattle.reordering.proofs.reorder.Given as goal

abbrev pub invariant-loop-rank : goal.invariant-loop-rank
invariant-loop-rank l = l.ranks ≡ placed (map (turned l.from sample_order) (take l.rank-index l.initial.ranks)) l.initial.ranks
