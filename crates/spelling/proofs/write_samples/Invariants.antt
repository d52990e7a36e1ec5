-- `write_samples` places the bytes of ranks at the front of a slice. The invariant: those of the ranks passed stand there.
use mathlib.Core.Path.{◌≡◌}
use mathlib.Core.List.{map}
use lib.ListN.{take}
use Rattle.definitions.specs.Words.{placed}
use Rattle.definitions.specs.Table.{byte_of}
use Rattle.definitions.specs.Services.{sample_order}
use Rattle.spelling.proofs.write_samples.Given as goal

abbrev pub invariant-loop-i : goal.invariant-loop-i
invariant-loop-i l = l.res ≡ placed (map (byte_of sample_order) (take l.i l.ranks)) l.initial.res
