-- `copy` places one slice at the front of another. The invariant: the entries passed stand there.
use mathlib.Core.Path.{◌≡◌}
use lib.ListN.{take}
use Rattle.definitions.specs.Words.{placed}
use Rattle.slices.proofs.copy.Given as goal

abbrev pub invariant-loop-i : goal.invariant-loop-i
invariant-loop-i g l = l.to ≡ placed (take l.i l.from) l.initial.to
