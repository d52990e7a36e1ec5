-- `restore` places samples at the front of a slice. The invariant: those by the steps passed stand there, and the last of them is known; before the first it is 0.
use Rattle.std.proofs.Common.{◌≡◌, ◌∷◌, get_or, take}
use Rattle.definitions.specs.Words.{placed}
use Rattle.definitions.specs.Steps.{samples_from}
use Rattle.steps.proofs.restore.Given as goal

abbrev pub invariant-loop-i : goal.invariant-loop-i
invariant-loop-i l = (l.sample ≡ get_or (0 ∷ samples_from 0 l.steps) l.i 0) × (l.text ≡ placed (take l.i (samples_from 0 l.steps)) l.initial.text)
