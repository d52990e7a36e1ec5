-- `rearrange` places steps at the front of a slice, each from the sample before; before the first that is 0. The invariant: those of the samples passed stand there.
use Rattle.std.proofs.Common.{◌≡◌, ◌∷◌, take}
use Rattle.definitions.specs.Words.{placed}
use Rattle.definitions.specs.Steps.{steps_of}
use Rattle.steps.proofs.rearrange.Given as goal

abbrev pub invariant-loop-i : goal.invariant-loop-i
invariant-loop-i l = l.steps ≡ placed (take l.i (steps_of (0 ∷ l.text))) l.initial.steps
