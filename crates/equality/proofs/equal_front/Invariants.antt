-- `equal_front` decides sameness of two fronts. The loop's invariant: the words passed agree, so the rest decides.
use mathlib.Core.Path.{◌≡◌}
use lib.ListN.{take, drop}
use Rattle.definitions.specs.Words.{same}
use Rattle.equality.proofs.equal_front.Given as goal

abbrev pub invariant-loop-i : goal.invariant-loop-i
invariant-loop-i l = same (take l.n l.x) (take l.n l.y) ≡ same (drop l.i (take l.n l.x)) (drop l.i (take l.n l.y))
