-- `equal_many` decides sameness. The loop's invariant: the slices are the same where the words passed agree and the rest does.
use mathlib.Core.Path.{◌≡◌}
use mathlib.Core.Bool.{◌&&◌}
use lib.ListN.{drop}
use Rattle.definitions.specs.Words.{same}
use Rattle.equality.proofs.equal_many.Given as goal

abbrev pub invariant-loop-i : goal.invariant-loop-i
invariant-loop-i l = same l.x l.y ≡ l.alike && same (drop l.i l.x) (drop l.i l.y)
