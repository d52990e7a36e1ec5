-- `smaller_from` compares symbol by symbol. The invariant: the symbols passed agree, so what is left decides.
use mathlib.Core.Path.{◌≡◌}
use lib.ListN.{drop}
use Rattle.definitions.specs.Words.{lexlt}
use Rattle.compare.proofs.smaller_from.Given as goal

abbrev pub invariant-loop-i : goal.invariant-loop-i
invariant-loop-i l = lexlt (drop l.from l.x) (drop l.from l.y) ≡ lexlt (drop l.i l.x) (drop l.i l.y)
