-- `alike` goes block by block. The invariant: the blocks passed agree, so what is left decides.
use mathlib.Core.Path.{◌≡◌}
use Prim.Native.Nat.{◌*◌}
use lib.ListN.{drop}
use Rattle.definitions.specs.Words.{lexlt}
use Rattle.compare.proofs.alike.Given as goal

abbrev pub invariant-loop-i : goal.invariant-loop-i
invariant-loop-i l = lexlt l.x l.y ≡ lexlt (drop (8 * l.i) l.x) (drop (8 * l.i) l.y)
