-- `equal_by_sixteen` compares block after block. The loop's invariant: the blocks passed are the same. Then the last sixteen words decide (`last_decides`).
use mathlib.Core.Path.{◌≡◌}
use Prim.Native.Nat.{◌*◌}
use lib.ListN.{take}
use Rattle.equality.proofs.equal_by_sixteen.Given as goal

abbrev pub invariant-loop-i : goal.invariant-loop-i
invariant-loop-i l = take (16 * l.i) l.x ≡ take (16 * l.i) l.y
