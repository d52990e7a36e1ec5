-- `blocks_on_heading` looks at a block a turn. The loop's invariant: the bytes of the blocks passed are on heading.
use mathlib.Core.Path.{◌≡◌}
use mathlib.Core.Bool.{true}
use Prim.Native.Nat.{◌*◌}
use Rattle.definitions.specs.Words.{every}
use Rattle.definitions.specs.Profile.{on_heading}
use Rattle.profile.proofs.blocks_on_heading.Given as goal

abbrev pub invariant-loop-i : goal.invariant-loop-i
invariant-loop-i l = every (on_heading l.text) (16 * l.i) ≡ true
