-- `digit_count` takes a digit away a turn. The invariant: the digits of the whole are those counted and those of the rest.
use mathlib.Core.Path.{◌≡◌}
use Prim.Native.Nat.{◌+◌, ◌-◌}
use Rattle.definitions.specs.Programs.{digits_up_to, digit_count}
use Rattle.decimals.proofs.digit_count.Given as goal

abbrev pub invariant-loop-n : goal.invariant-loop-n
invariant-loop-n l = digit_count l.number + 1 ≡ l.n + digits_up_to (10 - l.n) l.rest
