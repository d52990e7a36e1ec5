-- `put_digits` stores the digits from the last to the first. The invariant: what is left to write, placed over what is written, is the whole.
use mathlib.Core.Path.{◌≡◌}
use Rattle.definitions.specs.Words.{placed}
use Rattle.definitions.specs.Programs.{digits}
use Rattle.decimals.proofs.put_digits.Given as goal

abbrev pub invariant-loop-i : goal.invariant-loop-i
invariant-loop-i l = placed (digits l.i l.rest) l.out ≡ placed (digits l.count l.number) l.initial.out
