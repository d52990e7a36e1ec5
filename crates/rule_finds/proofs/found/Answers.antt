-- `found` adds the words of both halves. The cuts in them do not reach PACK together, so dividing drops them, and the numbers are added.
use native.Mathlib.Omega.{arith}
use Rattle.rule_finds.proofs.found.Goals as goal

pub overflow_add-result-3 : goal.overflow_add-result-3
overflow_add-result-3 c = omega (arith, c.requires.2, c.requires.3)

pub overflow_mul-result : goal.overflow_mul-result
overflow_mul-result c = omega (arith, c.requires.2, c.requires.3)

pub overflow_add-result-4 : goal.overflow_add-result-4
overflow_add-result-4 c = omega (arith, c.requires.2, c.requires.3, c.requires.4)

pub returns : goal.returns
returns c = (omega (arith, c.requires.3, c.requires.4), omega (arith, c.requires.3, c.requires.4))
