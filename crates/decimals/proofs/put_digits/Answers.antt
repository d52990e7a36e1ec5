-- `put_digits` stores the digits from the last to the first. The invariant: what is left to write, placed over what is written, is the whole.
use mathlib.Core.Path.{◌∙◌, refl, sym}
use native.Mathlib.Omega.{arith}
use Rattle.decimals.proofs.Digits.{digit_stored, digits_none}
use Rattle.decimals.proofs.put_digits.Goals as goal

pub loop-i-init : goal.loop-i-init
loop-i-init c = refl

pub loop-i-preserved : goal.loop-i-preserved
loop-i-preserved c =
    digit_stored c.loop-i.i c.loop-i.rest c.loop-i.out (omega arith) (omega arith) ∙ c.loop-i.invariant

pub returns : goal.returns
returns c =
    sym (digits_none c.loop-i.i c.loop-i.rest c.loop-i.out (omega arith)) ∙ c.loop-i.invariant
