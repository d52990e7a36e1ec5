-- `put_decimal_line` writes a number and the byte that ends a line.
use native.Mathlib.Omega.{arith}
use Rattle.definitions.specs.Programs.{line}
use Rattle.decimals.proofs.Digits.{count_range, decimal_length}
use Rattle.decimals.proofs.put_decimal_line.Goals as goal

pub put_decimal-requires : goal.put_decimal-requires
put_decimal-requires c =
    omega (arith, c.requires, decimal_length c.args.number, (count_range c.args.number).1)

pub returns : goal.returns
unfolding line
returns c =
    record { value = c.put_decimal.ensures.value; out_after = c.put_decimal.ensures.out_after }
