-- `put_decimal` writes the digits of a number, and the byte behind them.
use native.Mathlib.Omega.{arith}
use Rattle.decimals.proofs.Digits.{decimal_length, decimal_stored}
use Rattle.decimals.proofs.put_decimal.Goals as goal

pub put_digits-requires : goal.put_digits-requires
put_digits-requires c =
    omega (arith, c.digit_count-n.ensures, decimal_length c.args.number)

pub bounds-out-n : goal.bounds-out-n
bounds-out-n c =
    omega (arith, c.digit_count-n.ensures, decimal_length c.args.number, c.put_digits.auto.out)

pub overflow_add-result : goal.overflow_add-result
overflow_add-result c =
    omega (arith, c.digit_count-n.ensures, decimal_length c.args.number)

pub returns : goal.returns
returns c =
    let (first, second) = decimal_stored c.args.number c.args.behind c.digit_count-n.result c.args.out.now c.put_digits.new.out c.requires c.digit_count-n.ensures c.put_digits.ensures in
    record { value = first; out_after = second }
