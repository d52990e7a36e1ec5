-- `put_named` writes a name, and in the rest of the slice the line of a number.
use native.Mathlib.Omega.{arith}
use Rattle.decimals.proofs.Digits.{line_most}
use Rattle.lines.proofs.Lines.{named_stored}
use Rattle.lines.proofs.put_named.Goals as goal

pub overflow_add-result : goal.overflow_add-result
overflow_add-result c =
    omega (arith, c.put_decimal_line-m.ensures.value, c.put_bytes-n.ensures.value, line_most c.args.number)

pub returns : goal.returns
returns c =
    let (first, second) = named_stored c.args.name.now c.args.number c.args.out.now c.put_bytes-n.result c.put_decimal_line-m.result c.put_bytes-n.new.out c.put_decimal_line-m.new.out c.requires c.put_bytes-n.ensures.value c.put_bytes-n.ensures.out_after c.put_decimal_line-m.ensures.value c.put_decimal_line-m.ensures.out_after in
    record { value = first; out_after = second }
