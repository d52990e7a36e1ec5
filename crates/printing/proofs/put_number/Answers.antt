-- `put_number` writes the line of the number behind its name, and answers what stands before its end.
use native.Mathlib.Omega.{arith}
use Rattle.printing.proofs.Numbers.{without_end}
use Rattle.printing.proofs.put_number.Goals as goal

pub overflow_sub-result : goal.overflow_sub-result
overflow_sub-result c = omega (arith, (without_end _ _ _ _ _ c.put_named.ensures.value c.put_named.ensures.out_after).0)

pub returns : goal.returns
returns c =
    let (size, longer, within) = without_end c.args.name.now c.args.n c.args.out.now c.put_named.new.out c.put_named.result c.put_named.ensures.value c.put_named.ensures.out_after in
    record { value = omega (arith, size); fits = (omega (arith, size, longer), omega (arith, within)); out_after = c.put_named.ensures.out_after }
