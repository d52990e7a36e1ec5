-- `found_lines` writes the number of positions, and in the rest of the slice the positions.
use native.Mathlib.Omega.{arith}
use lib.ListN.{length, length-take, length-drop}
use Rattle.definitions.specs.Programs.{decimal, named, lines_of, found_name, found_lines}
use Rattle.lines.proofs.Turns.{both_stored}
use Rattle.lines.proofs.Lines.{named_most, decimals_most}
use Rattle.motif_output.proofs.found_lines.Goals as goal

pub slice_bounds-put_decimal_lines-count : goal.slice_bounds-put_decimal_lines-count
slice_bounds-put_decimal_lines-count c =
    omega (arith, c.put_named-n.ensures.value, c.put_named-n.auto.out, named_most found_name (length c.args.positions.now))

pub slice_bounds-put_decimal_lines-start : goal.slice_bounds-put_decimal_lines-start
slice_bounds-put_decimal_lines-start c =
    omega (arith, c.put_named-n.ensures.value, c.put_named-n.auto.out, named_most found_name (length c.args.positions.now))

pub put_decimal_lines-m-requires : goal.put_decimal_lines-m-requires
put_decimal_lines-m-requires c =
    simp (length-take, length-drop) (omega (arith, c.put_named-n.ensures.value, c.put_named-n.auto.out, named_most found_name (length c.args.positions.now)))

pub overflow_add-result : goal.overflow_add-result
overflow_add-result c =
    omega (arith, c.put_named-n.ensures.value, c.put_decimal_lines-m.ensures.value, named_most found_name (length c.args.positions.now), decimals_most c.args.positions.now)

pub returns : goal.returns
unfolding found_lines
returns c =
    let t = c.args.positions.now in
    let (first, second) = both_stored (named found_name (length t)) (lines_of decimal t) c.args.out.now c.put_named-n.new.out c.put_decimal_lines-m.new.out c.put_named-n.result c.put_decimal_lines-m.result (omega (arith, named_most found_name (length t), decimals_most t)) c.put_named-n.ensures.value c.put_named-n.ensures.out_after c.put_decimal_lines-m.ensures.value c.put_decimal_lines-m.ensures.out_after in
    record { value = first; out_after = second }
