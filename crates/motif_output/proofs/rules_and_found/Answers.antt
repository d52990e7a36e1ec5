-- `rules_and_found` writes the number of rules, and in the rest of the slice what was found.
use native.Mathlib.Omega.{arith}
use lib.ListN.{length-take, length-drop}
use Rattle.definitions.specs.Programs.{named, rules_name, found_lines}
use Rattle.lines.proofs.Turns.{both_stored}
use Rattle.lines.proofs.Lines.{named_most}
use Rattle.motif_output.proofs.Printing.{found_most}
use Rattle.motif_output.proofs.rules_and_found.Goals as goal

pub slice_bounds-found_lines-count : goal.slice_bounds-found_lines-count
slice_bounds-found_lines-count c =
    omega (arith, c.put_named-n.ensures.value, c.put_named-n.auto.out, named_most rules_name c.args.rules)

pub slice_bounds-found_lines-start : goal.slice_bounds-found_lines-start
slice_bounds-found_lines-start c =
    omega (arith, c.put_named-n.ensures.value, c.put_named-n.auto.out, named_most rules_name c.args.rules)

pub found_lines-m-requires : goal.found_lines-m-requires
found_lines-m-requires c =
    simp (length-take, length-drop) (omega (arith, c.put_named-n.ensures.value, c.put_named-n.auto.out, named_most rules_name c.args.rules))

pub overflow_add-result : goal.overflow_add-result
overflow_add-result c =
    omega (arith, c.put_named-n.ensures.value, c.found_lines-m.ensures.value, named_most rules_name c.args.rules, found_most c.args.positions.now)

pub returns : goal.returns
returns c =
    let t = c.args.positions.now in
    let (first, second) = both_stored (named rules_name c.args.rules) (found_lines t) c.args.out.now c.put_named-n.new.out c.found_lines-m.new.out c.put_named-n.result c.found_lines-m.result (omega (arith, named_most rules_name c.args.rules, found_most t)) c.put_named-n.ensures.value c.put_named-n.ensures.out_after c.found_lines-m.ensures.value c.found_lines-m.ensures.out_after in
    record { value = first; out_after = second }
