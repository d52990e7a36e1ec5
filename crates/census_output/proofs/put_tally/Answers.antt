-- `put_tally` writes the bytes of a run, and in the rest of the slice its count, which ends the line.
use Prim.Native.Nat.{◌+◌, ◌*◌, ◌≤◌}
use native.Mathlib.Omega.{arith}
use lib.ListN.{length, length-take, length-drop}
use Rattle.definitions.specs.Programs.{spaced}
use Rattle.decimals.proofs.Digits.{line_most}
use Rattle.lines.proofs.Lines.{spaced_most, named_stored}
use Rattle.census_output.proofs.put_tally.Goals.{After-put_spaced-n}
use Rattle.census_output.proofs.put_tally.Goals as goal

-- four bytes for each byte of the run
module _ (b : After-put_spaced-n) where
  small : length (spaced b.args.run.now) ≤ 4 * length b.args.run.now
  small = spaced_most b.args.run.now (λ i h. omega (arith, b.type_inv.run i))

  room : b.put_spaced-n.result + 11 ≤ length b.args.out.now
  room = omega (arith, small, b.put_spaced-n.ensures.value, b.requires)

pub slice_bounds-put_decimal_line-count : goal.slice_bounds-put_decimal_line-count
slice_bounds-put_decimal_line-count c = omega (arith, room (goal.at.slice_bounds-put_decimal_line-count c).After-put_spaced-n, c.put_spaced-n.auto.out)

pub slice_bounds-put_decimal_line-start : goal.slice_bounds-put_decimal_line-start
slice_bounds-put_decimal_line-start c = omega (arith, room (goal.at.slice_bounds-put_decimal_line-start c).After-put_spaced-n, c.put_spaced-n.auto.out)

pub put_decimal_line-m-requires : goal.put_decimal_line-m-requires
put_decimal_line-m-requires c = simp (length-take, length-drop) (omega (arith, room (goal.at.put_decimal_line-m-requires c).After-put_spaced-n, c.put_spaced-n.auto.out))

pub overflow_add-result : goal.overflow_add-result
overflow_add-result c =
    omega (arith, room (goal.at.overflow_add-result c).After-put_spaced-n, c.put_decimal_line-m.ensures.value, line_most c.args.count)

pub returns : goal.returns
returns c =
    let (first, second) = named_stored (spaced c.args.run.now) c.args.count c.args.out.now c.put_spaced-n.result c.put_decimal_line-m.result c.put_spaced-n.new.out c.put_decimal_line-m.new.out (omega (arith, small (goal.at.returns c).After-put_spaced-n, c.requires)) c.put_spaced-n.ensures.value c.put_spaced-n.ensures.out_after c.put_decimal_line-m.ensures.value c.put_decimal_line-m.ensures.out_after in
    record { value = first; out_after = second }
