-- `put_report` writes the lines of the runs, and in the rest of the slice the sum of the counts.
use Prim.Native.Nat.{◌+◌, ◌≤◌}
use native.Mathlib.Omega.{arith}
use lib.ListN.{length, length-take, length-drop}
use Rattle.lyndon.specs.Ranks.{slice_bytes}
use Rattle.decimals.proofs.Digits.{line_most}
use Rattle.census_output.proofs.Tallying.{tallies_most, report_stored}
use Rattle.census_output.proofs.put_report.Goals.{After-put_tallies-n}
use Rattle.census_output.proofs.put_report.Goals as goal

-- behind the lines of the runs there is room for a number
room : (p : After-put_tallies-n) → p.put_tallies-n.result + 11 ≤ length p.args.out.now
room p =
    let bytes = slice_bytes p.args.runs.now (λ i h. omega (arith, p.shared_slice_known-1.given i)) in
    omega (arith, p.put_tallies-n.ensures.value, tallies_most p.args.q p.args.runs.now p.args.counts.now p.requires.0 bytes, p.requires.1)

pub slice_bounds-put_decimal_line-count : goal.slice_bounds-put_decimal_line-count
slice_bounds-put_decimal_line-count c = omega (arith, room (goal.at.slice_bounds-put_decimal_line-count c).After-put_tallies-n, c.put_tallies-n.auto.out)

pub slice_bounds-put_decimal_line-start : goal.slice_bounds-put_decimal_line-start
slice_bounds-put_decimal_line-start c = omega (arith, room (goal.at.slice_bounds-put_decimal_line-start c).After-put_tallies-n, c.put_tallies-n.auto.out)

pub put_decimal_line-m-requires : goal.put_decimal_line-m-requires
put_decimal_line-m-requires c = simp (length-take, length-drop) (omega (arith, room (goal.at.put_decimal_line-m-requires c).After-put_tallies-n, c.put_tallies-n.auto.out))

pub overflow_add-result : goal.overflow_add-result
overflow_add-result c =
    omega (arith, room (goal.at.overflow_add-result c).After-put_tallies-n, c.well_formed.1.1.1.0, c.put_decimal_line-m.ensures.value, line_most c.sum.result)

pub returns : goal.returns
returns c =
    let a = c.args in
    let (first, second) = report_stored a.q a.runs.now a.counts.now a.out.now c.put_tallies-n.new.out c.put_decimal_line-m.new.out c.put_tallies-n.result c.put_decimal_line-m.result c.sum.result (room (goal.at.returns c).After-put_tallies-n) c.sum.ensures c.put_tallies-n.ensures.value c.put_tallies-n.ensures.out_after c.put_decimal_line-m.ensures.value c.put_decimal_line-m.ensures.out_after in
    record { value = first; out_after = second }

pub sum-requires : goal.sum-requires
sum-requires c = c.requires.0.few
