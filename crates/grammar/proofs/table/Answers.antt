-- `table` places the marked text and makes its table.
use native.Mathlib.Omega.{arith}
use Rattle.definitions.specs.Services.{sample_order}
use Rattle.grammar.proofs.Tabling.{placed_marked, stored_here}
use Rattle.grammar.proofs.table.Goals as goal

pub build_table-requires : goal.build_table-requires
build_table-requires c =
    let a = c.args in
    placed_marked sample_order a.text.now a.work.now c.place_text.new.work a.chair
    (stored_here a.text.now a.chair (omega arith) (λ i h. omega (arith, c.shared_slice_known-1.given i)) (omega arith)) (omega arith) c.place_text.ensures

pub returns : goal.returns
unfolding placed_marked
returns c =
    let a = c.args in
    let stored = stored_here a.text.now a.chair (omega arith) (λ i h. omega (arith, c.shared_slice_known-1.given i)) (omega arith) in
    let (l, r) = c.build_table.ensures (placed_marked sample_order a.text.now a.work.now c.place_text.new.work a.chair stored (omega arith) c.place_text.ensures) in
    (stored, l, r)
