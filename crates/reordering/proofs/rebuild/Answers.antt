-- `rebuild` turns the ranks behind the mark, and makes the table of what then is the marked text of the other order.
use mathlib.Core.Path.{ap, subst}
use Prim.Native.Nat.{ℕ, ◌+◌}
use native.Mathlib.Omega.{arith}
use Rattle.definitions.specs.Services.{sample_order}
use Rattle.grammar.specs.Built.{Built}
use Rattle.reordering.proofs.Reordering.{behind, reordered}
use Rattle.reordering.proofs.rebuild.Goals as goal

pub text_length-n-requires : goal.text_length-n-requires
text_length-n-requires c = (c.args.from, c.requires)

pub overflow_add-n : goal.overflow_add-n
overflow_add-n c =
    omega (arith, c.text_length-n.ensures c.args.from c.requires, c.requires.loaded.kept.stored.short)

pub slice_bounds-reorder-end : goal.slice_bounds-reorder-end
slice_bounds-reorder-end c =
    omega (arith, c.text_length-n.ensures c.args.from c.requires, c.requires.loaded.kept.stored.short, c.requires.loaded.kept.long)

pub reorder-requires : goal.reorder-requires
reorder-requires c =
    (behind c.requires (c.text_length-n.result + 1) (ap (λ (k : ℕ). k + 1) (c.text_length-n.ensures c.args.from c.requires))).ranks

pub build_table-requires : goal.build_table-requires
build_table-requires c =
    let from = c.args.from in
    let h = c.requires in
    reordered h (c.text_length-n.result + 1) (ap (λ (n : ℕ). n + 1) (c.text_length-n.ensures from h)) sample_order c.reorder.new.ranks c.chair_number-chair.result (c.chair_number-chair.ensures from h) c.reorder.ensures

pub returns : goal.returns
unfolding reordered
returns c h =
    let from = c.args.from in
    let chair = c.chair_number-chair.ensures from h in
    let (l, n) = c.build_table.ensures (reordered h (c.text_length-n.result + 1) (ap (λ (n : ℕ). n + 1) (c.text_length-n.ensures from h)) sample_order c.reorder.new.ranks c.chair_number-chair.result chair c.reorder.ensures) in
    (subst (λ (d : ℕ). Built sample_order h.text d c.build_table.new.work) chair l, n)

pub chair_number-chair-requires : goal.chair_number-chair-requires
chair_number-chair-requires c = (c.args.from, c.requires)
