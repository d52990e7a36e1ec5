-- `reorder_loaded` makes the table in the work slice, and delivers it.
use mathlib.Core.Path.{subst}
use mathlib.Core.List.{List, [], ◌∷◌}
use Prim.Native.Nat.{ℕ}
use Rattle.definitions.specs.Services.{sample_order, writes, Serves, Answers}
use Rattle.grammar.specs.Built.{rules_most, built_words}
use Rattle.reordering.proofs.reorder_loaded.Goals as goal

pub deliver_table-requires : goal.deliver_table-requires
deliver_table-requires c =
    let h = c.requires in
    let (l, n) = c.rebuild-n.ensures h in
    (rules_most sample_order h.text h.chair c.rebuild-n.result h.loaded.kept.stored n, l.long)

pub returns : goal.returns
returns c h =
    let a = c.args in
    let (l, n) = c.rebuild-n.ensures h in
    subst (λ (t : List ℕ). Serves (writes [] t 0 a.res.now) (Answers c.deliver_table.result) (c.deliver_table.new.res ∷ []))
    (built_words sample_order h.text c.rebuild-n.new.work h.chair c.rebuild-n.result h.loaded.kept.stored l n)
    c.deliver_table.ensures
