-- `build_in` makes the table in the work slice, and delivers it.
use mathlib.Core.Path.{subst}
use mathlib.Core.List.{List, [], ◌∷◌}
use Prim.Native.Nat.{ℕ}
use Rattle.definitions.specs.Services.{sample_order, writes, Serves, Answers}
use Rattle.grammar.specs.Built.{rules_most, built_words}
use Rattle.building.proofs.build_in.Goals as goal

pub deliver_table-requires : goal.deliver_table-requires
deliver_table-requires c =
    let a = c.args in
    (rules_most sample_order a.text.now a.chair c.table-rules.result c.table-rules.ensures.0 c.table-rules.ensures.2, c.table-rules.ensures.1.long)

pub returns : goal.returns
returns c =
    let a = c.args in
    subst (λ (l : List ℕ). Serves (writes [] l 0 a.res.now) (Answers c.deliver_table.result) (c.deliver_table.new.res ∷ []))
    (built_words sample_order a.text.now c.table-rules.new.work a.chair c.table-rules.result c.table-rules.ensures.0 c.table-rules.ensures.1 c.table-rules.ensures.2)
    c.deliver_table.ensures
