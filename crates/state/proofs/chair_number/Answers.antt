-- `chair_number` takes the chair number from the table that is loaded.
use mathlib.Core.Path.{◌≡◌, sym, ◌∙◌, ap, subst}
use mathlib.Core.List.{List}
use Prim.Native.Nat.{ℕ, ◌+◌, ◌-◌, ◌*◌}
use native.Mathlib.Omega.{arith}
use lib.ListN.{take, drop}
use Rattle.definitions.specs.declared.Order.{Order}
use Rattle.definitions.specs.Table.{table_of, chair_of}
use Rattle.lists.specs.Parts.{part_taken}
use Rattle.lyndon.specs.Shapes.{Shaped, stored_shaped}
use Rattle.lyndon.specs.Stored.{table_chair}
use Rattle.layout.specs.Layout.{TABLE}
use Rattle.state.specs.State.{Held}
use Rattle.state.specs.One.{held_table}
use Rattle.state.proofs.Lengths.{rules_range}
use Rattle.state.proofs.chair_number.Goals as goal

-- the words that are taken are the table
taken : {o : Order} {rules : ℕ} {w : List ℕ} (h : Held o rules w) → take (TABLE + 2 * rules - TABLE) (drop TABLE w) ≡ table_of o h.text h.chair
taken {o} {rules} {w} h = part_taken TABLE (TABLE + 2 * rules - TABLE) (2 * rules) w (omega arith) ∙ held_table h

pub overflow_mul-end : goal.overflow_mul-end
overflow_mul-end c = omega (arith, rules_range c.requires.1)

pub overflow_add-end : goal.overflow_add-end
overflow_add-end c = omega (arith, rules_range c.requires.1)

pub slice_bounds-chair_of-end : goal.slice_bounds-chair_of-end
slice_bounds-chair_of-end c = omega (arith, rules_range c.requires.1, c.requires.1.loaded.kept.long)

pub chair_of-requires : goal.chair_of-requires
chair_of-requires c =
    let (o, h) = c.requires in
    subst Shaped (sym (taken h)) (stored_shaped o h.text h.chair h.loaded.kept.stored)

pub returns : goal.returns
returns c o h = c.chair_of.ensures ∙ ap chair_of (taken h) ∙ table_chair o h.text h.chair h.loaded.kept.stored
