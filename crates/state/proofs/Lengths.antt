-- What is loaded: its table has 1 to 2,304 rules (`rules_range`), and the root's string is the marked text (`root_length`).
use mathlib.Core.Path.{◌≡◌, ◌∙◌, ap}
use mathlib.Core.List.{List}
use Prim.Native.Nat.{ℕ, suc, ◌+◌, ◌-◌, ◌≤◌, ◌<◌}
use native.Mathlib.Omega.{arith}
use lib.ListN.{length, get_or}
use Rattle.definitions.specs.declared.Order.{Order}
use Rattle.definitions.specs.Table.{table_of, spelled, rule_count}
use Rattle.lyndon.specs.Ranks.{marked_length}
use Rattle.lyndon.specs.Stored.{rule_range, table_spelled}
use Rattle.layout.specs.Layout.{LENGTHS}
use Rattle.state.specs.State.{Held}

module _ {o : Order} {rules : ℕ} {w : List ℕ} (h : Held o rules w) where
  pub rules_range : (0 < rules) × (rules ≤ 2304)
  rules_range =
      let (some, most) = rule_range o h.text h.chair h.loaded.kept.stored in (omega (arith, h.size), omega (arith, h.size))

  pub root_length : get_or w (LENGTHS + (rules - 1)) 0 ≡ suc (length h.text)
  unfolding spelled
  root_length =
      let (some, most) = rule_range o h.text h.chair h.loaded.kept.stored in
      ap (λ (i : ℕ). get_or w (LENGTHS + (i - 1)) 0) h.size
      ∙ h.loaded.sizes (rule_count (table_of o h.text h.chair) - 1) (omega arith)
      ∙ ap length (table_spelled o h.text h.chair h.loaded.kept.stored)
      ∙ marked_length o h.text
