-- The rules in the table area, as they are read: a symbol (`kept_symbol`) or a pair (`kept_pair`), for the table there is the one that is loaded.
use mathlib.Core.Path.{◌≡◌}
use mathlib.Core.List.{List}
use Prim.Native.Nat.{ℕ, ◌≤◌, ◌<◌}
use lib.ListN.{length}
use Rattle.definitions.specs.declared.Order.{Order}
use Rattle.definitions.specs.Table.{table_of, rule_count}
use Rattle.lyndon.specs.Stored.{table_size}
use Rattle.lyndon.specs.Shapes.{Shaped, stored_shaped}
use Rattle.lyndon.specs.Ruled.{SymbolOf, PairOf}
use Rattle.decoding.specs.declared.Rule.TheVariants.{Symbol, Pair}
use Rattle.decoding.specs.Decoding.{rule_at, rule_in}
use Rattle.decoding.proofs.Rules.{rule_loaded, symbol_loaded, pair_loaded}
use Rattle.state.specs.State.{Kept}

module _ {o : Order} {text : List ℕ} {chair : ℕ} {w : List ℕ} (k : Kept o text chair w) (r : ℕ) (h : r < rule_count (table_of o text chair)) where
  shaped : Shaped (table_of o text chair)
  shaped = stored_shaped o text chair k.stored

  size : length (table_of o text chair) ≤ 4608
  size = table_size o text chair k.stored

  pub kept_rule : rule_in w r ≡ rule_at (table_of o text chair) r
  kept_rule = rule_loaded (table_of o text chair) w r k.table shaped size h

  pub kept_symbol : (a b : ℕ) → rule_in w r ≡ Symbol a b → SymbolOf (table_of o text chair) r a b
  kept_symbol = symbol_loaded (table_of o text chair) w r k.table shaped size h

  pub kept_pair : (u v : ℕ) → rule_in w r ≡ Pair u v → PairOf (table_of o text chair) r u v
  kept_pair = pair_loaded (table_of o text chair) w r k.table shaped size h
