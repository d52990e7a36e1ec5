-- What the work slice holds of a text that is loaded: ranks, table, and for each rule the length of its string and a place of the marked text at which it
-- stands, each by the text and the chair number alone. Every service that is handed something stored starts from this state, however it came about.
use Rattle.std.specs.Prelude.{◌≡◌, List, ℕ, suc, ◌≤◌, ◌<◌, length}
use Rattle.definitions.specs.declared.Order.{Order}
use Rattle.definitions.specs.Table.{marked, table_of, rule_string, rule_count}
use Rattle.lists.specs.Parts.{part}
use Rattle.lyndon.specs.Stored.{Stored}
use Rattle.lyndon.specs.Filling.{Stands}
use Rattle.layout.specs.Layout.{TABLE, WORK, length_in, place_in}

-- ranks and table
pub record Kept (o : Order) (text : List ℕ) (chair : ℕ) (w : List ℕ) : Type 0 where
  pub long : WORK ≤ length w
  pub stored : Stored text chair
  pub ranks : part 0 (suc (length text)) w ≡ marked o text
  pub table : part TABLE (length (table_of o text chair)) w ≡ table_of o text chair

-- and lengths and places of all rules
pub record Loaded (o : Order) (text : List ℕ) (chair : ℕ) (w : List ℕ) : Type 0 where
  pub kept : Kept o text chair w
  pub sizes : (r : ℕ) → r < rule_count (table_of o text chair) → length_in w r ≡ length (rule_string o (table_of o text chair) r)
  pub places : (r : ℕ) → r < rule_count (table_of o text chair) → Stands (marked o text) (rule_string o (table_of o text chair) r) (place_in w r)

-- some text is loaded, whose table has so many rules
pub record Held (o : Order) (rules : ℕ) (w : List ℕ) : Type 0 where
  pub text : List ℕ
  pub chair : ℕ
  pub loaded : Loaded o text chair w
  pub size : rules ≡ rule_count (table_of o text chair)
