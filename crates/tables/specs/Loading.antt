-- What stands in the work slice while a table is loaded: what the root spells at the front, rule by rule (`Spelled`), which begins with the only mark if the
-- table is accepted (`Front`); and what loading answers and leaves (`Judged`).
use Rattle.std.specs.Prelude.{◌≡◌, true, List, ℕ, ◌<◌, get_or}
use Rattle.definitions.specs.declared.Order.{Order}
use Rattle.definitions.specs.Words.{every}
use Rattle.definitions.specs.Table.{text_of, chair_of, is_table, rule_count}
use Rattle.definitions.specs.Services.{outcome_of, Answer, not_a_table}
use Rattle.lists.specs.Decisions.{checked}
use Rattle.lyndon.specs.Twins.{is_new}
use Rattle.filling.specs.Filling.{Filling}
use Rattle.state.specs.State.{Loaded}

-- of n symbols the first alone is the mark
pub record Front (w : List ℕ) (n : ℕ) : Type 0 where
  pub mark : get_or w 0 0 ≡ 0
  pub samples : (i : ℕ) → 0 < i → i < n → 0 < get_or w i 0

-- the rules are distinct, and all are written
pub record Spelled (t w : List ℕ) : Type 0 where
  pub order : Order
  pub new : every (is_new t) (rule_count t) ≡ true
  pub filling : Filling order t (rule_count t) w

-- refusal 7, or the number of rules; a table that is accepted is loaded
pub record Judged (o : Order) (t w : List ℕ) (r : Answer) : Type 0 where
  pub answer : outcome_of r ≡ checked (not_a_table o t) (rule_count t)
  pub loaded : is_table o t ≡ true → Loaded o (text_of o t) (chair_of t) w
