-- What the halves of a rule are compared by, once it is written at its place (`Written`): the ranks at the front of the work slice.
use Rattle.std.specs.Prelude.{◌≡◌, List, ℕ, ◌+◌, ◌≤◌, ◌<◌, length}
use Rattle.definitions.specs.declared.Order.{Order}
use Rattle.definitions.specs.Table.{rule_string, rule_count}
use Rattle.lists.specs.Parts.{part}
use Rattle.lyndon.specs.Ruled.{PairOf}
use Rattle.lyndon.specs.Filling.{Stands}
use Rattle.entries.specs.Entries.{Placed}

-- the ranks
abbrev pub front : List ℕ → List ℕ
front w = part 0 2048 w

-- a rule is the pair of `left` and `right`, and is written at `start`, its right half at `behind`
pub record Written (t w : List ℕ) (left right start behind : ℕ) : Type 0 where
  pub order : Order
  pub rule : ℕ
  pub placed : Placed t w
  pub low : rule < rule_count t
  pub pair : PairOf t rule left right
  pub stands : Stands w (rule_string order t rule) start
  pub next : behind ≡ start + length (rule_string order t left)
  pub inside : start + length (rule_string order t rule) ≤ 2048
