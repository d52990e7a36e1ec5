-- The dictionary of a table's first rules at the front of the work slice, while each is new (`Linked`), until all are (`Distinct`).
use Rattle.std.specs.Prelude.{◌≡◌, true, List, ℕ, get_or}
use Rattle.definitions.specs.Words.{every}
use Rattle.definitions.specs.Table.{rule_count}
use Rattle.lyndon.specs.Twins.{is_new}
use Rattle.dict.specs.Dictionary.{Dict}
use Rattle.lengths.specs.Lengths.{InShape}

-- the first n rules are new, and linked; rule 0 is the mark
pub record Linked (t : List ℕ) (n : ℕ) (w : List ℕ) : Type 0 where
  pub lent : InShape t w
  pub mark : get_or t 0 0 ≡ 0
  pub dict : Dict t w n
  pub new : every (is_new t) n ≡ true

-- every rule is new; rule 0 is the mark
pub record Distinct (t w : List ℕ) : Type 0 where
  pub lent : InShape t w
  pub mark : get_or t 0 0 ≡ 0
  pub new : every (is_new t) (rule_count t) ≡ true
