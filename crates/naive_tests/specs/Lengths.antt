-- The lengths of rules' strings as the naive side keeps them, for a table from anywhere, whose strings may double from rule to rule.
use Rattle.std.specs.Prelude.{◌≡◌, List, [], ℕ, min, ◌≤◌, ◌<◌, length, get_or}
use Rattle.definitions.specs.declared.Order.{Order}
use Rattle.definitions.specs.Table.{strings}

-- a length as it is kept: one above the greatest word stands as that word
abbrev pub kept : ℕ → ℕ
kept n = min n 4294967295

-- l holds the lengths of the first n rules' strings of the table t, each at its rule's number; they are the same in every order
pub record Measured (t : List ℕ) (n : ℕ) (l : List ℕ) : Type 0 where
  pub room : n ≤ length l
  pub sizes : (o : Order) (q : ℕ) → q < n → get_or l q 0 ≡ kept (length (get_or (strings o t n) q []))
