-- What is found in one rule: how many occurrences its string has, and the cut at which one straddles its join. p is a pattern as ranks,
-- t the table, r the rule.
use Rattle.std.specs.Prelude.{◌≡◌, true, false, List, ℕ, ◌/◌, ◌%◌, ◌≤◌, ◌<◌, length}
use Rattle.definitions.specs.declared.Order.{Order}
use Rattle.definitions.specs.Table.{rule_string, is_pair, left_half, right_half}
use Rattle.definitions.specs.Occurrences.{occurrences, straddling}
use Rattle.layout.specs.Layout.{PACK}
use Rattle.joins.specs.Joining.{cut_place}

-- the occurrences in the rule's string
unfoldable pub occurs_in : Order → List ℕ → List ℕ → ℕ → List ℕ
occurs_in o t p r = occurrences p (rule_string o t r)

-- those that straddle the rule's join
unfoldable pub across_join : Order → List ℕ → List ℕ → ℕ → List ℕ
across_join o t p r = straddling p (left_half o t r) (right_half o t r)

-- x holds the number of occurrences times PACK and the cut at the join, 0 where the rule is a symbol's
pub record FoundIn (o : Order) (t p : List ℕ) (r x : ℕ) : Type 0 where
  pub number : x / PACK ≡ length (occurs_in o t p r)
  pub small : x % PACK < 2048
  pub inside : is_pair t r ≡ true → x % PACK ≤ length (left_half o t r)
  pub cut : is_pair t r ≡ true → across_join o t p r ≡ cut_place (length (left_half o t r)) (x % PACK)
  pub no_cut : is_pair t r ≡ false → x % PACK ≡ 0
