-- The work slice while rules are written at their places: the first n stand there, and their halves are in order (`Filling`). Of the table's rules the first
-- alone is the mark (`OneMark`).
use Rattle.std.specs.Prelude.{◌≡◌, true, List, ℕ, zero, suc, ◌+◌, ◌*◌, ◌≤◌, ◌<◌, length, get_or, set}
use Rattle.definitions.specs.declared.Order.{Order}
use Rattle.definitions.specs.Words.{every}
use Rattle.definitions.specs.Table.{rule_string, spelled, rule_count}
use Rattle.lists.specs.Parts.{Filled}
use Rattle.lyndon.specs.Standard.{ordered}
use Rattle.layout.specs.Layout.{WORK, length_in, place_in}
use Rattle.entries.specs.Entries.{Placed}

-- n words copied one after another
unfoldable pub copied : List ℕ → ℕ → ℕ → ℕ → List ℕ
copied w from to zero = w
copied w from to (suc n) = let v = copied w from to n in set v (to + n) (get_or v (from + n) 0)

-- rule q can be copied to a place
pub record Copyable (w : List ℕ) (q to : ℕ) : Type 0 where
  pub low : q < 2304
  pub long : WORK ≤ length w
  pub filled : 0 < length_in w q
  pub inside : place_in w q + length_in w q ≤ 2048
  pub room : to + length_in w q ≤ 2048

-- rule 0 is the mark, and no other rule is
pub record OneMark (t : List ℕ) : Type 0 where
  pub mark : get_or t 0 0 ≡ 0
  pub samples : (r : ℕ) → 0 < r → r < rule_count t → get_or t (2 * r) 0 ≡ 0 → ⊥

-- the first n rules are written at their places, and their halves are in order
pub record Filling (o : Order) (t : List ℕ) (n : ℕ) (w : List ℕ) : Type 0 where
  pub placed : Placed t w
  pub filled : (q : ℕ) → q < n → Filled (spelled o t) w (place_in w q) (length (rule_string o t q))
  pub standard : every (ordered o t) n ≡ true
