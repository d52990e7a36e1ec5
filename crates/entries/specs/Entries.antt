-- The work slice while rules are entered from the root down: the rules from n on are entered (`Entered`), until each stands at its place (`Placed`).
use Rattle.std.specs.Prelude.{◌≡◌, true, false, cond, List, ℕ, ◌+◌, ◌-◌, ◌<◌, set, ltb}
use Rattle.definitions.specs.declared.Order.{Order}
use Rattle.definitions.specs.Table.{rule_string, spelled, rule_count, is_table}
use Rattle.lyndon.specs.Meeting.{meets}
use Rattle.lyndon.specs.Ruled.{halves}
use Rattle.lyndon.specs.Entries.{Entering}
use Rattle.lyndon.specs.Filling.{Stands}
use Rattle.layout.specs.Layout.{ENTRIES, PLACES, entry_in, place_in}
use Rattle.lengths.specs.Lengths.{Sized}

-- the slice once rule q is entered at x where e rules are met
unfoldable pub entered : List ℕ → ℕ → ℕ → ℕ → List ℕ
entered w e q x = cond (ltb q e) w (set (set w (ENTRIES + q) e) (PLACES + q) x)

-- rule r stands at its place in what the root spells
abbrev pub StandsIn : List ℕ → List ℕ → ℕ → Type 0
StandsIn t w r = (o : Order) → Stands (spelled o t) (rule_string o t r) (place_in w r)

-- the rules from n on are entered, and the tests that are left decide whether the root meets all rules in their order
pub record Entered (t : List ℕ) (n : ℕ) (w : List ℕ) : Type 0 where
  pub sized : Sized t (rule_count t) w
  pub entering : Entering (halves t) (rule_count t) (entry_in w) (StandsIn t w) n n (meets (halves t) 0 (rule_count t - 1))

-- the root meets all rules in their order, and every rule stands at its place
pub record Placed (t w : List ℕ) : Type 0 where
  pub sized : Sized t (rule_count t) w
  pub met : meets (halves t) 0 (rule_count t - 1) ≡ true
  pub places : (r : ℕ) → r < rule_count t → StandsIn t w r

-- the table is no drive's in any order, which is all that is kept where the root does not meet the rules so
pub record Unmet (t : List ℕ) : Type 0 where
  pub foreign : (o : Order) → is_table o t ≡ false
