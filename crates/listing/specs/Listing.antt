-- What listing starts from, once all rules are counted, and what it leaves: in the slice, behind what is written, the positions in the drive of the
-- occurrences in a rule. w is the work slice, `old` and `new` the slice lent before and after.
use Rattle.std.specs.Prelude.{◌≡◌, cond, Option, Some, None, List, [], ◌∷◌, ◌++◌, map, ℕ, ◌+◌, ◌-◌, ◌≤◌, ◌<◌, length, take, drop, ltb}
use Rattle.definitions.specs.declared.Order.{Order}
use Rattle.definitions.specs.Words.{placed}
use Rattle.definitions.specs.Table.{rank_of, table_of, rule_count}
use Rattle.layout.specs.Layout.{length_in}
use Rattle.rule_finds.specs.Found.{occurs_in}
use Rattle.rule_finds.specs.Searching.{Searched}

-- all rules are counted, for some pattern
pub record Finds (w : List ℕ) : Type 0 where
  pub order : Order
  pub pattern : List ℕ
  pub text : List ℕ
  pub chair : ℕ
  pub searched : Searched order pattern text chair w

-- the positions of occurrences in a string that stands at `at` in the marked text: they count from place `first` on, and those before it are passed over
unfoldable pub in_drive : ℕ → ℕ → List ℕ → List ℕ
in_drive first at [] = []
in_drive first at (k ∷ l) = cond (ltb (at + k) first) [] ((at + k - first) ∷ []) ++ in_drive first at l

-- the place of an occurrence that is cut there at a join behind n symbols; none without a cut
unfoldable pub cut_places : ℕ → Option ℕ → List ℕ
cut_places n None = []
cut_places n (Some c) = (n - c) ∷ []

-- the table, its number of rules, and the occurrences in rule r, of a search that is done
abbrev pub table_for : (w : List ℕ) → Finds w → List ℕ
table_for w h = table_of h.order h.text h.chair

abbrev pub rules_counted : {w : List ℕ} → Finds w → ℕ
rules_counted h = rule_count (table_of h.order h.text h.chair)

unfoldable pub found_for : (w : List ℕ) → Finds w → ℕ → List ℕ
found_for w h r = occurs_in h.order (table_for w h) (map (rank_of h.order) h.pattern) r

-- a slice once l is written into it behind its first n entries
unfoldable pub placed_from : ℕ → List ℕ → List ℕ → List ℕ
placed_from n l old = take n old ++ placed l (drop n old)

-- rule r, which stands at `at`, can be listed behind the first n of so many entries; places before `first` are passed over
pub record Listable (w : List ℕ) (first r at n entries : ℕ) : Type 0 where
  pub finds : Finds w
  pub low : r < rule_count (table_for w finds)
  pub inside : at + length_in w r ≤ 2048
  pub room : n + length (in_drive first at (found_for w finds r)) ≤ entries

-- it is, and m entries are written then
pub record Listed (w : List ℕ) (first r at n m : ℕ) (old new : List ℕ) : Type 0 where
  pub number : (h : Finds w) → r < rule_count (table_for w h) → m ≡ n + length (in_drive first at (found_for w h r))
  pub front : (h : Finds w) → r < rule_count (table_for w h) → new ≡ placed_from n (in_drive first at (found_for w h r)) old
