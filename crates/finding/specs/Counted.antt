-- What a search of the loaded text starts from, and what it gives.
use Rattle.std.specs.Prelude.{◌≡◌, List, ℕ, ◌≤◌, ◌<◌, length}
use Rattle.definitions.specs.declared.Content.{Content}
use Rattle.definitions.specs.Table.{table_of}
use Rattle.definitions.specs.Occurrences.{tests}
use Rattle.definitions.specs.Steps.{searched, finds}
use Rattle.definitions.specs.Services.{sample_order}
use Rattle.state.specs.State.{Held}
use Rattle.rule_finds.specs.Searching.{Searched}
use Rattle.search.specs.declared.Totals.{Totals}

-- a text whose table has so many rules is loaded in the order that the services speak of, and the pattern p has something to search for
pub record Sought (c : Content) (p : List ℕ) (rules : ℕ) (w : List ℕ) : Type 0 where
  pub held : Held sample_order rules w
  pub filled : 0 < length (searched c p)
  pub short : length p ≤ 2047

-- the finds of p and the tests are counted, and what is found in every rule of the table stands in the work slice, which holds v
pub record Counted (c : Content) (p : List ℕ) {rules : ℕ} {w : List ℕ} (h : Held sample_order rules w) (n : Totals) (v : List ℕ) : Type 0 where
  pub number : n.occurrences ≡ length (finds c p h.text)
  pub made : n.tests ≡ length (tests sample_order (table_of sample_order h.text h.chair) (searched c p))
  pub all : Searched sample_order (searched c p) h.text h.chair v
