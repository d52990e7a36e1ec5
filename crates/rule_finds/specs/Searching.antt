-- What the work slice holds while the occurrences of a pattern are counted: beside what `Loaded` says, the ranks of the pattern, from PATTERN on, its cuts
-- that are tried, from CUTS on, and what is found in each rule, from FOUND on. p is the pattern as bytes.
use Rattle.std.specs.Prelude.{◌≡◌, List, map, ℕ, ◌+◌, ◌≤◌, ◌<◌, length, get_or}
use Rattle.definitions.specs.declared.Order.{Order}
use Rattle.definitions.specs.Table.{rank_of, table_of, rule_count}
use Rattle.definitions.specs.Occurrences.{pattern_cuts, Test, tests_of}
use Rattle.lists.specs.Parts.{part}
use Rattle.lyndon.specs.Ranks.{Bytes}
use Rattle.layout.specs.Layout.{FOUND, PATTERN}
use Rattle.decoding.specs.declared.Rule.TheVariants.{Symbol}
use Rattle.decoding.specs.Decoding.{rule_in}
use Rattle.state.specs.State.{Loaded}
use Rattle.joins.specs.Joining.{Tried}
use Rattle.rule_finds.specs.Found.{FoundIn}

-- 1 to 2,047 samples, each a byte
pub record Pattern (p : List ℕ) : Type 0 where
  pub filled : 0 < length p
  pub short : length p ≤ 2047
  pub bytes : Bytes p

-- the first r rules are counted; the pattern has m samples, of its cuts n are tried
pub record Counting (o : Order) (p text : List ℕ) (chair m n r : ℕ) (w : List ℕ) : Type 0 where
  pub loaded : Loaded o text chair w
  pub pattern : Pattern p
  pub size : m ≡ length p
  pub ranks : part PATTERN m w ≡ map (rank_of o) p
  pub tried : Tried m n w
  pub found : (q : ℕ) → q < r → FoundIn o (table_of o text chair) (map (rank_of o) p) q (get_or w (FOUND + q) 0)

-- all rules are counted
pub record Searched (o : Order) (p text : List ℕ) (chair : ℕ) (w : List ℕ) : Type 0 where
  pub loaded : Loaded o text chair w
  pub pattern : Pattern p
  pub found : (r : ℕ) → r < rule_count (table_of o text chair) → FoundIn o (table_of o text chair) (map (rank_of o) p) r (get_or w (FOUND + r) 0)

-- ---- what the functions start from

-- a text of so many rules is loaded, and for some pattern of m samples, n of whose cuts are tried, the first r rules are counted
pub record Counts (m n rules r : ℕ) (w : List ℕ) : Type 0 where
  pub order : Order
  pub samples : List ℕ
  pub text : List ℕ
  pub chair : ℕ
  pub counting : Counting order samples text chair m n r w
  pub size : rules ≡ rule_count (table_of order text chair)

-- the rules before rule r are counted
pub record CountedBefore (m n r : ℕ) (w : List ℕ) : Type 0 where
  pub order : Order
  pub samples : List ℕ
  pub text : List ℕ
  pub chair : ℕ
  pub counting : Counting order samples text chair m n r w
  pub low : r < rule_count (table_of order text chair)

-- and the pattern is one sample
pub record OneTurn (r : ℕ) (w : List ℕ) : Type 0 where
  pub size : ℕ
  pub cuts : ℕ
  pub turn : CountedBefore size cuts r w
  pub short : size < 2

-- and rule r is read as a symbol
pub record SymbolTurn (r : ℕ) (w : List ℕ) : Type 0 where
  pub one : OneTurn r w
  pub number : ℕ
  pub beside : ℕ
  pub rule : rule_in w r ≡ Symbol number beside

-- what is found in rule r, of such a search
abbrev pub FoundFor : {m n r : ℕ} {w : List ℕ} → CountedBefore m n r w → ℕ → Type 0
FoundFor {r = r} h x = FoundIn h.order (table_of h.order h.text h.chair) (map (rank_of h.order) h.samples) r x

-- the tests of rule r
abbrev pub tests_for : {m n r : ℕ} {w : List ℕ} → CountedBefore m n r w → List Test
tests_for {r = r} h = tests_of h.order (table_of h.order h.text h.chair) (length h.samples) (pattern_cuts h.order h.samples) r
