-- The bytes that a rule of the table that is loaded spells: the samples of its string. The mark is no sample; a rule begins with it, or has none.
use Rattle.std.specs.Prelude.{◌≡◌, List, [], ◌∷◌, ℕ, zero, suc, ◌<◌, length, get_or}
use Rattle.definitions.specs.declared.Order.{Order}
use Rattle.definitions.specs.Words.{placed}
use Rattle.definitions.specs.Table.{byte_of, marked, table_of, rule_string}
use Rattle.lyndon.specs.Filling.{Stands}
use Rattle.state.specs.State.{Held}

-- the samples of a string of ranks
unfoldable pub samples : Order → List ℕ → List ℕ
samples o [] = []
samples o (zero ∷ s) = samples o s
samples o (suc r ∷ s) = byte_of o (suc r) ∷ samples o s

-- ranks of samples, none of them the mark's
abbrev pub Ranks : List ℕ → Type 0
Ranks l = (i : ℕ) → i < length l → (0 < get_or l i 0) × (get_or l i 0 < 257)

module _ {o : Order} {rules : ℕ} {w : List ℕ} (h : Held o rules w) where
  -- the string of rule r of what is loaded, and its bytes
  abbrev pub string_of : ℕ → List ℕ
  string_of r = rule_string o (table_of o h.text h.chair) r

  unfoldable pub rule_bytes : ℕ → List ℕ
  rule_bytes r = samples o (string_of r)

  -- r is a rule that begins with the mark: it stands at the front of the marked text
  pub record WithMark (r : ℕ) : Type 0 where
    pub low : r < rules
    pub stands : Stands (marked o h.text) (string_of r) 0

  -- r is a rule without it
  pub record WithoutMark (r : ℕ) : Type 0 where
    pub low : r < rules
    pub ranks : Ranks (string_of r)

  -- the n samples of rule r stand at the front of a slice, `old` before and `new` after
  pub record Spelled (r n : ℕ) (old new : List ℕ) : Type 0 where
    pub number : n ≡ length (rule_bytes r)
    pub front : new ≡ placed (rule_bytes r) old
