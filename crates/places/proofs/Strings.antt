-- The strings of a stored table: none is longer than the marked text (`string_short`), the last is the marked text (`root_string`),
-- and every other rule is a half of a later one (`later_half`). Each comes from the strings of the grammar, which the rules spell.
use mathlib.Core.Path.{◌≡◌, sym, ◌∙◌, ap, subst}
use mathlib.Core.Logic.{◌⊎◌, ⊎_elim}
use mathlib.Core.List.{List, [], ◌++◌}
use Prim.Native.Nat.{ℕ, suc, ◌+◌, ◌-◌, ◌*◌, ◌≤◌, ◌<◌}
use native.Mathlib.Omega.{arith}
use lib.ListN.{length, get_or, length-append}
use Rattle.definitions.specs.declared.Order.{Order}
use Rattle.definitions.specs.Grammar.{left_of, right_of, index_of, order as order_of}
use Rattle.definitions.specs.Table.{marked, table_of, rule_string, spelled, rule_count}
use Rattle.lyndon.specs.Sequence.{order_all, order_half}
use Rattle.lyndon.specs.Ranks.{marked_lyndon}
use Rattle.lyndon.specs.Tables.{Entry, one, two, entry}
use Rattle.lyndon.specs.Stored.{Stored, storable, table_words, table_rules, table_strings, table_spelled}
use Rattle.decoding.specs.declared.Rule.TheVariants.{Pair}
use Rattle.decoding.specs.Decoding.{rule_at}
use Rattle.decoding.proofs.Rules.{words_pair}
use Rattle.places.specs.Passes.{Half, left, right}

module _ (o : Order) (text : List ℕ) (chair : ℕ) (ok : Stored text chair) where
  once : (r : ℕ) → r < length (order_of (marked o text)) → index_of (get_or (order_of (marked o text)) r []) (order_of (marked o text)) ≡ r
  once r h = (storable o text chair ok).numbered.once r h

  string_at : (r : ℕ) → rule_string o (table_of o text chair) r ≡ get_or (order_of (marked o text)) r []
  unfolding rule_string
  string_at r = ap (λ (S : List (List ℕ)). get_or S r []) (table_strings o text chair ok)

  pub string_short : (r : ℕ) → r < rule_count (table_of o text chair) → length (rule_string o (table_of o text chair) r) ≤ length (marked o text)
  string_short r h =
      let l : r < length (order_of (marked o text)) = omega (arith, table_rules o text chair ok) in
      rw (string_at r)
      (order_all (λ x. length x ≤ length (marked o text)) parts (marked o text) (marked_lyndon o text ok.bytes) (omega arith) (get_or (order_of (marked o text)) r []) (omega (arith, once r l)))
    where
      parts : (u v : List ℕ) → length (u ++ v) ≤ length (marked o text) → (length u ≤ length (marked o text)) × (length v ≤ length (marked o text))
      parts u v k = let sum = length-append u v in (omega arith, omega arith)

  pub root_string : rule_string o (table_of o text chair) (rule_count (table_of o text chair) - 1) ≡ marked o text
  unfolding spelled
  root_string = table_spelled o text chair ok

  -- ---- every rule but the root is a half

  same_number : (i r : ℕ) → i < length (order_of (marked o text)) → r < length (order_of (marked o text))
      → get_or (order_of (marked o text)) i [] ≡ get_or (order_of (marked o text)) r [] → i ≡ r
  same_number i r h k e = sym (once i h) ∙ ap (λ (x : List ℕ). index_of x (order_of (marked o text))) e ∙ once r k

  entry_half : (k r : ℕ) → r < k → k < length (order_of (marked o text)) → 2 ≤ length (get_or (order_of (marked o text)) k [])
      → (left_of (get_or (order_of (marked o text)) k []) ≡ get_or (order_of (marked o text)) r []) ⊎ (right_of (get_or (order_of (marked o text)) k []) ≡ get_or (order_of (marked o text)) r [])
      → Entry o (order_of (marked o text)) chair k → Half (table_of o text chair) k r
  entry_half k r h l m half (one a b e f s) = absurd (omega (arith, ap length e))
  entry_half k r h l m half (two i j p q n e g f s) =
      let size = (storable o text chair ok).size in
      let t = table_of o text chair in
      let rule : rule_at t k ≡ Pair i j =
      words_pair t k i j (omega arith) (omega arith) (ap (λ (x : List ℕ). get_or x (2 * k) 0) (table_words o text chair ok) ∙ f) (ap (λ (x : List ℕ). get_or x (2 * k + 1) 0) (table_words o text chair ok) ∙ s) in
      ⊎_elim
      (λ x. subst (λ (c : ℕ). Half t k c) (same_number i r (omega arith) (omega arith) (e ∙ x)) (left j rule))
      (λ x. subst (λ (c : ℕ). Half t k c) (same_number j r (omega arith) (omega arith) (g ∙ x)) (right i rule))
      half

  pub later_half : (r : ℕ) → suc r < rule_count (table_of o text chair)
      → (k : ℕ) × (r < k) × (k < rule_count (table_of o text chair)) × Half (table_of o text chair) k r
  later_half r h =
      let n = table_rules o text chair ok in
      let (k, a, b, c, d) = order_half (marked o text) (marked_lyndon o text ok.bytes) r (omega arith) in
      (k, a, omega arith, entry_half k r a b c d (entry o (order_of (marked o text)) chair k (storable o text chair ok) b))
