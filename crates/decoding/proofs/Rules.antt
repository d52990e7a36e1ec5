-- Rules of a table without a bad word, as they are read: a symbol, whose string is its rank (`symbol_read`), or two rules before it, whose strings
-- it spells one behind the other (`pair_read`). The same where the table stands in the work slice (`symbol_loaded`, `pair_loaded`); what is no symbol there is a pair (`pair_unless`).
use mathlib.Core.Path.{◌≡◌, sym, ◌∙◌, ap, ap₂, subst}
use mathlib.Core.List.{List}
use Prim.Native.Nat.{ℕ, ◌+◌, ◌*◌, ◌%◌, ◌≤◌, ◌<◌}
use native.Mathlib.Omega.{arith}
use lib.ListN.{length, take, drop, get_or}
use lib.Seq.{get_or-take}
use borrow.Author.Tests.{lt-ltb, le-ltb}
use Rattle.definitions.specs.Table.{word_of, number_of, rule_count}
use Rattle.lists.specs.Numbers.{split_le}
use Rattle.lists.specs.Parts.{part, part_at}
use Rattle.lyndon.specs.Shapes.{Shaped}
use Rattle.lyndon.specs.Ruled.{SymbolOf, PairOf, Ruled, symbol, pair, ruled}
use Rattle.layout.specs.Layout.{TABLE, KIND}
use Rattle.decoding.specs.declared.Rule.{Rule}
use Rattle.decoding.specs.declared.Rule.TheVariants.{Symbol, Pair}
use Rattle.decoding.specs.Decoding.{rule_at, rule_in, left_in, right_in}

-- ---- what the code reads

pub read_symbol : (t : List ℕ) (r : ℕ) → get_or t (2 * r) 0 < KIND → Symbol (get_or t (2 * r) 0) (get_or t (2 * r + 1) 0 % KIND) ≡ rule_at t r
unfolding rule_at
read_symbol t r l = rw (lt-ltb (get_or t (2 * r) 0) KIND l)

pub read_pair : (t : List ℕ) (r u v : ℕ) → KIND ≤ get_or t (2 * r) 0 → u ≡ get_or t (2 * r) 0 % KIND → v ≡ get_or t (2 * r + 1) 0 % KIND → Pair u v ≡ rule_at t r
unfolding rule_at
read_pair t r u v l e f = rw (le-ltb (get_or t (2 * r) 0) KIND l, e, f)

-- a rule in the work slice that is no symbol is the pair of its two halves
pub pair_unless : (w : List ℕ) (r : ℕ) → r < 2304 → ((a b : ℕ) → rule_in w r ≡ Symbol a b → ⊥) → rule_in w r ≡ Pair (left_in w r) (right_in w r)
unfolding rule_in left_in right_in part
pair_unless w r h k =
    let t = take 4608 (drop TABLE w) in
    let x : get_or t (2 * r) 0 ≡ get_or w (TABLE + 2 * r) 0 = part_at TABLE 4608 w (2 * r) 0 (omega arith) in
    let y : get_or t (2 * r + 1) 0 ≡ get_or w (TABLE + 2 * r + 1) 0 = part_at TABLE 4608 w (2 * r + 1) 0 (omega arith) ∙ ap (λ (i : ℕ). get_or w i 0) (omega arith) in
    split_le KIND (get_or t (2 * r) 0)
    (λ l. sym (read_pair t r (left_in w r) (right_in w r) l (ap (λ (n : ℕ). n % KIND) (sym x)) (ap (λ (n : ℕ). n % KIND) (sym y))))
    (λ l. absurd (k (get_or t (2 * r) 0) (get_or t (2 * r + 1) 0 % KIND) (sym (read_symbol t r l))))

-- a pair by its words
pub words_pair : (t : List ℕ) (r u v : ℕ) → u < KIND → v < KIND → get_or t (2 * r) 0 ≡ word_of 1 u → get_or t (2 * r + 1) 0 ≡ word_of 2 v → rule_at t r ≡ Pair u v
unfolding word_of
words_pair t r u v h k e f = sym (read_pair t r u v (omega arith) (omega arith) (omega arith))

-- ---- tables without a bad word

-- a rule as it is read
abbrev pub ReadAs : List ℕ → ℕ → Rule → Type 0
ReadAs t r (Symbol a b) = SymbolOf t r a b
ReadAs t r (Pair u v) = PairOf t r u v

module _ (t : List ℕ) (r : ℕ) (s : Shaped t) (h : r < rule_count t) where
  pub rule_read : ReadAs t r (rule_at t r)
  unfolding rule_at word_of number_of
  rule_read = go (ruled t s r h)
    where
      go : Ruled t r → ReadAs t r (rule_at t r)
      go (symbol a b k) =
          let x : a ≡ get_or t (2 * r) 0 = omega (arith, k.first) in
          let y : b ≡ get_or t (2 * r + 1) 0 % KIND = omega (arith, k.second, k.small) in
          subst (ReadAs t r) (ap₂ {C = Rule} (λ c d. Symbol c d) x y ∙ read_symbol t r (omega (arith, k.first, k.number))) k
      go (pair u v k) = subst (ReadAs t r) (read_pair t r u v (omega (arith, k.first)) (sym k.first_number) (sym k.second_number)) k

  pub symbol_read : (a b : ℕ) → rule_at t r ≡ Symbol a b → SymbolOf t r a b
  symbol_read a b e = subst (ReadAs t r) e rule_read

  pub pair_read : (u v : ℕ) → rule_at t r ≡ Pair u v → PairOf t r u v
  pair_read u v e = subst (ReadAs t r) e rule_read

-- ---- the table in the work slice

module _ (t w : List ℕ) (r : ℕ) (e : part TABLE (length t) w ≡ t) (s : Shaped t) (most : length t ≤ 4608) (h : r < rule_count t) where
  word_there : (i : ℕ) → i < length t → get_or (take 4608 (drop TABLE w)) i 0 ≡ get_or t i 0
  unfolding part
  word_there i l =
      get_or-take 4608 (drop TABLE w) i 0 (omega arith)
      ∙ sym (get_or-take (length t) (drop TABLE w) i 0 l)
      ∙ ap (λ (k : List ℕ). get_or k i 0) e

  pub rule_loaded : rule_in w r ≡ rule_at t r
  unfolding rule_in rule_at
  rule_loaded = rw (word_there (2 * r) (omega (arith, s.even)), word_there (2 * r + 1) (omega (arith, s.even)))

  pub symbol_loaded : (a b : ℕ) → rule_in w r ≡ Symbol a b → SymbolOf t r a b
  symbol_loaded a b q = symbol_read t r s h a b (sym rule_loaded ∙ q)

  pub pair_loaded : (u v : ℕ) → rule_in w r ≡ Pair u v → PairOf t r u v
  pair_loaded u v q = pair_read t r s h u v (sym rule_loaded ∙ q)
