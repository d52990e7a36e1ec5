-- The rules of a table without a bad word, by their words: rule r is a symbol, or the pair of two rules before it (`ruled`). In the words of the
-- definitions that is all there is to know of it.
use Rattle.std.specs.Prelude.{◌≡◌, refl, Bool, true, false, cond, List, [], ◌∷◌, ◌++◌, ℕ, ◌+◌, ◌*◌, ◌<◌, get_or, ltb, eqb}
use mathlib.Core.List.Memᴰ.{cases_cons as in-cons}
use mathlib.Core.List.Memᴰ.{not-nil as in-nil}
use Rattle.std.proofs.Common.{⊎_elim, arith, ltb-true, lt-ltb, eqb-true}
use Rattle.definitions.specs.declared.Order.{Order}
use Rattle.definitions.specs.Table.{rank_of_number, word_of, kind_of, number_of, rule_string, rule_count, is_pair, left_half, right_half, chair_of}
use Rattle.lists.specs.Bools.{either, and_left, and_right}
use Rattle.lyndon.specs.Encoding.{beside}
use Rattle.lyndon.specs.Shapes.{Shaped, Shape, one, two, shape, symbol_beside, symbol_string, pair_string}
use Rattle.lyndon.specs.Meeting.{Falling}

-- the halves of rule r, the left one first; none for a symbol
unfoldable pub halves : List ℕ → ℕ → List ℕ
halves t r = cond (is_pair t r) (number_of (get_or t (2 * r) 0) ∷ number_of (get_or t (2 * r + 1) 0) ∷ []) []

-- rule r is the symbol of number a, beside which stands b
pub record SymbolOf (t : List ℕ) (r a b : ℕ) : Type 0 where
  pub number : a < 257
  pub small : b < 65536
  pub beside : b ≡ beside (chair_of t) r
  pub kind : kind_of (get_or t (2 * r) 0) ≡ 0
  pub first_number : number_of (get_or t (2 * r) 0) ≡ a
  pub first : get_or t (2 * r) 0 ≡ word_of 0 a
  pub second : get_or t (2 * r + 1) 0 ≡ word_of 3 b
  pub no_pair : is_pair t r ≡ false
  pub no_halves : halves t r ≡ []
  pub string : (o : Order) → rule_string o t r ≡ rank_of_number o a ∷ []

-- rule r is the pair of the rules u and v
pub record PairOf (t : List ℕ) (r u v : ℕ) : Type 0 where
  pub left : u < r
  pub right : v < r
  pub kind : kind_of (get_or t (2 * r) 0) ≡ 1
  pub first_number : number_of (get_or t (2 * r) 0) ≡ u
  pub second_number : number_of (get_or t (2 * r + 1) 0) ≡ v
  pub first : get_or t (2 * r) 0 ≡ word_of 1 u
  pub second : get_or t (2 * r + 1) 0 ≡ word_of 2 v
  pub is_pair_lem : is_pair t r ≡ true
  pub both_halves : halves t r ≡ u ∷ v ∷ []
  pub string : (o : Order) → rule_string o t r ≡ rule_string o t u ++ rule_string o t v
  pub left_half_lem : (o : Order) → left_half o t r ≡ rule_string o t u
  pub right_half_lem : (o : Order) → right_half o t r ≡ rule_string o t v

pub data Ruled (t : List ℕ) (r : ℕ) : Type 0 where
  symbol : (a b : ℕ) → SymbolOf t r a b → Ruled t r
  pair : (u v : ℕ) → PairOf t r u v → Ruled t r

-- a word is its kind and its number
pub word_parts : (x k n : ℕ) → kind_of x ≡ k → number_of x ≡ n → x ≡ word_of k n
unfolding word_of kind_of number_of
word_parts x k n e f = omega arith

pub ruled : (t : List ℕ) → Shaped t → (r : ℕ) → r < rule_count t → Ruled t r
unfolding is_pair halves left_half right_half
ruled t s r h = go (shape t r s h)
  where
    x : ℕ
    x = get_or t (2 * r) 0

    y : ℕ
    y = get_or t (2 * r + 1) 0

    go : Shape t r → Ruled t r
    go (one k n l m) = symbol (number_of x) (number_of y) record {
      number = n;
      small = m;
      beside = symbol_beside t r s h k;
      kind = k;
      first_number = refl;
      first = word_parts x 0 (number_of x) k refl;
      second = word_parts y 3 (number_of y) l refl;
      no_pair = rw (lt-ltb r (rule_count t) h, k);
      no_halves = rw (lt-ltb r (rule_count t) h, k);
      string = λ o. symbol_string o t r h k;
    }
    go (two k n l m) = pair (number_of x) (number_of y) record {
      left = n;
      right = m;
      kind = k;
      first_number = refl;
      second_number = refl;
      first = word_parts x 1 (number_of x) k refl;
      second = word_parts y 2 (number_of y) l refl;
      is_pair_lem = rw (lt-ltb r (rule_count t) h, k);
      both_halves = rw (lt-ltb r (rule_count t) h, k);
      string = λ o. pair_string o t r h k n m;
      left_half_lem = λ o. refl;
      right_half_lem = λ o. refl;
    }

-- what is no rule has no halves, so every half stands before its rule
pub halves_fall : (t : List ℕ) → Shaped t → Falling (halves t)
unfolding halves is_pair
halves_fall t s r q i = ⊎_elim (λ e. go e (shape t r s (ltb-true r (rule_count t) (and_left (ltb r (rule_count t)) is e)))) (λ e. absurd (in-nil (rw e at i))) (either (is_pair t r))
  where
    is : Bool
    is = eqb (kind_of (get_or t (2 * r) 0)) 1

    go : is_pair t r ≡ true → Shape t r → q < r
    go e (one k n l m) = absurd (omega (arith, eqb-true (kind_of (get_or t (2 * r) 0)) 1 (and_right (ltb r (rule_count t)) is e)))
    go e (two k n l m) = ⊎_elim (λ f. omega arith) (λ j. ⊎_elim (λ f. omega arith) (λ z. absurd (in-nil z)) (in-cons j)) (in-cons (rw e at i))
