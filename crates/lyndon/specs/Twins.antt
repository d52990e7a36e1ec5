-- Rules with the same words: no two have them (`is_new`) exactly where no two spell the same string, for then, the rules' halves being standard
-- factorizations, what is spelled says the words (`strings_once`, `once_new`).
use Rattle.std.specs.Prelude.{◌≡◌, Bool, true, false, ◌&&◌, ◌||◌, ◌⊎◌, ℕ, zero, suc, ◌+◌, ◌*◌, ◌<◌, length, get_or, eqb}
use Rattle.std.proofs.Common.{sym, ◌∙◌, ap, ap₂, arith, length-append}
use Rattle.std.proofs.Math.Bool.{and-true}
use Rattle.std.proofs.Math.Logic.{inl, inr, ⊎_elim}
use mathlib.Core.List.{List, [], ◌∷◌, ◌++◌, head-eq_of_cons-eq}
use borrow.Author.Tests.{eqb-true, eq-eqb}
use Rattle.definitions.specs.declared.Order.{Order}
use Rattle.definitions.specs.Words.{every}
use Rattle.definitions.specs.Grammar.{left_of, right_of}
use Rattle.definitions.specs.Table.{number_of_rank, rank_of_number, word_of, kind_of, number_of, rule_string, rule_count}
use Rattle.lists.specs.Bools.{contra, and_left, and_right, and_intro, or_left, or_right, or_cases, not_so}
use Rattle.lists.specs.Numbers.{split_lt, every_at, every_all}
use Rattle.lists.specs.Newest.{has_words, newest, newest_none, newest_no}
use Rattle.lyndon.specs.Factorization.{std_left, std_right}
use Rattle.lyndon.specs.Ranks.{number_of_rank_lem}
use Rattle.lyndon.specs.Shapes.{Shaped, string_filled}
use Rattle.lyndon.specs.Ruled.{Ruled, symbol, pair, PairOf, ruled}
use Rattle.lyndon.specs.Standard.{ordered, rule_standard}

-- rule i has the words of rule r; what stands beside a symbol does not matter
unfoldable pub twin : List ℕ → ℕ → ℕ → Bool
twin t r i =
    eqb (get_or t (2 * i) 0) (get_or t (2 * r) 0) && (eqb (kind_of (get_or t (2 * r) 0)) 0 || eqb (get_or t (2 * i + 1) 0) (get_or t (2 * r + 1) 0))

pub twin_symbol : (t : List ℕ) (r i : ℕ) → kind_of (get_or t (2 * r) 0) ≡ 0 → twin t r i ≡ eqb (get_or t (2 * i) 0) (get_or t (2 * r) 0)
unfolding twin
twin_symbol t r i e = rw (e, and-true)

pub twin_pair : (t : List ℕ) (r i : ℕ) → kind_of (get_or t (2 * r) 0) ≡ 1 → twin t r i ≡ has_words t (get_or t (2 * r) 0) (get_or t (2 * r + 1) 0) i
unfolding twin has_words
twin_pair t r i e = rw e

-- no rule before r has its words
unfoldable pub is_new : List ℕ → ℕ → Bool
is_new t r = eqb (newest (twin t r) r) r

pub new_none : (t : List ℕ) (r : ℕ) → ((i : ℕ) → i < r → twin t r i ≡ false) → is_new t r ≡ true
unfolding is_new
new_none t r h = eq-eqb (newest (twin t r) r) r (newest_none (twin t r) r h)

pub new_no_twin : (t : List ℕ) (r : ℕ) → is_new t r ≡ true → (i : ℕ) → i < r → twin t r i ≡ false
unfolding is_new
new_no_twin t r e = newest_no (twin t r) r (eqb-true (newest (twin t r) r) r e)

module _ (t : List ℕ) (r i : ℕ) where
  first : Bool
  first = eqb (get_or t (2 * i) 0) (get_or t (2 * r) 0)

  second : Bool
  second = eqb (get_or t (2 * i + 1) 0) (get_or t (2 * r + 1) 0)

  alone : Bool
  alone = eqb (kind_of (get_or t (2 * r) 0)) 0

  pub twin_words : get_or t (2 * i) 0 ≡ get_or t (2 * r) 0 → (kind_of (get_or t (2 * r) 0) ≡ 0) ⊎ (get_or t (2 * i + 1) 0 ≡ get_or t (2 * r + 1) 0) → twin t r i ≡ true
  unfolding twin first second alone
  twin_words e f = and_intro first (alone || second) (eq-eqb (get_or t (2 * i) 0) (get_or t (2 * r) 0) e)
      (⊎_elim (λ k. or_left alone second (eq-eqb (kind_of (get_or t (2 * r) 0)) 0 k)) (λ k. or_right alone second (eq-eqb (get_or t (2 * i + 1) 0) (get_or t (2 * r + 1) 0) k)) f)

  pub words_twin : twin t r i ≡ true → (get_or t (2 * i) 0 ≡ get_or t (2 * r) 0) × ((kind_of (get_or t (2 * r) 0) ≡ 0) ⊎ (get_or t (2 * i + 1) 0 ≡ get_or t (2 * r + 1) 0))
  unfolding twin first second alone
  words_twin e = (
    eqb-true (get_or t (2 * i) 0) (get_or t (2 * r) 0) (and_left first (alone || second) e),
    ⊎_elim (λ k. inl (eqb-true (kind_of (get_or t (2 * r) 0)) 0 k)) (λ k. inr (eqb-true (get_or t (2 * i + 1) 0) (get_or t (2 * r + 1) 0) k)) (or_cases alone second (and_right first (alone || second) e)),
  )

-- ---- twins spell the same

module _ (o : Order) (t : List ℕ) (s : Shaped t) where
  twin_string : (r i : ℕ) → r < rule_count t → i < rule_count t → twin t r i ≡ true → rule_string o t i ≡ rule_string o t r
  twin_string r i hr hi e = go (words_twin t r i e) (ruled t s i hi) (ruled t s r hr)
    where
      go : (get_or t (2 * i) 0 ≡ get_or t (2 * r) 0) × ((kind_of (get_or t (2 * r) 0) ≡ 0) ⊎ (get_or t (2 * i + 1) 0 ≡ get_or t (2 * r + 1) 0)) → Ruled t i → Ruled t r
          → rule_string o t i ≡ rule_string o t r
      go (f, g) (symbol n _ p) (symbol m _ q) = p.string o ∙ ap {B = List ℕ} (λ a. rank_of_number o a ∷ []) (sym p.first_number ∙ ap number_of f ∙ q.first_number) ∙ sym (q.string o)
      go (f, g) (symbol n _ p) (pair x y q) = absurd (omega (arith, p.kind, q.kind, ap kind_of f))
      go (f, g) (pair u v p) (symbol m _ q) = absurd (omega (arith, p.kind, q.kind, ap kind_of f))
      go (f, g) (pair u v p) (pair x y q) =
          p.string o
          ∙ ap₂ {C = List ℕ} (λ a b. rule_string o t a ++ rule_string o t b) (sym p.first_number ∙ ap number_of f ∙ q.first_number)
          (⊎_elim (λ k. absurd (omega (arith, q.kind))) (λ k. sym p.second_number ∙ ap number_of k ∙ q.second_number) g)
          ∙ sym (q.string o)

  pub once_new : ((i j : ℕ) → i < rule_count t → j < rule_count t → rule_string o t i ≡ rule_string o t j → i ≡ j) → every (is_new t) (rule_count t) ≡ true
  once_new once = every_all (is_new t) (rule_count t) (λ r h. new_none t r (λ i l. not_so (twin t r i) (λ e.
      omega (arith, once i r (omega arith) h (twin_string r i h (omega arith) e)))))

  -- ---- and the other way, by rule number

  module _ (new : every (is_new t) (rule_count t) ≡ true) (e : every (ordered o t) (rule_count t) ≡ true) where
    -- no rule but itself is its twin
    twin_same : (i j : ℕ) → i < rule_count t → j < rule_count t → twin t j i ≡ true → twin t i j ≡ true → i ≡ j
    twin_same i j hi hj f g = split_lt i j
        (λ l. contra f (new_no_twin t j (every_at (is_new t) (rule_count t) new j hj) i l))
        (λ q. q)
        (λ l. contra g (new_no_twin t i (every_at (is_new t) (rule_count t) new i hi) j l))

    once_below : (b i j : ℕ) → i < b → j < b → i < rule_count t → j < rule_count t → rule_string o t i ≡ rule_string o t j → i ≡ j
    once_below zero i j l m hi hj f = absurd (omega arith)
    once_below (suc b) i j l m hi hj f = go (ruled t s i hi) (ruled t s j hj)
        (λ x y p q. once_below b x y (omega arith) (omega arith) (omega arith) (omega arith))
      where
        -- a symbol is shorter than a pair
        short : (q n u v : ℕ) → PairOf t q u v → q < rule_count t → rule_string o t q ≡ n ∷ [] → ⊥
        short q n u v p h g =
            let a = string_filled o t s u (omega (arith, p.left)) in
            let c = string_filled o t s v (omega (arith, p.right)) in
            omega (arith, simp length-append at (ap length (sym (p.string o) ∙ g)))

        go : Ruled t i → Ruled t j → ((x y : ℕ) → x < i → y < j → rule_string o t x ≡ rule_string o t y → x ≡ y) → i ≡ j
        go (symbol n _ p) (symbol k _ q) ih =
            let same : n ≡ k = sym (number_of_rank_lem o n p.number) ∙ ap (number_of_rank o) (head-eq_of_cons-eq (sym (p.string o) ∙ f ∙ q.string o)) ∙ number_of_rank_lem o k q.number in
            let words = p.first ∙ ap (word_of 0) same ∙ sym q.first in
            twin_same i j hi hj (twin_words t j i words (inl q.kind)) (twin_words t i j (sym words) (inl p.kind))
        go (symbol n _ p) (pair x y q) ih = absurd (short j (rank_of_number o n) x y q hj (sym f ∙ p.string o))
        go (pair u v p) (symbol k _ q) ih = absurd (short i (rank_of_number o k) u v p hi (f ∙ q.string o))
        go (pair u v p) (pair x y q) ih =
            let whole = sym (p.string o) ∙ f ∙ q.string o in
            let (d, _) = rule_standard o t s e i u v hi p in
            let (c, _) = rule_standard o t s e j x y hj q in
            let left = ih u x p.left q.left (sym (std_left (rule_string o t u) (rule_string o t v) d) ∙ ap left_of whole ∙ std_left (rule_string o t x) (rule_string o t y) c) in
            let right = ih v y p.right q.right (sym (std_right (rule_string o t u) (rule_string o t v) d) ∙ ap right_of whole ∙ std_right (rule_string o t x) (rule_string o t y) c) in
            let first = p.first ∙ ap (word_of 1) left ∙ sym q.first in
            let second = p.second ∙ ap (word_of 2) right ∙ sym q.second in
            twin_same i j hi hj (twin_words t j i first (inr second)) (twin_words t i j (sym first) (inr (sym second)))

    pub strings_once : (i j : ℕ) → i < rule_count t → j < rule_count t → rule_string o t i ≡ rule_string o t j → i ≡ j
    strings_once i j = once_below (suc (i + j)) i j (omega arith) (omega arith)
