-- Chains of rules that each add the same right half, in a table without a bad word: from a pair rule, so many steps to the left half as its repeat count says lead to a kept rule
-- before it that no longer adds that right half, and each step takes one copy of it (`chain`); a walk that stops there has counted right (`repeat_is`).
use Rattle.std.specs.Prelude.{◌≡◌, refl, Bool, ◌&&◌, ◌||◌, get_or, ltb, eqb}
use Rattle.std.proofs.Math.Path.{sym, ap, subst}
use Rattle.std.proofs.Common.{◌∙◌}
use Rattle.std.proofs.Math.Bool.{true, false, not}
use mathlib.Core.List.{List, ◌++◌, append_assoc, append-nil}
use Prim.Native.Nat.{ℕ, zero, suc, ◌+◌, ◌*◌, ◌≤◌, ◌<◌}
use native.Mathlib.Omega.{arith}
use borrow.Author.Tests.{ltb-true, eqb-true, eq-eqb, not-true, not-false}
use Rattle.definitions.specs.declared.Order.{Order}
use Rattle.definitions.specs.Words.{some}
use Rattle.definitions.specs.Table.{kind_of, rule_string, rule_count, is_pair}
use Rattle.definitions.specs.SecondEdition.{left_rule, right_rule, adds, starts_chain, is_kept, left_after, repeat_count, copies}
use Rattle.lists.specs.Bools.{contra, and_left, and_right, and_intro, or_left, or_right}
use Rattle.lists.specs.Numbers.{some_at, least_before, least_holds, least_is}
use Rattle.lyndon.specs.Shapes.{Shaped}
use Rattle.lyndon.specs.Ruled.{Ruled, symbol, pair, SymbolOf, PairOf, ruled}

-- ---- the halves of a rule, by its words

module _ {t : List ℕ} {r : ℕ} where
  pub pair_left : {u v : ℕ} → PairOf t r u v → left_rule t r ≡ u
  unfolding left_rule
  pair_left k = k.first_number

  pub pair_right : {u v : ℕ} → PairOf t r u v → right_rule t r ≡ v
  unfolding right_rule
  pair_right k = k.second_number

  pub pair_adds : {u v : ℕ} → PairOf t r u v → (w : ℕ) → adds t w r ≡ eqb v w
  unfolding adds
  pair_adds k w = rw (k.is_pair_lem, pair_right k)

  pub symbol_adds : {a b : ℕ} → SymbolOf t r a b → (w : ℕ) → adds t w r ≡ false
  unfolding adds
  symbol_adds k w = rw k.no_pair

-- a pair is a rule
pub pair_rule : (t : List ℕ) (r : ℕ) → is_pair t r ≡ true → r < rule_count t
unfolding is_pair
pair_rule t r e = ltb-true r (rule_count t) (and_left (ltb r (rule_count t)) (eqb (kind_of (get_or t (2 * r) 0)) 1) e)

-- a pair adds its right half
pub adds_own : (t : List ℕ) (r : ℕ) → is_pair t r ≡ true → adds t (right_rule t r) r ≡ true
unfolding adds
adds_own t r e = and_intro (is_pair t r) (eqb (right_rule t r) (right_rule t r)) e (eq-eqb (right_rule t r) (right_rule t r) refl)

-- j steps to the left half from rule r, each from a rule that adds v
abbrev pub Walked : List ℕ → ℕ → ℕ → ℕ → Type 0
Walked t v r j = (i : ℕ) → i < j → adds t v (left_after t i r) ≡ true

module _ (t : List ℕ) (s : Shaped t) where
  pub pair_of : (r : ℕ) → is_pair t r ≡ true → PairOf t r (left_rule t r) (right_rule t r)
  pair_of r e = go (ruled t s r (pair_rule t r e))
    where
      go : Ruled t r → PairOf t r (left_rule t r) (right_rule t r)
      go (symbol _ _ k) = contra e k.no_pair
      go (pair u v k) = subst (λ (x : ℕ). PairOf t r x (right_rule t r)) (sym (pair_left k)) (subst (λ (x : ℕ). PairOf t r u x) (sym (pair_right k)) k)

  -- what adds v is the pair of its left half and v
  pub adds_pair : (v r : ℕ) → adds t v r ≡ true → PairOf t r (left_rule t r) v
  unfolding adds
  adds_pair v r e =
      subst (λ (x : ℕ). PairOf t r (left_rule t r) x) (eqb-true (right_rule t r) v (and_right (is_pair t r) (eqb (right_rule t r) v) e))
      (pair_of r (and_left (is_pair t r) (eqb (right_rule t r) v) e))

  -- ---- a walk to the left

  -- each step leads to an earlier rule
  pub walk_falls : (v r j : ℕ) → Walked t v r j → left_after t j r + j ≤ r
  unfolding left_after
  walk_falls v r zero w = omega arith
  walk_falls v r (suc j) w =
      omega (arith, (adds_pair v (left_after t j r) (w j (omega arith))).left, walk_falls v r j (λ i h. w i (omega arith)))

  -- and takes one copy of what v spells
  pub walk_string : (o : Order) (v r j : ℕ) → Walked t v r j → rule_string o t r ≡ rule_string o t (left_after t j r) ++ copies j (rule_string o t v)
  unfolding left_after copies
  walk_string o v r zero w = sym (append-nil (rule_string o t r))
  walk_string o v r (suc j) w =
      walk_string o v r j (λ i h. w i (omega arith))
      ∙ ap (λ (x : List ℕ). x ++ copies j (rule_string o t v)) ((adds_pair v (left_after t j r) (w j (omega arith))).string o)
      ∙ append_assoc (rule_string o t (left_rule t (left_after t j r))) (rule_string o t v) (copies j (rule_string o t v))

  -- ---- kept rules

  -- a right half, and a left half that does not add its rule's right half
  kept_by : (r q : ℕ) → q < rule_count t → adds t r q || starts_chain t r q ≡ true → is_kept t r ≡ true
  unfolding is_kept
  kept_by r q h e =
      let found = some_at (λ x. adds t r x || starts_chain t r x) (rule_count t) q h e in
      or_right (not (is_pair t r)) (eqb (suc r) (rule_count t) || some (λ x. adds t r x || starts_chain t r x) (rule_count t))
      (or_right (eqb (suc r) (rule_count t)) (some (λ x. adds t r x || starts_chain t r x) (rule_count t)) found)

  pub right_kept : (v q : ℕ) → adds t v q ≡ true → is_kept t v ≡ true
  right_kept v q e = kept_by v q (pair_rule t q (adds_pair v q e).is_pair_lem) (or_left (adds t v q) (starts_chain t v q) e)

  left_kept : (v q : ℕ) → adds t v q ≡ true → adds t v (left_rule t q) ≡ false → is_kept t (left_rule t q) ≡ true
  unfolding starts_chain
  left_kept v q e f =
      let k = adds_pair v q e in
      let other : not (adds t (right_rule t q) (left_rule t q)) ≡ true = ap (λ (x : ℕ). not (adds t x (left_rule t q))) (pair_right k) ∙ ap not f in
      kept_by (left_rule t q) q (pair_rule t q k.is_pair_lem)
      (or_right (adds t (left_rule t q) q) (starts_chain t (left_rule t q) q)
      (and_intro (is_pair t q) (eqb (left_rule t q) (left_rule t q) && not (adds t (right_rule t q) (left_rule t q))) k.is_pair_lem
      (and_intro (eqb (left_rule t q) (left_rule t q)) (not (adds t (right_rule t q) (left_rule t q))) (eq-eqb (left_rule t q) (left_rule t q) refl) other)))

-- a walk that ends at a rule that does not add v ends at a kept one
walk_kept : (t : List ℕ) (s : Shaped t) (v r j : ℕ) → 0 < j → Walked t v r j → adds t v (left_after t j r) ≡ false → is_kept t (left_after t j r) ≡ true
unfolding left_after
walk_kept t s v r zero h w e = absurd (omega arith)
walk_kept t s v r (suc j) h w e = left_kept t s v (left_after t j r) (w j (omega arith)) e

-- ---- the chain of a pair rule

pub record Chain (t : List ℕ) (r : ℕ) : Type 0 where
  pub one : 1 ≤ repeat_count t r
  pub most : repeat_count t r ≤ r
  pub on : (j : ℕ) → j < repeat_count t r → adds t (right_rule t r) (left_after t j r) ≡ true
  pub falls : (j : ℕ) → j ≤ repeat_count t r → left_after t j r + j ≤ r
  pub stop : adds t (right_rule t r) (left_after t (repeat_count t r) r) ≡ false
  pub left : left_after t (repeat_count t r) r < r
  pub right : right_rule t r < r
  pub left_kept : is_kept t (left_after t (repeat_count t r) r) ≡ true
  pub right_kept : is_kept t (right_rule t r) ≡ true
  pub string : (o : Order) (j : ℕ) → j ≤ repeat_count t r → rule_string o t r ≡ rule_string o t (left_after t j r) ++ copies j (rule_string o t (right_rule t r))

module _ (t : List ℕ) (s : Shaped t) (r : ℕ) (e : is_pair t r ≡ true) where
  abbrev test : ℕ → Bool
  test j = not (adds t (right_rule t r) (left_after t j r))

  walked : Walked t (right_rule t r) r (repeat_count t r)
  unfolding repeat_count
  walked j h = not-false (adds t (right_rule t r) (left_after t j r)) (least_before test (rule_count t) j h)

  stopped : adds t (right_rule t r) (left_after t (repeat_count t r) r) ≡ false
  unfolding repeat_count
  stopped =
      let fall = walk_falls t s (right_rule t r) r (repeat_count t r) walked in
      not-true (adds t (right_rule t r) (left_after t (repeat_count t r) r)) (least_holds test (rule_count t) (omega (arith, pair_rule t r e)))

  -- the least count at which the walk stops is the repeat count
  pub repeat_is : (j : ℕ) → Walked t (right_rule t r) r j → adds t (right_rule t r) (left_after t j r) ≡ false → repeat_count t r ≡ j
  unfolding repeat_count
  repeat_is j w f =
      least_is test (rule_count t) j (omega (arith, walk_falls t s (right_rule t r) r j w, pair_rule t r e)) (ap not f) (λ i h. ap not (w i h))

  one_step : 1 ≤ repeat_count t r
  unfolding left_after
  one_step = go (repeat_count t r) stopped
    where
      go : (k : ℕ) → adds t (right_rule t r) (left_after t k r) ≡ false → 1 ≤ k
      go zero q = contra (adds_own t r e) q
      go (suc k) q = omega arith

  pub chain : Chain t r
  chain =
      let v = right_rule t r in
      let k = repeat_count t r in
      let first = one_step in
      let fall = walk_falls t s v r k walked in
      record {
        one = first;
        most = omega arith;
        on = walked;
        falls = λ j h. walk_falls t s v r j (λ i l. walked i (omega arith));
        stop = stopped;
        left = omega arith;
        right = (pair_of t s r e).right;
        left_kept = walk_kept t s v r k first walked stopped;
        right_kept = right_kept t s v r (adds_own t r e);
        string = λ o j h. walk_string t s o v r j (λ i l. walked i (omega arith));
      }
