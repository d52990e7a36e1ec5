-- Tests. Rules are measured from the first up (`one_measured`): a word names one that is measured, or none (`named`, `none_named`), and a rule's length comes
-- from its words (`symbol_length`, `pair_length`). A rule is tested at a cut by these lengths (`no_pair` to `right_decides`); tests are counted cut by cut (`cuts_tested`) and rule by rule (`rules_tested`).
use mathlib.Core.Path.{◌≡◌, refl, sym, ◌∙◌, ap}
use mathlib.Core.Bool.{Bool, true, false, cond, ◌&&◌}
use mathlib.Core.List.{List, [], ◌∷◌, ◌++◌, map}
use Prim.Native.Nat.{ℕ, zero, suc, ◌+◌, ◌-◌, ◌*◌, ◌/◌, ◌%◌, ◌≤◌, ◌<◌}
use native.Mathlib.Omega.{arith}
use native.Mathlib.Numerals.{add-one}
use lib.ListN.{length, get_or, set, length-set, length-append, get_or-append, get_or-eq_default}
use lib.Seq.{get_or_at, get_or-set_same, get_or-set_other}
use lib.Dec.{ltb, leb, eqb}
use borrow.Author.Tests.{lt-ltb, le-leb, lt-leb, eq-eqb, ne_eqb}
use Rattle.definitions.specs.declared.Order.{Order}
use Rattle.definitions.specs.Table.{kind_of, number_of, string_of, strings, rule_string, rule_count, is_pair, left_half, right_half}
use Rattle.definitions.specs.Occurrences.{fits_join, is_tested, tests_of, tests_below}
use Rattle.lists.specs.Numbers.{split_le, split_lt}
use Rattle.std.specs.List.{filter, sum, range_with_len}
use Rattle.std.proofs.lemmas.List.Sums.{sum_by-cons}
use Rattle.naive_tests.specs.Lengths.{kept, Measured}

-- ---- lengths

strings_length : (o : Order) (t : List ℕ) (n : ℕ) → length (strings o t n) ≡ n
unfolding strings
strings_length o t zero = refl
strings_length o t (suc n) = simp length-append (omega (arith, strings_length o t n))

strings_more : (o : Order) (t : List ℕ) (n : ℕ) → strings o t (n + 1) ≡ strings o t n ++ (string_of o (strings o t n) (get_or t (2 * n) 0) (get_or t (2 * n + 1) 0) ∷ [])
unfolding strings
strings_more o t n = rw (add-one n)

module _ (t : List ℕ) (n x : ℕ) where
  pub named : (l : List ℕ) → x % 1073741824 < n → Measured t n l → (o : Order) → get_or l (x % 1073741824) 0 ≡ kept (length (get_or (strings o t n) (number_of x) []))
  unfolding number_of
  named l h s o = s.sizes o (x % 1073741824) h

  pub none_named : n ≤ x % 1073741824 → (o : Order) → 0 ≡ kept (length (get_or (strings o t n) (number_of x) []))
  unfolding number_of
  none_named h o = sym (ap (λ (s : List ℕ). kept (length s)) (get_or-eq_default (strings o t n) [] (omega (arith, strings_length o t n))))

module _ (o : Order) (before : List (List ℕ)) (x y : ℕ) where
  pub symbol_length : x / 1073741824 ≡ 0 → 1 ≡ kept (length (string_of o before x y))
  unfolding string_of kind_of
  symbol_length e = rw (eq-eqb (x / 1073741824) 0 e)

  both_lengths : (x / 1073741824 ≡ 0 → ⊥) → length (string_of o before x y) ≡ length (get_or before (number_of x) []) + length (get_or before (number_of y) [])
  unfolding string_of kind_of
  both_lengths d = rw (ne_eqb (x / 1073741824) 0 d) (length-append (get_or before (number_of x) []) (get_or before (number_of y) []))

  pub pair_length : (x / 1073741824 ≡ 0 → ⊥) → (a b : ℕ) → a ≡ kept (length (get_or before (number_of x) [])) → b ≡ kept (length (get_or before (number_of y) []))
      → kept (a + b) ≡ kept (length (string_of o before x y))
  pair_length d a b e f = omega (arith, both_lengths d)

pub one_measured : (t l : List ℕ) (n k : ℕ) → n < length l → Measured t n l
    → ((o : Order) → k ≡ kept (length (string_of o (strings o t n) (get_or t (2 * n) 0) (get_or t (2 * n + 1) 0)))) → Measured t (n + 1) (set l n k)
one_measured t l n k h s e = record { room = simp length-set (omega arith); sizes = more }
  where
    more : (o : Order) (q : ℕ) → q < n + 1 → get_or (set l n k) q 0 ≡ kept (length (get_or (strings o t (n + 1)) q []))
    more o q b =
        let new = string_of o (strings o t n) (get_or t (2 * n) 0) (get_or t (2 * n + 1) 0) in
        let size = strings_length o t n in
        rw (strings_more o t n)
        (split_lt q n
        (λ a. get_or-set_other l n q k 0 (λ z. omega arith) ∙ s.sizes o q a ∙ sym (ap (λ (u : List ℕ). kept (length u)) (get_or-append (strings o t n) (new ∷ []) [] q (omega arith))))
        (λ a. rw a (get_or-set_same l n k 0 h ∙ e o ∙ sym (ap (λ (u : List ℕ). kept (length u)) (get_or_at (strings o t n) new [] [] n size))))
        (λ a. absurd (omega arith)))

-- ---- a rule and a cut

module _ (o : Order) (t : List ℕ) (m r c : ℕ) where
  pub no_pair : (get_or t (2 * r) 0 / 1073741824 ≡ 1 → ⊥) → false ≡ is_tested o t m r c
  unfolding is_tested is_pair kind_of
  no_pair d = go (ltb r (rule_count t)) (eqb (get_or t (2 * r) 0 / 1073741824) 1) (ne_eqb (get_or t (2 * r) 0 / 1073741824) 1 d)
    where
      go : (a b : Bool) → b ≡ false → false ≡ (a && b) && fits_join m (length (left_half o t r)) (length (right_half o t r)) c
      go true b e = rw e
      go false b e = refl

  module _ (h : r < rule_count t) (e : get_or t (2 * r) 0 / 1073741824 ≡ 1) (b : c ≤ 4294967295) (left : ℕ)
      (k : left ≡ kept (length (get_or (strings o t (rule_count t)) (number_of (get_or t (2 * r) 0)) []))) where
    is_pair_lem : is_pair t r ≡ true
    unfolding is_pair kind_of
    is_pair_lem = rw (lt-ltb r (rule_count t) h, eq-eqb (get_or t (2 * r) 0 / 1073741824) 1 e)

    pub left_short : left < c → false ≡ is_tested o t m r c
    unfolding is_tested fits_join left_half rule_string
    left_short l = rw (is_pair_lem, lt-leb c (length (get_or (strings o t (rule_count t)) (number_of (get_or t (2 * r) 0)) [])) (omega arith))

    module _ (right : ℕ) (d : right ≡ kept (length (get_or (strings o t (rule_count t)) (number_of (get_or t (2 * r + 1) 0)) []))) where
      pub right_decides : m ≤ 2047 → c ≤ left → leb m (c + right) ≡ is_tested o t m r c
      unfolding is_tested fits_join left_half right_half rule_string
      right_decides g l =
          let v = length (get_or (strings o t (rule_count t)) (number_of (get_or t (2 * r + 1) 0)) []) in
          rw (is_pair_lem, le-leb c (length (get_or (strings o t (rule_count t)) (number_of (get_or t (2 * r) 0)) [])) (omega arith))
          (split_le m (c + right)
          (λ a. le-leb m (c + right) a ∙ sym (le-leb (m - c) v (omega arith)))
          (λ a. lt-leb m (c + right) a ∙ sym (lt-leb (m - c) v (omega arith))))

-- ---- tests counted

pub cuts_tested : (o : Order) (t : List ℕ) (m r : ℕ) (cuts : List ℕ) → length (filter (is_tested o t m r) cuts) ≡ length (tests_of o t m cuts r)
unfolding tests_of
cuts_tested o t m r [] = refl
cuts_tested o t m r (c ∷ cuts) = go (is_tested o t m r c) refl (cuts_tested o t m r cuts)
  where
    go : (b : Bool) → is_tested o t m r c ≡ b → length (filter (is_tested o t m r) cuts) ≡ length (tests_of o t m cuts r)
        → length (filter (is_tested o t m r) (c ∷ cuts)) ≡ length (cond (is_tested o t m r c) (record { rule = r; cut = c } ∷ []) [] ++ tests_of o t m cuts r)
    go true e ih = rw e (ap suc ih)
    go false e ih = rw e ih

-- how many tests a rule has, at most one for each cut
abbrev pub rule_tests : Order → List ℕ → ℕ → List ℕ → ℕ → ℕ
rule_tests o t m cuts r = length (tests_of o t m cuts r)

at_most : (o : Order) (t : List ℕ) (m : ℕ) (cuts : List ℕ) (r : ℕ) → rule_tests o t m cuts r ≤ length cuts
unfolding tests_of
at_most o t m [] r = omega arith
at_most o t m (c ∷ cuts) r = go (is_tested o t m r c) (at_most o t m cuts r)
  where
    go : (b : Bool) → rule_tests o t m cuts r ≤ length cuts → length (cond b (record { rule = r; cut = c } ∷ []) [] ++ tests_of o t m cuts r) ≤ suc (length cuts)
    go true ih = omega arith
    go false ih = omega arith

module _ (o : Order) (t : List ℕ) (m : ℕ) (cuts : List ℕ) where
  rule_more : (r : ℕ) → length (tests_below o t m cuts (r + 1)) ≡ length (tests_below o t m cuts r) + rule_tests o t m cuts r
  unfolding tests_below
  rule_more r = rw (add-one r) (length-append (tests_below o t m cuts r) (tests_of o t m cuts r))

  pub room : (a n : ℕ) → length cuts ≤ 64 → sum (map (rule_tests o t m cuts) (range_with_len a n)) ≤ 64 * n
  room a zero h = omega arith
  room a (suc n) h = omega (arith, at_most o t m cuts a, room (a + 1) n h, sum_by-cons (λ x. x) (rule_tests o t m cuts a) (map (rule_tests o t m cuts) (range_with_len (a + 1) n)))

  rules_from : (a n : ℕ) → length (tests_below o t m cuts a) + sum (map (rule_tests o t m cuts) (range_with_len a n)) ≡ length (tests_below o t m cuts (a + n))
  rules_from a zero =
      let same : a + 0 ≡ a = omega arith in
      omega (arith, ap (λ (k : ℕ). length (tests_below o t m cuts k)) same)
  rules_from a (suc n) =
      let next : a + 1 + n ≡ a + suc n = omega arith in
      omega (arith, rule_more a, rules_from (a + 1) n, sum_by-cons (λ x. x) (rule_tests o t m cuts a) (map (rule_tests o t m cuts) (range_with_len (a + 1) n)), ap (λ (k : ℕ). length (tests_below o t m cuts k)) next)

  pub rules_tested : (n : ℕ) → sum (map (rule_tests o t m cuts) (range_with_len 0 n)) ≡ length (tests_below o t m cuts n)
  unfolding tests_below
  rules_tested n =
      let from : 0 + n ≡ n = omega arith in
      sym (add_zero_left (sum (map (rule_tests o t m cuts) (range_with_len 0 n)))) ∙ rules_from 0 n ∙ ap (λ (k : ℕ). length (tests_below o t m cuts k)) from
    where
      add_zero_left : (k : ℕ) → 0 + k ≡ k
      add_zero_left k = omega arith
