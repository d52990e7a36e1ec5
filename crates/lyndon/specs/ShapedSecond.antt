-- Second-edition tables without a bad word, wherever they come from: each rule is a symbol, or a rule before it and then copies of another
-- (`ruled_second`), by its words and by what it spells; so no rule spells nothing (`second_filled`), every symbol is a rank (`second_ranks`),
-- and word 1 holds a chair number (`second_chair`).
use Rattle.std.specs.Prelude.{◌≡◌, not, ◌&&◌, ◌||◌, length, get_or}
use Rattle.std.proofs.Math.Path.{refl, sym}
use Rattle.std.proofs.Common.{◌∙◌, ap, ap₂, subst, ⊎_elim, length-append}
use Rattle.std.proofs.Math.Bool.{false}
use mathlib.Core.List.Memᴰ.{append_cases as in-append}
use mathlib.Core.List.Memᴰ.{eq_of_singleton as in_one}
use mathlib.Core.List.{List, [], ◌∷◌, ◌++◌, Memᴰ as In}
use Prim.Native.Nat.{ℕ, zero, suc, ◌+◌, ◌-◌, ◌*◌, ◌/◌, ◌%◌, ◌^◌, ◌≤◌, ◌<◌}
use native.Mathlib.Omega.{arith}
use Rattle.std.proofs.Math.Dec.{ltb, eqb}
use borrow.Author.Tests.{ltb-false, eqb-true, eqb-false, eq-eqb, ne_eqb, not-false}
use Rattle.definitions.specs.declared.Order.{Order}
use Rattle.definitions.specs.Table.{rank_of_number, word_of, kind_of, number_of, bad_first, bad_second}
use Rattle.definitions.specs.SecondEdition.{bad_third, bad_in_second, copies, string_in_second, second_rules, second_strings, second_string}
use Rattle.lists.specs.Bools.{or_false_left, or_false_right}
use Rattle.lists.specs.Lists.{grown_length, grown_at}
use Rattle.lists.specs.Copies.{in_copies}
use Rattle.lyndon.specs.Encoding.{word_number}
use Rattle.lyndon.specs.Shapes.{ShapeOf, one, two, words_shape, number_rank}
use Rattle.lyndon.specs.Ruled.{word_parts}

-- no word of the table is bad, and its words come in threes
pub record ShapedSecond (s : List ℕ) : Type 0 where
  pub good : (i : ℕ) → i < length s → bad_in_second s i ≡ false
  pub threes : length s ≡ 3 * second_rules s
  pub filled : 0 < length s

-- ---- the three words of a rule

-- which test a word of rule r stands under
pub bad_first_lem : (s : List ℕ) (r : ℕ) → bad_in_second s (3 * r) ≡ bad_first r (get_or s (3 * r) 0)
unfolding bad_in_second
bad_first_lem s r =
    let z : 3 * r % 3 ≡ 0 = omega arith in
    let q : 3 * r / 3 ≡ r = omega arith in
    rw (eq-eqb (3 * r % 3) 0 z, q)

pub bad_second_lem : (s : List ℕ) (r : ℕ) → bad_in_second s (3 * r + 1) ≡ bad_second r (get_or s (3 * r) 0) (get_or s (3 * r + 1) 0)
unfolding bad_in_second
bad_second_lem s r =
    let y : (3 * r + 1) % 3 ≡ 0 → ⊥ = λ e. omega arith in
    let z : (3 * r + 1) % 3 ≡ 1 = omega arith in
    let q : (3 * r + 1) / 3 ≡ r = omega arith in
    let p : 3 * r + 1 - 1 ≡ 3 * r = omega arith in
    rw (ne_eqb ((3 * r + 1) % 3) 0 y, eq-eqb ((3 * r + 1) % 3) 1 z, q, p)

pub bad_third_lem : (s : List ℕ) (r : ℕ) → bad_in_second s (3 * r + 2) ≡ bad_third (get_or s (3 * r) 0) (get_or s (3 * r + 2) 0)
unfolding bad_in_second
bad_third_lem s r =
    let y : (3 * r + 2) % 3 ≡ 0 → ⊥ = λ e. omega arith in
    let z : (3 * r + 2) % 3 ≡ 1 → ⊥ = λ e. omega arith in
    let p : 3 * r + 2 - 2 ≡ 3 * r = omega arith in
    rw (ne_eqb ((3 * r + 2) % 3) 0 y, ne_eqb ((3 * r + 2) % 3) 1 z, p)

-- the third word's test, behind either kind
module _ (x z : ℕ) (e : bad_third x z ≡ false) where
  third_kind : kind_of z ≡ 3
  unfolding bad_third
  third_kind = eqb-true (kind_of z) 3 (not-false (eqb (kind_of z) 3) (or_false_left (not (eqb (kind_of z) 3)) ((eqb (kind_of x) 1 && eqb (number_of z) 0) || (eqb (kind_of x) 0 && ltb 0 (number_of z))) e))

  third_pair : kind_of x ≡ 1 → 0 < number_of z
  unfolding bad_third
  third_pair k =
      let f = or_false_right (not (eqb (kind_of z) 3)) ((eqb (kind_of x) 1 && eqb (number_of z) 0) || (eqb (kind_of x) 0 && ltb 0 (number_of z))) e in
      let g : eqb (number_of z) 0 ≡ false = or_false_left (eqb (number_of z) 0) false (rw k at f) in
      let n = eqb-false (number_of z) 0 g in
      positive (number_of z) n
    where
      positive : (n : ℕ) → (n ≡ 0 → ⊥) → 0 < n
      positive zero h = absurd (h refl)
      positive (suc n) h = omega arith

  third_symbol : kind_of x ≡ 0 → number_of z ≡ 0
  unfolding bad_third
  third_symbol k =
      let f = or_false_right (not (eqb (kind_of z) 3)) ((eqb (kind_of x) 1 && eqb (number_of z) 0) || (eqb (kind_of x) 0 && ltb 0 (number_of z))) e in
      let g : ltb 0 (number_of z) ≡ false = rw k at f in
      omega (arith, ltb-false 0 (number_of z) g)

-- ---- what the rules spell

module _ (o : Order) (s : List ℕ) where
  -- the string that rule r adds to those before it
  abbrev added : ℕ → List ℕ
  added r = string_in_second o (second_strings o s r) (get_or s (3 * r) 0) (get_or s (3 * r + 1) 0) (get_or s (3 * r + 2) 0)

  pub second_length_lem : (n : ℕ) → length (second_strings o s n) ≡ n
  unfolding second_strings
  second_length_lem n = grown_length (second_strings o s) added refl (λ m. refl) n

  string_at : (n r : ℕ) → r < n → get_or (second_strings o s n) r [] ≡ added r
  unfolding second_strings
  string_at n r h = grown_at (second_strings o s) added refl (λ m. refl) n r [] h

  -- more rules behind change no string
  pub second_in : (n r : ℕ) → r < n → n ≤ second_rules s → get_or (second_strings o s n) r [] ≡ second_string o s r
  unfolding second_string
  second_in n r h l = string_at n r h ∙ sym (string_at (second_rules s) r (omega arith))

  rule_string_lem : (r : ℕ) → r < second_rules s → second_string o s r ≡ added r
  unfolding second_string
  rule_string_lem r h = string_at (second_rules s) r h

  symbol_string : (r : ℕ) → r < second_rules s → kind_of (get_or s (3 * r) 0) ≡ 0 → second_string o s r ≡ rank_of_number o (number_of (get_or s (3 * r) 0)) ∷ []
  unfolding string_in_second
  symbol_string r h e = rule_string_lem r h ∙ rw e

  repeated_string : (r : ℕ) → r < second_rules s → kind_of (get_or s (3 * r) 0) ≡ 1 → number_of (get_or s (3 * r) 0) < r → number_of (get_or s (3 * r + 1) 0) < r
      → second_string o s r
      ≡ second_string o s (number_of (get_or s (3 * r) 0)) ++ copies (number_of (get_or s (3 * r + 2) 0)) (second_string o s (number_of (get_or s (3 * r + 1) 0)))
  unfolding string_in_second
  repeated_string r h e u v =
      rule_string_lem r h
      ∙ rw e
      (ap₂ {C = List ℕ} (λ x y. x ++ copies (number_of (get_or s (3 * r + 2) 0)) y)
      (second_in r (number_of (get_or s (3 * r) 0)) u (omega arith))
      (second_in r (number_of (get_or s (3 * r + 1) 0)) v (omega arith)))

-- ---- the two kinds of rules

-- rule r is the symbol of number a, beside which stand b and 0
pub record SingleOf (s : List ℕ) (r a b : ℕ) : Type 0 where
  pub number : a < 257
  pub small : b < 65536
  pub kind : kind_of (get_or s (3 * r) 0) ≡ 0
  pub first_number : number_of (get_or s (3 * r) 0) ≡ a
  pub first : get_or s (3 * r) 0 ≡ word_of 0 a
  pub second : get_or s (3 * r + 1) 0 ≡ word_of 3 b
  pub third : get_or s (3 * r + 2) 0 ≡ word_of 3 0
  pub string : (o : Order) → second_string o s r ≡ rank_of_number o a ∷ []

-- rule r is rule u and then k copies of rule v
pub record RepeatedOf (s : List ℕ) (r u v k : ℕ) : Type 0 where
  pub left : u < r
  pub right : v < r
  pub count : 0 < k
  pub limit : k < 2 ^ 30
  pub kind : kind_of (get_or s (3 * r) 0) ≡ 1
  pub first_number : number_of (get_or s (3 * r) 0) ≡ u
  pub second_number : number_of (get_or s (3 * r + 1) 0) ≡ v
  pub third_number : number_of (get_or s (3 * r + 2) 0) ≡ k
  pub first : get_or s (3 * r) 0 ≡ word_of 1 u
  pub second : get_or s (3 * r + 1) 0 ≡ word_of 2 v
  pub third : get_or s (3 * r + 2) 0 ≡ word_of 3 k
  pub string : (o : Order) → second_string o s r ≡ second_string o s u ++ copies k (second_string o s v)

pub data RuledSecond (s : List ℕ) (r : ℕ) : Type 0 where
  single : (a b : ℕ) → SingleOf s r a b → RuledSecond s r
  repeated : (u v k : ℕ) → RepeatedOf s r u v k → RuledSecond s r

number_limit : (x : ℕ) → number_of x < 2 ^ 30
unfolding number_of
number_limit x = omega arith

pub ruled_second : (s : List ℕ) → ShapedSecond s → (r : ℕ) → r < second_rules s → RuledSecond s r
ruled_second s ok r h =
    go (words_shape r x y
    (sym (bad_first_lem s r) ∙ ok.good (3 * r) (omega (arith, ok.threes)))
    (sym (bad_second_lem s r) ∙ ok.good (3 * r + 1) (omega (arith, ok.threes))))
  where
    x : ℕ
    x = get_or s (3 * r) 0

    y : ℕ
    y = get_or s (3 * r + 1) 0

    z : ℕ
    z = get_or s (3 * r + 2) 0

    third : bad_third x z ≡ false
    third = sym (bad_third_lem s r) ∙ ok.good (3 * r + 2) (omega (arith, ok.threes))

    go : ShapeOf r x y → RuledSecond s r
    go (one k n l m) = single (number_of x) (number_of y) record {
      number = n;
      small = m;
      kind = k;
      first_number = refl;
      first = word_parts x 0 (number_of x) k refl;
      second = word_parts y 3 (number_of y) l refl;
      third = word_parts z 3 0 (third_kind x z third) (third_symbol x z third k);
      string = λ o. symbol_string o s r h k;
    }
    go (two k n l m) = repeated (number_of x) (number_of y) (number_of z) record {
      left = n;
      right = m;
      count = third_pair x z third k;
      limit = number_limit z;
      kind = k;
      first_number = refl;
      second_number = refl;
      third_number = refl;
      first = word_parts x 1 (number_of x) k refl;
      second = word_parts y 2 (number_of y) l refl;
      third = word_parts z 3 (number_of z) (third_kind x z third) refl;
      string = λ o. repeated_string o s r h k n m;
    }

-- ---- what holds of every string

-- what holds of every symbol that a rule may spell, and of a string and copies of another where it holds of both, holds of every rule's string
by_rules : (o : Order) (s : List ℕ) → ShapedSecond s → (P : List ℕ → Type 0) → ((n : ℕ) → n < 257 → P (rank_of_number o n ∷ []))
    → ((k : ℕ) (u v : List ℕ) → P u → P v → P (u ++ copies k v)) → (b r : ℕ) → r < b → r < second_rules s → P (second_string o s r)
by_rules o s ok P base join zero r l h = absurd (omega arith)
by_rules o s ok P base join (suc b) r l h = go (ruled_second s ok r h) (λ q m. by_rules o s ok P base join b q (omega arith) (omega arith))
  where
    go : RuledSecond s r → ((q : ℕ) → q < r → P (second_string o s q)) → P (second_string o s r)
    go (single a _ k) ih = subst P (sym (k.string o)) (base a k.number)
    go (repeated u v n k) ih = subst P (sym (k.string o)) (join n (second_string o s u) (second_string o s v) (ih u k.left) (ih v k.right))

pub second_filled : (o : Order) (s : List ℕ) → ShapedSecond s → (r : ℕ) → r < second_rules s → 0 < length (second_string o s r)
second_filled o s ok r h =
    by_rules o s ok (λ x. 0 < length x) (λ n l. omega arith) (λ k u v p q. simp length-append (omega arith)) (suc r) r (omega arith) h

pub second_ranks : (o : Order) (s : List ℕ) → ShapedSecond s → (r : ℕ) → r < second_rules s → (a : ℕ) → In a (second_string o s r) → a < 257
second_ranks o s ok r h =
    by_rules o s ok (λ x. (a : ℕ) → In a x → a < 257)
    (λ n l a m. rw (in_one m) (number_rank o n l))
    (λ k u v p q a m. ⊎_elim (λ x. p a x) (λ x. q a (in_copies k v a x)) (in-append u m)) (suc r) r (omega arith) h

-- the first rule is a symbol, so word 1 holds at most a chair number
pub second_chair : (s : List ℕ) → ShapedSecond s → number_of (get_or s 1 0) < 65536
second_chair s ok = go (ruled_second s ok 0 (omega (arith, ok.threes, ok.filled)))
  where
    go : RuledSecond s 0 → number_of (get_or s 1 0) < 65536
    go (single a b k) = beside b k.small k.second
      where
        beside : (b : ℕ) → b < 65536 → get_or s 1 0 ≡ word_of 3 b → number_of (get_or s 1 0) < 65536
        beside b l e = subst (λ (n : ℕ). n < 65536) (sym (ap number_of e ∙ word_number 3 b (omega arith))) l
    go (repeated u v n k) = absurd (omega (arith, k.left))
