-- Tables without a bad word: each rule is a symbol or two rules before it (`shape`; of any two words `words_shape`), and spells one symbol or what these two spell
-- (`symbol_string`, `pair_string`); no rule spells nothing (`string_filled`), and every
-- symbol is a rank (`string_ranks`).
use Rattle.std.specs.Prelude.{◌≡◌, Bool, true, false, cond, not, ◌&&◌, ◌||◌, ◌⊎◌, length, ltb, leb, eqb}
use Rattle.std.proofs.Math.Path.{refl, ap}
use Rattle.std.proofs.Common.{sym, ◌∙◌, ap₂, subst, inl, inr, ⊎_elim, arith, ltb-true, leb-true, eqb-true, eq-eqb, ne_eqb}
use Rattle.std.proofs.Math.Bool.{or-false}
use mathlib.Core.List.Memᴰ.{append_cases as in-append}
use mathlib.Core.List.Memᴰ.{eq_of_singleton as in_one}
use mathlib.Core.List.{List, [], ◌∷◌, ◌++◌, Memᴰ as In}
use Prim.Native.Nat.{ℕ, zero, suc, ◌+◌, ◌-◌, ◌*◌, ◌/◌, ◌%◌, ◌≤◌, ◌<◌}
use Rattle.std.proofs.Math.Nat.{add-zero, add-suc}
use Rattle.std.proofs.Math.ListN.{get_or, length-append, get_or-append}
use Rattle.std.proofs.Math.Seq.{get_or-append_seam}
use Rattle.std.proofs.lemmas.Bool.{not-false}
use Rattle.definitions.specs.declared.Order.{Order}
use Rattle.definitions.specs.Table.{table_of, chair_of, rank_of_number, kind_of, number_of, bad_first, bad_second, bad_word, string_of, strings, rule_string, rule_count}
use Rattle.lists.specs.Bools.{and_left, and_right, or_cases}
use Rattle.lists.specs.Numbers.{least_before}
use Rattle.lyndon.specs.Ranks.{rank_range}
use Rattle.lyndon.specs.Encoding.{beside}
use Rattle.lyndon.specs.Stored.{Stored, table_length_lem, table_filled, table_no_bad}

-- ---- the two kinds of rules

-- x and y are the words of a rule r: a symbol's, or those of two rules before it
pub data ShapeOf (r x y : ℕ) : Type 0 where
  one : kind_of x ≡ 0 → number_of x < 257 → kind_of y ≡ 3 → number_of y < 65536 → ShapeOf r x y
  two : kind_of x ≡ 1 → number_of x < r → kind_of y ≡ 2 → number_of y < r → ShapeOf r x y

abbrev pub Shape : List ℕ → ℕ → Type 0
Shape t r = ShapeOf r (get_or t (2 * r) 0) (get_or t (2 * r + 1) 0)

-- no word of the table is bad, and its words are even in number
pub record Shaped (t : List ℕ) : Type 0 where
  pub good : (i : ℕ) → i < length t → bad_word t i ≡ false
  pub even : length t ≡ 2 * (rule_count t)
  pub filled : 0 < length t

first_good : (t : List ℕ) (r : ℕ) → Shaped t → r < rule_count t → bad_first r (get_or t (2 * r) 0) ≡ false
unfolding bad_word
first_good t r s h =
    let e = s.good (2 * r) (omega (arith, s.even)) in
    let z : 2 * r % 2 ≡ 0 = omega arith in
    let q : 2 * r / 2 ≡ r = omega arith in
    rw (eq-eqb (2 * r % 2) 0 z, q) at e

second_good : (t : List ℕ) (r : ℕ) → Shaped t → r < rule_count t → bad_second r (get_or t (2 * r) 0) (get_or t (2 * r + 1) 0) ≡ false
unfolding bad_word
second_good t r s h =
    let e = s.good (2 * r + 1) (omega (arith, s.even)) in
    let z : (2 * r + 1) % 2 ≡ 0 → ⊥ = λ q. omega arith in
    let q : (2 * r + 1) / 2 ≡ r = omega arith in
    let p : 2 * r + 1 - 1 ≡ 2 * r = omega arith in
    rw (ne_eqb ((2 * r + 1) % 2) 0 z, q, p) at e

-- the second word's test, behind either kind
pub second_symbol : (r x y : ℕ) → kind_of x ≡ 0 → bad_second r x y ≡ false → eqb (kind_of y) 3 && leb (number_of y) (cond (eqb r 0) 65535 0) ≡ true
unfolding bad_second
second_symbol r x y e f = not-false (eqb (kind_of y) 3 && leb (number_of y) (cond (eqb r 0) 65535 0)) (rw e at f)

pub second_pair : (r x y : ℕ) → kind_of x ≡ 1 → bad_second r x y ≡ false → eqb (kind_of y) 2 && ltb (number_of y) r ≡ true
unfolding bad_second
second_pair r x y e f = not-false (eqb (kind_of y) 2 && ltb (number_of y) r) (sym (or-false (not (eqb (kind_of y) 2 && ltb (number_of y) r))) ∙ rw e at f)

pub words_shape : (r x y : ℕ) → bad_first r x ≡ false → bad_second r x y ≡ false → ShapeOf r x y
unfolding bad_first
words_shape r x y first second = go (or_cases (eqb k 0 && leb n 256) (eqb k 1 && ltb n r) (not-false ((eqb k 0 && leb n 256) || (eqb k 1 && ltb n r)) first))
  where
    k : ℕ
    k = kind_of x

    n : ℕ
    n = number_of x

    l : ℕ
    l = kind_of y

    m : ℕ
    m = number_of y

    most : ℕ
    most = cond (eqb r 0) 65535 0

    small : (b : Bool) → eqb r 0 ≡ b → m ≤ cond (eqb r 0) 65535 0 → m < 65536
    small true e q = omega (arith, rw e at q)
    small false e q = omega (arith, rw e at q)

    go : (eqb k 0 && leb n 256 ≡ true) ⊎ (eqb k 1 && ltb n r ≡ true) → ShapeOf r x y
    go (inl e) =
        let z = eqb-true k 0 (and_left (eqb k 0) (leb n 256) e) in
        let f = second_symbol r x y z second in
        let b = leb-true n 256 (and_right (eqb k 0) (leb n 256) e) in
        one z (omega (arith, b)) (eqb-true l 3 (and_left (eqb l 3) (leb m most) f))
        (small (eqb r 0) refl (leb-true m most (and_right (eqb l 3) (leb m most) f)))
    go (inr e) =
        let z = eqb-true k 1 (and_left (eqb k 1) (ltb n r) e) in
        let f = second_pair r x y z second in
        two z (ltb-true n r (and_right (eqb k 1) (ltb n r) e)) (eqb-true l 2 (and_left (eqb l 2) (ltb m r) f)) (ltb-true m r (and_right (eqb l 2) (ltb m r) f))

pub shape : (t : List ℕ) (r : ℕ) → Shaped t → r < rule_count t → Shape t r
shape t r s h = words_shape r (get_or t (2 * r) 0) (get_or t (2 * r + 1) 0) (first_good t r s h) (second_good t r s h)

-- beside a symbol stands the chair number in rule 0, and 0 in any other
pub symbol_beside : (t : List ℕ) (r : ℕ) → Shaped t → r < rule_count t → kind_of (get_or t (2 * r) 0) ≡ 0 → number_of (get_or t (2 * r + 1) 0) ≡ beside (chair_of t) r
unfolding beside chair_of
symbol_beside t zero s h k = refl
symbol_beside t (suc r) s h k =
    let y = get_or t (2 * suc r + 1) 0 in
    let f = second_symbol (suc r) (get_or t (2 * suc r) 0) y k (second_good t (suc r) s h) in
    let z = leb-true (number_of y) (cond (eqb (suc r) 0) 65535 0) (and_right (eqb (kind_of y) 3) (leb (number_of y) (cond (eqb (suc r) 0) 65535 0)) f) in
    omega (arith, rw (ne_eqb (suc r) 0 (λ e. omega arith)) at z)

-- the first rule is a symbol, so word 1 holds at most a chair number
pub chair_small : (t : List ℕ) → Shaped t → number_of (get_or t 1 0) < 65536
chair_small t s = go (shape t 0 s (omega (arith, s.even, s.filled)))
  where
    go : Shape t 0 → number_of (get_or t 1 0) < 65536
    go (one a b c d) = d
    go (two a b c d) = absurd (omega arith)

-- ---- what the rules spell

module _ (o : Order) (t : List ℕ) where
  pub strings_length : (n : ℕ) → length (strings o t n) ≡ n
  unfolding strings
  strings_length zero = refl
  strings_length (suc n) = simp length-append (omega (arith, strings_length n))

  -- more rules behind change no string
  strings_more : (n m r : ℕ) → r < n → get_or (strings o t (n + m)) r [] ≡ get_or (strings o t n) r []
  unfolding strings
  strings_more n zero r h = rw add-zero
  strings_more n (suc m) r h =
      rw add-suc
      (get_or-append (strings o t (n + m)) (string_of o (strings o t (n + m)) (get_or t (2 * (n + m)) 0) (get_or t (2 * (n + m) + 1) 0) ∷ []) [] r (omega (arith, strings_length (n + m)))
      ∙ strings_more n m r h)

  string_in : (n m r : ℕ) → r < n → n ≤ m → get_or (strings o t m) r [] ≡ get_or (strings o t n) r []
  string_in n m r h l = subst (λ (k : ℕ). get_or (strings o t k) r [] ≡ get_or (strings o t n) r []) (omega arith) (strings_more n (m - n) r h)

  rule_string_lem : (r : ℕ) → r < rule_count t → rule_string o t r ≡ string_of o (strings o t r) (get_or t (2 * r) 0) (get_or t (2 * r + 1) 0)
  unfolding rule_string strings
  rule_string_lem r h =
      string_in (suc r) (rule_count t) r (omega arith) h
      ∙ ap (λ (k : ℕ). get_or (strings o t (suc r)) k []) (sym (strings_length r))
      ∙ get_or-append_seam (strings o t r) (string_of o (strings o t r) (get_or t (2 * r) 0) (get_or t (2 * r + 1) 0)) [] []

  pub symbol_string : (r : ℕ) → r < rule_count t → kind_of (get_or t (2 * r) 0) ≡ 0 → rule_string o t r ≡ rank_of_number o (number_of (get_or t (2 * r) 0)) ∷ []
  unfolding string_of
  symbol_string r h e = rule_string_lem r h ∙ rw e

  pub pair_string : (r : ℕ) → r < rule_count t → kind_of (get_or t (2 * r) 0) ≡ 1 → number_of (get_or t (2 * r) 0) < r → number_of (get_or t (2 * r + 1) 0) < r
      → rule_string o t r ≡ rule_string o t (number_of (get_or t (2 * r) 0)) ++ rule_string o t (number_of (get_or t (2 * r + 1) 0))
  unfolding string_of rule_string
  pair_string r h e u v =
      rule_string_lem r h
      ∙ rw e
      (ap₂ {C = List ℕ} (λ x y. x ++ y)
      (sym (string_in r (rule_count t) (number_of (get_or t (2 * r) 0)) u (omega arith)))
      (sym (string_in r (rule_count t) (number_of (get_or t (2 * r + 1) 0)) v (omega arith))))

-- what holds of every symbol that a rule may spell, and of two strings together where it holds of both, holds of every rule's string
by_rules : (o : Order) (t : List ℕ) → Shaped t → (P : List ℕ → Type 0) → ((n : ℕ) → n < 257 → P (rank_of_number o n ∷ []))
    → ((u v : List ℕ) → P u → P v → P (u ++ v)) → (b r : ℕ) → r < b → r < rule_count t → P (rule_string o t r)
by_rules o t s P base join zero r l h = absurd (omega arith)
by_rules o t s P base join (suc b) r l h = go (shape t r s h) (λ q m. by_rules o t s P base join b q (omega arith) (omega arith))
  where
    go : Shape t r → ((q : ℕ) → q < r → P (rule_string o t q)) → P (rule_string o t r)
    go (one k n x y) ih = subst P (sym (symbol_string o t r h k)) (base (number_of (get_or t (2 * r) 0)) n)
    go (two k n x y) ih =
        subst P (sym (pair_string o t r h k n y))
        (join (rule_string o t (number_of (get_or t (2 * r) 0))) (rule_string o t (number_of (get_or t (2 * r + 1) 0))) (ih (number_of (get_or t (2 * r) 0)) n) (ih (number_of (get_or t (2 * r + 1) 0)) y))

pub string_filled : (o : Order) (t : List ℕ) → Shaped t → (r : ℕ) → r < rule_count t → 0 < length (rule_string o t r)
string_filled o t s r h =
    by_rules o t s (λ x. 0 < length x) (λ n l. omega arith) (λ u v p q. simp length-append (omega arith)) (suc r) r (omega arith) h

pub number_rank : (o : Order) (n : ℕ) → n < 257 → rank_of_number o n < 257
unfolding rank_of_number
number_rank o zero h = omega arith
number_rank o (suc b) h = (rank_range o b (omega arith)).1

pub string_ranks : (o : Order) (t : List ℕ) → Shaped t → (r : ℕ) → r < rule_count t → (a : ℕ) → In a (rule_string o t r) → a < 257
string_ranks o t s r h =
    by_rules o t s (λ x. (a : ℕ) → In a x → a < 257)
    (λ n l a m. rw (in_one m) (number_rank o n l))
    (λ u v p q a m. ⊎_elim (λ x. p a x) (λ x. q a x) (in-append u m)) (suc r) r (omega arith) h

-- the table of a drive is in shape
pub stored_shaped : (o : Order) (text : List ℕ) (chair : ℕ) → Stored text chair → Shaped (table_of o text chair)
stored_shaped o text chair k =
    let t = table_of o text chair in
    let size = table_length_lem o text chair k in
    record {
      good = λ i h. least_before (bad_word t) (length t) i (omega (arith, table_no_bad o text chair k));
      even = omega arith;
      filled = table_filled o text chair k;
    }
