-- The kept rules of a table, by their new numbers: how the numbers rise (`number_kept`, `number_dropped`, `number_below_lem`), that every new number has its rule (`numbered`),
-- and where the words of a kept rule stand in the second edition (`edition_split`, `edition_first`, `edition_second`, `edition_third`, `edition_front`).
use Rattle.std.specs.Prelude.{◌≡◌, Bool, not, ◌||◌, List, [], ◌∷◌, ◌++◌, take, get_or, eqb}
use Rattle.std.proofs.Math.Path.{refl, ap}
use Rattle.std.proofs.Common.{sym, ◌∙◌, subst, append_assoc, append-nil, arith, add-suc, add-zero, get_or-append-add, eq-eqb}
use Rattle.std.proofs.Math.Bool.{true, false}
use Prim.Native.Nat.{ℕ, zero, suc, ◌+◌, ◌-◌, ◌*◌, ◌≤◌, ◌<◌}
use Rattle.std.proofs.Math.ListN.{length, length-append, get_or-append}
use Rattle.std.proofs.Math.Seq.{take_at}
use Rattle.definitions.specs.Words.{some, below}
use Rattle.definitions.specs.Table.{word_of, is_pair, rule_count}
use Rattle.definitions.specs.SecondEdition.{adds, starts_chain, is_kept, new_number, right_rule, left_after, repeat_count, kept_words, kept_below, second_edition}
use Rattle.lists.specs.Bools.{or_left, or_right}
use Rattle.lists.specs.Numbers.{below_length, count_more, count_same, count_rises, place_below}
use Rattle.lists.specs.Lists.{Extends, extends_self, extends_trans}

module _ (t : List ℕ) where
  -- ---- rules that are kept whatever else there is

  pub symbol_kept : (r : ℕ) → is_pair t r ≡ false → is_kept t r ≡ true
  unfolding is_kept
  symbol_kept r e = rw e

  pub root_kept : (r : ℕ) → suc r ≡ rule_count t → is_kept t r ≡ true
  unfolding is_kept
  root_kept r e =
      let used = some (λ q. adds t r q || starts_chain t r q) (rule_count t) in
      or_right (not (is_pair t r)) (eqb (suc r) (rule_count t) || used) (or_left (eqb (suc r) (rule_count t)) used (eq-eqb (suc r) (rule_count t) e))

  -- ---- new numbers

  pub number_none : new_number t 0 ≡ 0
  unfolding new_number below
  number_none = refl

  pub number_kept : (r : ℕ) → is_kept t r ≡ true → new_number t (suc r) ≡ suc (new_number t r)
  unfolding new_number
  number_kept r e = count_more (is_kept t) r e

  pub number_dropped : (r : ℕ) → is_kept t r ≡ false → new_number t (suc r) ≡ new_number t r
  unfolding new_number
  number_dropped r e = count_same (is_kept t) r e

  pub number_most : (r : ℕ) → new_number t r ≤ r
  unfolding new_number
  number_most r = below_length (is_kept t) r

  pub number_rises : (r q : ℕ) → r ≤ q → new_number t r ≤ new_number t q
  unfolding new_number
  number_rises r q h = count_rises (is_kept t) r q h

  -- a kept rule has a smaller number than any bound above it
  pub number_below_lem : (r q : ℕ) → is_kept t r ≡ true → r < q → new_number t r < new_number t q
  number_below_lem r q e h = omega (arith, number_kept r e, number_rises (suc r) q h)

  -- every number below that of rule q is that of a kept rule before it
  pub numbered : (q i : ℕ) → i < new_number t q → (r : ℕ) × (r < q) × (is_kept t r ≡ true) × (new_number t r ≡ i)
  unfolding new_number
  numbered q i h = place_below (is_kept t) q i h

  -- ---- the words of a kept rule

  pub words_pair : (r : ℕ) → is_pair t r ≡ true
      → kept_words t r ≡ word_of 1 (new_number t (left_after t (repeat_count t r) r)) ∷ word_of 2 (new_number t (right_rule t r)) ∷ word_of 3 (repeat_count t r) ∷ []
  unfolding kept_words
  words_pair r e = rw e

  pub words_symbol : (r : ℕ) → is_pair t r ≡ false → kept_words t r ≡ get_or t (2 * r) 0 ∷ get_or t (2 * r + 1) 0 ∷ word_of 3 0 ∷ []
  unfolding kept_words
  words_symbol r e = rw e

  pub words_three : (r : ℕ) → length (kept_words t r) ≡ 3
  words_three r = go (is_pair t r) refl
    where
      go : (b : Bool) → is_pair t r ≡ b → length (kept_words t r) ≡ 3
      go true e = ap length (words_pair r e)
      go false e = ap length (words_symbol r e)

  -- ---- the words of the kept rules before a bound

  pub below_kept : (n : ℕ) → is_kept t n ≡ true → kept_below t (suc n) ≡ kept_below t n ++ kept_words t n
  unfolding kept_below
  below_kept n e = rw e

  pub below_dropped : (n : ℕ) → is_kept t n ≡ false → kept_below t (suc n) ≡ kept_below t n
  unfolding kept_below
  below_dropped n e = rw (e, append-nil)

  pub below_words : (n : ℕ) → length (kept_below t n) ≡ 3 * new_number t n
  unfolding kept_below
  below_words zero = omega (arith, number_none)
  below_words (suc n) = go (is_kept t n) refl (below_words n)
    where
      go : (b : Bool) → is_kept t n ≡ b → length (kept_below t n) ≡ 3 * new_number t n → length (kept_below t (suc n)) ≡ 3 * new_number t (suc n)
      go true e ih = ap length (below_kept n e) ∙ length-append (kept_below t n) (kept_words t n) ∙ omega (arith, ih, words_three n, number_kept n e)
      go false e ih = ap length (below_dropped n e) ∙ omega (arith, ih, number_dropped n e)

  -- more rules only add words behind
  pub below_extends : (n m : ℕ) → n ≤ m → Extends (kept_below t n) (kept_below t m)
  below_extends n m h = let e : n + (m - n) ≡ m = omega arith in subst (λ (k : ℕ). Extends (kept_below t n) (kept_below t k)) e (further (m - n))
    where
      further : (k : ℕ) → Extends (kept_below t n) (kept_below t (n + k))
      further zero = rw add-zero (extends_self (kept_below t n))
      further (suc k) = rw add-suc (extends_trans (kept_below t n) (kept_below t (n + k)) (kept_below t (suc (n + k))) (further k) (next (n + k)))
        where
          next : (i : ℕ) → Extends (kept_below t i) (kept_below t (suc i))
          next i = go (is_kept t i) refl
            where
              go : (b : Bool) → is_kept t i ≡ b → Extends (kept_below t i) (kept_below t (suc i))
              go true e = (kept_words t i, below_kept i e)
              go false e = ([], below_dropped i e ∙ sym (append-nil (kept_below t i)))

  pub below_split : (r n : ℕ) → r < n → is_kept t r ≡ true → (rest : List ℕ) × (kept_below t n ≡ kept_below t r ++ (kept_words t r ++ rest))
  below_split r n h e =
      let (rest, q) = below_extends (suc r) n h in
      (rest, q ∙ ap (λ (x : List ℕ). x ++ rest) (below_kept r e) ∙ append_assoc (kept_below t r) (kept_words t r) rest)

  -- ---- the second edition

  pub edition_words : length (second_edition t) ≡ 3 * new_number t (rule_count t)
  unfolding second_edition
  edition_words = below_words (rule_count t)

  module _ (r : ℕ) (h : r < rule_count t) (e : is_kept t r ≡ true) where
    pub edition_split : (rest : List ℕ) × (second_edition t ≡ kept_below t r ++ (kept_words t r ++ rest))
    unfolding second_edition
    edition_split = below_split r (rule_count t) h e

    pub edition_word : (i : ℕ) → i < 3 → get_or (second_edition t) (3 * new_number t r + i) 0 ≡ get_or (kept_words t r) i 0
    edition_word i l =
        let (rest, q) = edition_split in
        ap (λ (x : List ℕ). get_or x (3 * new_number t r + i) 0) q
        ∙ ap (λ (k : ℕ). get_or (kept_below t r ++ (kept_words t r ++ rest)) (k + i) 0) (sym (below_words r))
        ∙ get_or-append-add (kept_below t r) (kept_words t r ++ rest) i 0
        ∙ get_or-append (kept_words t r) rest 0 i (omega (arith, words_three r))

    -- so its three words there
    pub edition_first : get_or (second_edition t) (3 * new_number t r) 0 ≡ get_or (kept_words t r) 0 0
    edition_first = ap (λ (i : ℕ). get_or (second_edition t) i 0) (sym (add-zero (3 * new_number t r))) ∙ edition_word 0 (omega arith)

    pub edition_second : get_or (second_edition t) (3 * new_number t r + 1) 0 ≡ get_or (kept_words t r) 1 0
    edition_second = edition_word 1 (omega arith)

    pub edition_third : get_or (second_edition t) (3 * new_number t r + 2) 0 ≡ get_or (kept_words t r) 2 0
    edition_third = edition_word 2 (omega arith)

  pub edition_front : (r : ℕ) → r ≤ rule_count t → take (3 * new_number t r) (second_edition t) ≡ kept_below t r
  unfolding second_edition
  edition_front r h =
      let (rest, q) = below_extends r (rule_count t) h in
      ap (take (3 * new_number t r)) q ∙ take_at (kept_below t r) rest (3 * new_number t r) (below_words r)
