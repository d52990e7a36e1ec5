-- The second edition of a table without a bad word has none either (`edition_shaped`), at most 2,304 rules (`edition_rules`, `edition_most`) and the same chair number (`edition_chair`);
-- each of its rules spells the string of the rule that it came from (`edition_string`), so it spells the same drive (`edition_spelled`, `edition_text`).
use Rattle.std.specs.Prelude.{◌≡◌, Bool, true, false, length, drop}
use Rattle.std.proofs.Math.Path.{refl, ap}
use Rattle.std.proofs.Common.{sym, ◌∙◌, subst, ne_eqb}
use mathlib.Core.List.{List, [], ◌∷◌, ◌++◌, map, map-append}
use Prim.Native.Nat.{ℕ, zero, suc, ◌+◌, ◌-◌, ◌*◌, ◌/◌, ◌%◌, ◌^◌, ◌≤◌, ◌<◌}
use native.Mathlib.Omega.{arith}
use Rattle.std.proofs.Math.ListN.{get_or}
use Rattle.definitions.specs.declared.Order.{Order}
use Rattle.definitions.specs.Words.{below}
use Rattle.definitions.specs.Table.{byte_of, rank_of_number, word_of, rule_count, is_pair, rule_string, spelled, text_of, chair_of, number_of}
use Rattle.definitions.specs.SecondEdition.{right_rule, is_kept, new_number, left_after, repeat_count, second_edition, bad_third, bad_in_second, copies, string_in_second, second_rules, second_strings, second_string, spelled_by_second, text_of_second}
use Rattle.lists.specs.Numbers.{split_lt, below_more, below_same, mapped_place}
use Rattle.lyndon.specs.Encoding.{beside, beside_later, word_kind, word_number}
use Rattle.lyndon.specs.Tables.{symbol_first, symbol_second, pair_first, pair_second}
use Rattle.lyndon.specs.Shapes.{Shaped, chair_small}
use Rattle.lyndon.specs.Ruled.{Ruled, symbol, pair, ruled}
use Rattle.lyndon.specs.ShapedSecond.{ShapedSecond, bad_first_lem, bad_second_lem, bad_third_lem}
use Rattle.lyndon.specs.Chains.{chain}
use Rattle.lyndon.specs.Kept.{symbol_kept, root_kept, number_none, number_kept, number_dropped, number_most, number_below_lem, numbered, words_pair, words_symbol, edition_words, edition_first, edition_second, edition_third}

-- ---- third words that are not bad

symbol_third : (a : ℕ) → a < 257 → bad_third (word_of 0 a) (word_of 3 0) ≡ false
unfolding bad_third
symbol_third a h = rw (word_kind 0 a (omega arith), word_kind 3 0 (omega arith), word_number 3 0 (omega arith))

pair_third : (i k : ℕ) → i < 2 ^ 30 → 0 < k → k < 2 ^ 30 → bad_third (word_of 1 i) (word_of 3 k) ≡ false
unfolding bad_third
pair_third i k h p q = rw (word_kind 1 i h, word_kind 3 k q, word_number 3 k q, ne_eqb k 0 (λ e. omega arith))

-- ---- a kept rule, by its words in the second edition and its string

-- it is the symbol of number a
pub record AloneAt (t : List ℕ) (r a : ℕ) : Type 0 where
  pub number : a < 257
  pub first : get_or (second_edition t) (3 * new_number t r) 0 ≡ word_of 0 a
  pub second : get_or (second_edition t) (3 * new_number t r + 1) 0 ≡ word_of 3 (beside (chair_of t) (new_number t r))
  pub third : get_or (second_edition t) (3 * new_number t r + 2) 0 ≡ word_of 3 0
  pub string : (o : Order) → rule_string o t r ≡ rank_of_number o a ∷ []

-- it is rule u and then k copies of rule v, all by their old numbers
pub record ChainedAt (t : List ℕ) (r u v k : ℕ) : Type 0 where
  pub left : (u < r) × (is_kept t u ≡ true)
  pub right : (v < r) × (is_kept t v ≡ true)
  pub count : (0 < k) × (k ≤ r)
  pub first : get_or (second_edition t) (3 * new_number t r) 0 ≡ word_of 1 (new_number t u)
  pub second : get_or (second_edition t) (3 * new_number t r + 1) 0 ≡ word_of 2 (new_number t v)
  pub third : get_or (second_edition t) (3 * new_number t r + 2) 0 ≡ word_of 3 k
  pub string : (o : Order) → rule_string o t r ≡ rule_string o t u ++ copies k (rule_string o t v)

pub data KeptRule (t : List ℕ) (r : ℕ) : Type 0 where
  alone : (a : ℕ) → AloneAt t r a → KeptRule t r
  chained : is_pair t r ≡ true → ChainedAt t r (left_after t (repeat_count t r) r) (right_rule t r) (repeat_count t r) → KeptRule t r

module _ (t : List ℕ) (s : Shaped t) where
  first_rule : 0 < rule_count t
  first_rule = omega (arith, s.even, s.filled)

  pub first_kept : is_kept t 0 ≡ true
  first_kept = go (ruled t s 0 first_rule)
    where
      go : Ruled t 0 → is_kept t 0 ≡ true
      go (symbol _ _ k) = symbol_kept t 0 k.no_pair
      go (pair u v k) = absurd (omega (arith, k.left))

  -- what stands beside a kept symbol by its old number stands there by its new one
  new_beside : (c r : ℕ) → is_kept t r ≡ true → beside c r ≡ beside c (new_number t r)
  new_beside c zero e = ap (beside c) (sym (number_none t))
  new_beside c (suc r) e =
      beside_later c (suc r) (omega arith) ∙ sym (beside_later c (new_number t (suc r)) (omega (arith, number_below_lem t 0 (suc r) first_kept (omega arith))))

  pub kept_rule : (r : ℕ) → r < rule_count t → is_kept t r ≡ true → KeptRule t r
  kept_rule r h e = go (ruled t s r h)
    where
      go : Ruled t r → KeptRule t r
      go (symbol a b k) =
          let w = words_symbol t r k.no_pair in
          alone a record {
            number = k.number;
            first = edition_first t r h e ∙ ap (λ (x : List ℕ). get_or x 0 0) w ∙ k.first;
            second = edition_second t r h e ∙ ap (λ (x : List ℕ). get_or x 1 0) w ∙ k.second ∙ ap (word_of 3) (k.beside ∙ new_beside (chair_of t) r e);
            third = edition_third t r h e ∙ ap (λ (x : List ℕ). get_or x 2 0) w;
            string = k.string;
          }
      go (pair u v k) =
          let w = words_pair t r k.is_pair_lem in
          let c = chain t s r k.is_pair_lem in
          chained k.is_pair_lem record {
            left = (c.left, c.left_kept);
            right = (c.right, c.right_kept);
            count = (c.one, c.most);
            first = edition_first t r h e ∙ ap (λ (x : List ℕ). get_or x 0 0) w;
            second = edition_second t r h e ∙ ap (λ (x : List ℕ). get_or x 1 0) w;
            third = edition_third t r h e ∙ ap (λ (x : List ℕ). get_or x 2 0) w;
            string = λ o. c.string o (repeat_count t r) (omega arith);
          }

-- ---- the second edition is in shape

pub edition_rules : (t : List ℕ) → second_rules (second_edition t) ≡ new_number t (rule_count t)
edition_rules t = omega (arith, edition_words t)

module _ (t : List ℕ) (s : Shaped t) (small : length t ≤ 4608) where
  pub edition_most : (second_rules (second_edition t) ≤ 2304) × (length (second_edition t) ≤ 6912)
  edition_most = (omega (arith, edition_words t, number_most t (rule_count t)), omega (arith, edition_words t, number_most t (rule_count t)))

  -- no word of a kept rule is bad
  record Good (n : ℕ) : Type 0 where
    first : bad_in_second (second_edition t) (3 * n) ≡ false
    second : bad_in_second (second_edition t) (3 * n + 1) ≡ false
    third : bad_in_second (second_edition t) (3 * n + 2) ≡ false

  kept_good : (r : ℕ) → r < rule_count t → is_kept t r ≡ true → Good (new_number t r)
  unfolding chair_of
  kept_good r h e = go (kept_rule t s r h e)
    where
      n : ℕ
      n = new_number t r

      chair : chair_of t < 65536
      chair = chair_small t s

      limit : n < 2 ^ 30
      limit = omega (arith, number_most t r)

      go : KeptRule t r → Good (new_number t r)
      go (alone a k) = record {
        first = bad_first_lem (second_edition t) n ∙ rw k.first (symbol_first a n k.number);
        second = bad_second_lem (second_edition t) n ∙ rw (k.first, k.second) (symbol_second a (chair_of t) n k.number chair);
        third = bad_third_lem (second_edition t) n ∙ rw (k.first, k.third) (symbol_third a k.number);
      }
      go (chained _ k) =
          let u = left_after t (repeat_count t r) r in
          let v = right_rule t r in
          let i = number_below_lem t u r k.left.1 k.left.0 in
          let j = number_below_lem t v r k.right.1 k.right.0 in
          record {
            first = bad_first_lem (second_edition t) n ∙ rw k.first (pair_first (new_number t u) n i limit);
            second = bad_second_lem (second_edition t) n ∙ rw (k.first, k.second) (pair_second (new_number t u) (new_number t v) n i j limit);
            third = bad_third_lem (second_edition t) n ∙ rw (k.first, k.third) (pair_third (new_number t u) (repeat_count t r) (omega (arith, limit)) k.count.0 (omega (arith, k.count.1)));
          }

  edition_good : (i : ℕ) → i < length (second_edition t) → bad_in_second (second_edition t) i ≡ false
  edition_good i h =
      let (r, l, e, q) = numbered t (rule_count t) (i / 3) (omega (arith, edition_words t)) in
      go (subst Good q (kept_good r l e))
    where
      at : (k : ℕ) → k ≡ i → bad_in_second (second_edition t) k ≡ false → bad_in_second (second_edition t) i ≡ false
      at k e f = subst (λ (x : ℕ). bad_in_second (second_edition t) x ≡ false) e f

      go : Good (i / 3) → bad_in_second (second_edition t) i ≡ false
      go g =
          split_lt (i % 3) 1
          (λ l. at (3 * (i / 3)) (omega arith) g.first)
          (λ l. at (3 * (i / 3) + 1) (omega arith) g.second)
          (λ l. at (3 * (i / 3) + 2) (omega arith) g.third)

  pub edition_shaped : ShapedSecond (second_edition t)
  edition_shaped = record {
    good = edition_good;
    threes = omega (arith, edition_words t);
    filled = omega (arith, edition_words t, number_below_lem t 0 (rule_count t) (first_kept t s) (first_rule t s));
  }

  -- ---- what it spells

  pub edition_chair : chair_of (second_edition t) ≡ chair_of t
  unfolding chair_of beside
  edition_chair = go (kept_rule t s 0 (first_rule t s) (first_kept t s))
    where
      go : KeptRule t 0 → number_of (get_or (second_edition t) 1 0) ≡ chair_of t
      go (alone a k) =
          let word : get_or (second_edition t) 1 0 ≡ word_of 3 (chair_of t) = rw (number_none t) at k.second in
          ap number_of word ∙ word_number 3 (chair_of t) (omega (arith, chair_small t s))
      go (chained _ k) = absurd (omega (arith, k.left.0))

  module _ (o : Order) where
    -- the strings of the kept rules before r, in order
    abbrev kept : ℕ → List (List ℕ)
    kept r = map (rule_string o t) (below (is_kept t) r)

    kept_at : (r q : ℕ) → q < r → is_kept t q ≡ true → get_or (kept r) (new_number t q) [] ≡ rule_string o t q
    unfolding new_number
    kept_at r q h e = mapped_place (rule_string o t) [] (is_kept t) r q h e

    -- by its words in the second edition a kept rule spells its string
    string_back : (r : ℕ) → r < rule_count t → KeptRule t r
        → string_in_second o (kept r) (get_or (second_edition t) (3 * new_number t r) 0) (get_or (second_edition t) (3 * new_number t r + 1) 0) (get_or (second_edition t) (3 * new_number t r + 2) 0)
        ≡ rule_string o t r
    unfolding string_in_second
    string_back r h (alone a k) =
        let n = k.number in
        rw (k.first, word_kind 0 a (omega arith), word_number 0 a (omega arith)) (sym (k.string o))
    string_back r h (chained _ k) =
        let u = left_after t (repeat_count t r) r in
        let v = right_rule t r in
        let i = number_most t u in
        let j = number_most t v in
        let l = k.left.0 in
        let m = k.right.0 in
        let n = k.count.1 in
        rw (
          k.first,
          k.second,
          k.third,
          word_kind 1 (new_number t u) (omega arith),
          word_number 1 (new_number t u) (omega arith),
          word_number 2 (new_number t v) (omega arith),
          word_number 3 (repeat_count t r) (omega arith),
          kept_at r u l k.left.1,
          kept_at r v m k.right.1,
        )
        (sym (k.string o))

    pub edition_strings : (n : ℕ) → n ≤ rule_count t → second_strings o (second_edition t) (new_number t n) ≡ map (rule_string o t) (below (is_kept t) n)
    unfolding below second_strings
    edition_strings zero h = ap (second_strings o (second_edition t)) (number_none t)
    edition_strings (suc n) h = go (is_kept t n) refl (edition_strings n (omega arith))
      where
        x : ℕ
        x = get_or (second_edition t) (3 * new_number t n) 0

        y : ℕ
        y = get_or (second_edition t) (3 * new_number t n + 1) 0

        z : ℕ
        z = get_or (second_edition t) (3 * new_number t n + 2) 0

        go : (b : Bool) → is_kept t n ≡ b → second_strings o (second_edition t) (new_number t n) ≡ kept n → second_strings o (second_edition t) (new_number t (suc n)) ≡ kept (suc n)
        go true e ih =
            ap (second_strings o (second_edition t)) (number_kept t n e)
            ∙ ap (λ (l : List (List ℕ)). l ++ (string_in_second o l x y z ∷ [])) ih
            ∙ ap (λ (w : List ℕ). kept n ++ (w ∷ [])) (string_back n h (kept_rule t s n h e))
            ∙ sym (map-append (rule_string o t) (below (is_kept t) n) (n ∷ []))
            ∙ ap (map (rule_string o t)) (sym (below_more (is_kept t) n e))
        go false e ih = ap (second_strings o (second_edition t)) (number_dropped t n e) ∙ ih ∙ ap (map (rule_string o t)) (sym (below_same (is_kept t) n e))

    pub edition_string : (r : ℕ) → r < rule_count t → is_kept t r ≡ true → second_string o (second_edition t) (new_number t r) ≡ rule_string o t r
    unfolding second_string
    edition_string r h e =
        ap (λ (n : ℕ). get_or (second_strings o (second_edition t) n) (new_number t r) []) (edition_rules t)
        ∙ ap (λ (l : List (List ℕ)). get_or l (new_number t r) []) (edition_strings (rule_count t) (omega arith))
        ∙ kept_at (rule_count t) r h e

    pub edition_spelled : spelled_by_second o (second_edition t) ≡ spelled o t
    unfolding spelled_by_second spelled
    edition_spelled =
        let r = rule_count t - 1 in
        let first = first_rule t s in
        let root : suc r ≡ rule_count t = omega arith in
        let e = root_kept t r root in
        let last : second_rules (second_edition t) - 1 ≡ new_number t r = omega (arith, edition_rules t, number_kept t r e, ap (new_number t) root) in
        ap (second_string o (second_edition t)) last ∙ edition_string r (omega arith) e

    pub edition_text : text_of_second o (second_edition t) ≡ text_of o t
    unfolding text_of_second text_of
    edition_text = ap (λ (x : List ℕ). map (byte_of o) (drop 1 x)) edition_spelled
