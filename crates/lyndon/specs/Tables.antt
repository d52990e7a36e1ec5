-- The table of numbered strings: what stands at each rule (`entry`), no word is bad (`no_bad_word`), and it spells these strings
-- (`strings_back`).
use Rattle.std.specs.Prelude.{◌≡◌, false, cond, length, take, get_or, eqb}
use Rattle.std.proofs.Math.Path.{refl}
use Rattle.std.proofs.Common.{sym, ◌∙◌, ap, subst, arith, take-suc, lt-ltb, le-leb, eq-eqb, ne_eqb}
use mathlib.Core.List.Memᴰ.{head as here}
use mathlib.Core.List.{List, [], ◌∷◌, Memᴰ as In}
use Prim.Native.Nat.{ℕ, zero, suc, ◌+◌, ◌-◌, ◌*◌, ◌/◌, ◌%◌, ◌^◌, ◌≤◌, ◌<◌}
use Rattle.std.proofs.Math.Seq.{get_or-take, take-length}
use Rattle.definitions.specs.declared.Order.{Order}
use Rattle.definitions.specs.Words.{least}
use Rattle.definitions.specs.Grammar.{left_of, right_of, index_of, symbol, rule_of}
use Rattle.definitions.specs.Table.{number_of_rank, word_of, words, bad_first, bad_second, bad_word, string_of, strings}
use Rattle.lists.specs.Numbers.{split_le, least_none}
use Rattle.lyndon.specs.Factorization.{std_parts}
use Rattle.lyndon.specs.Numbering.{Has, Numbered, index_at}
use Rattle.lyndon.specs.Rules.{rules_for, rules_length, rule_at_lem, rule_symbol, rule_pair}
use Rattle.lyndon.specs.Ranks.{number_range, rank_of_number_lem}
use Rattle.lyndon.specs.Encoding.{first_word, second_word, beside, word_kind, word_number, words_first, words_second, words_length}

-- ---- the table of numbered strings over 257 symbols

-- numbered strings that a table can hold
pub record Storable (S : List (List ℕ)) (c : ℕ) : Type 0 where
  pub numbered : Numbered S
  pub symbols : (x : List ℕ) → Has S x → (a : ℕ) → In a x → a < 257
  pub size : length S < 2 ^ 30
  pub chair : c < 65536

-- what stands at rule r of the table: its string is one symbol, or two strings of rules before it
pub data Entry (o : Order) (S : List (List ℕ)) (c r : ℕ) : Type 0 where
  one : (a : ℕ) → a < 257 → get_or S r [] ≡ a ∷ []
      → get_or (words o c (rules_for S)) (2 * r) 0 ≡ word_of 0 (number_of_rank o a)
      → get_or (words o c (rules_for S)) (2 * r + 1) 0 ≡ word_of 3 (beside c r)
      → Entry o S c r
  two : (i j : ℕ) → i < r → j < r → 2 ≤ length (get_or S r []) → get_or S i [] ≡ left_of (get_or S r []) → get_or S j [] ≡ right_of (get_or S r [])
      → get_or (words o c (rules_for S)) (2 * r) 0 ≡ word_of 1 i
      → get_or (words o c (rules_for S)) (2 * r + 1) 0 ≡ word_of 2 j
      → Entry o S c r

pub entry : (o : Order) (S : List (List ℕ)) (c r : ℕ) → Storable S c → r < length S → Entry o S c r
unfolding first_word second_word
entry o S c r ok h = split_le 2 (length x) long short
  where
    x : List ℕ
    x = get_or S r []

    at : index_of x S ≡ r
    at = ok.numbered.once r h

    has : Has S x
    has = omega (arith, at)

    first : get_or (words o c (rules_for S)) (2 * r) 0 ≡ first_word o (rule_of S x)
    first = words_first o c (rules_for S) r (omega (arith, rules_length S)) ∙ ap (first_word o) (rule_at_lem S r)

    second : get_or (words o c (rules_for S)) (2 * r + 1) 0 ≡ second_word (beside c r) (rule_of S x)
    second = words_second o c (rules_for S) r (omega (arith, rules_length S)) ∙ ap (second_word (beside c r)) (rule_at_lem S r)

    single : (y : List ℕ) → 0 < length y → length y < 2 → (a : ℕ) × (y ≡ a ∷ [])
    single [] p q = absurd (omega arith)
    single (a ∷ []) p q = (a, refl)
    single (a ∷ b ∷ y) p q = absurd (omega arith)

    short : length x < 2 → Entry o S c r
    short k = go (single x (ok.numbered.filled x has) k)
      where
        go : (a : ℕ) × (x ≡ a ∷ []) → Entry o S c r
        go (a, e) =
            let rule : rule_of S x ≡ symbol a = rule_symbol S x k ∙ ap (λ (y : List ℕ). symbol (get_or y 0 0)) e in
            one a (ok.symbols x has a (rw e (here refl))) e (first ∙ ap (first_word o) rule) (second ∙ ap (second_word (beside c r)) rule)

    long : 2 ≤ length x → Entry o S c r
    long k =
        let (p, q) = ok.numbered.parts x has k in
        let rule = rule_pair S x k in
        two (index_of (left_of x) S) (index_of (right_of x) S) (omega (arith, at)) (omega (arith, at)) k
        (index_at (left_of x) S (omega (arith, has))) (index_at (right_of x) S (omega (arith, has)))
        (first ∙ ap (first_word o) rule) (second ∙ ap (second_word (beside c r)) rule)

-- ---- no word is bad

pub symbol_first : (n r : ℕ) → n < 257 → bad_first r (word_of 0 n) ≡ false
unfolding bad_first
symbol_first n r h = rw (word_kind 0 n (omega arith), word_number 0 n (omega arith), le-leb n 256 (omega arith))

pub pair_first : (i r : ℕ) → i < r → r < 2 ^ 30 → bad_first r (word_of 1 i) ≡ false
unfolding bad_first
pair_first i r h k = rw (word_kind 1 i (omega arith), word_number 1 i (omega arith), lt-ltb i r h)

pub pair_second : (i j r : ℕ) → i < r → j < r → r < 2 ^ 30 → bad_second r (word_of 1 i) (word_of 2 j) ≡ false
unfolding bad_second
pair_second i j r h k l =
    rw (word_kind 1 i (omega arith), word_kind 2 j (omega arith), word_number 2 j (omega arith), lt-ltb j r k)

pub symbol_second : (n c r : ℕ) → n < 257 → c < 65536 → bad_second r (word_of 0 n) (word_of 3 (beside c r)) ≡ false
unfolding bad_second beside
symbol_second n c zero h k =
    rw (word_kind 0 n (omega arith), word_kind 3 c (omega arith), word_number 3 c (omega arith), le-leb c 65535 (omega arith))
symbol_second n c (suc r) h k =
    rw (word_kind 0 n (omega arith), word_kind 3 0 (omega arith), word_number 3 0 (omega arith), ne_eqb (suc r) 0 (λ e. omega arith))

module _ (o : Order) (S : List (List ℕ)) (c : ℕ) (ok : Storable S c) where
  good_first : (r : ℕ) → r < length S → Entry o S c r → bad_first r (get_or (words o c (rules_for S)) (2 * r) 0) ≡ false
  good_first r h (one a l e f s) = rw f (symbol_first (number_of_rank o a) r (number_range o a l))
  good_first r h (two i j p q k e g f s) = rw f (pair_first i r p (omega (arith, ok.size)))

  good_second : (r : ℕ) → r < length S → Entry o S c r
      → bad_second r (get_or (words o c (rules_for S)) (2 * r) 0) (get_or (words o c (rules_for S)) (2 * r + 1) 0) ≡ false
  good_second r h (one a l e f s) = rw (f, s) (symbol_second (number_of_rank o a) c r (number_range o a l) ok.chair)
  good_second r h (two i j p q k e g f s) = rw (f, s) (pair_second i j r p q (omega (arith, ok.size)))

  good_word : (i : ℕ) → i < 2 * length S → bad_word (words o c (rules_for S)) i ≡ false
  unfolding bad_word
  good_word i h = split_le (i % 2) 0 even odd
    where
      t : List ℕ
      t = words o c (rules_for S)

      r : ℕ
      r = i / 2

      in_range : r < length S
      in_range = omega arith

      even : i % 2 ≤ 0 → cond (eqb (i % 2) 0) (bad_first (i / 2) (get_or t i 0)) (bad_second (i / 2) (get_or t (i - 1) 0) (get_or t i 0)) ≡ false
      even z =
          rw (eq-eqb (i % 2) 0 (omega arith))
          (subst (λ (k : ℕ). bad_first (i / 2) (get_or t k 0) ≡ false) (omega arith) (good_first r in_range (entry o S c r ok in_range)))

      odd : 0 < i % 2 → cond (eqb (i % 2) 0) (bad_first (i / 2) (get_or t i 0)) (bad_second (i / 2) (get_or t (i - 1) 0) (get_or t i 0)) ≡ false
      odd z =
          rw (ne_eqb (i % 2) 0 (λ e. omega arith))
          (subst (λ (k : ℕ). bad_second (i / 2) (get_or t (i - 1) 0) (get_or t k 0) ≡ false) (omega arith)
          (subst (λ (k : ℕ). bad_second (i / 2) (get_or t k 0) (get_or t (2 * r + 1) 0) ≡ false) (omega arith)
          (good_second r in_range (entry o S c r ok in_range))))

  pub no_bad_word : least (bad_word (words o c (rules_for S))) (length (words o c (rules_for S))) ≡ length (words o c (rules_for S))
  no_bad_word = least_none (bad_word (words o c (rules_for S))) (length (words o c (rules_for S)))
      (λ i h. good_word i (omega (arith, words_length o c (rules_for S), rules_length S)))

  -- ---- what it spells

  string_back : (r : ℕ) → r < length S → Entry o S c r
      → string_of o (take r S) (get_or (words o c (rules_for S)) (2 * r) 0) (get_or (words o c (rules_for S)) (2 * r + 1) 0) ≡ get_or S r []
  unfolding string_of
  string_back r h (one a l e f s) =
      let n = number_range o a l in
      rw (f, word_kind 0 (number_of_rank o a) (omega arith), word_number 0 (number_of_rank o a) (omega arith), rank_of_number_lem o a l, e)
  string_back r h (two i j p q k e g f s) =
      let size = ok.size in
      rw (
        f,
        s,
        word_kind 1 i (omega arith),
        word_number 1 i (omega arith),
        word_number 2 j (omega arith),
        get_or-take r S i [] p,
        get_or-take r S j [] q,
        e,
        g,
      )
      (sym (std_parts (get_or S r []) k).0)

  strings_front : (n : ℕ) → n ≤ length S → strings o (words o c (rules_for S)) n ≡ take n S
  unfolding strings
  strings_front zero h = refl
  strings_front (suc n) h =
      rw (strings_front n (omega arith), string_back n (omega arith) (entry o S c n ok (omega arith)))
      (sym (take-suc S n [] (omega arith)))

  pub strings_back : strings o (words o c (rules_for S)) (length S) ≡ S
  strings_back = strings_front (length S) (omega arith) ∙ take-length S
