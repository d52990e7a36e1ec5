-- The two words of a rule: what they decode to (`word_kind`, `word_number`), where they stand in a table (`words_first`,
-- `words_second`), and that looking a rule up by its words finds what looking it up as a rule finds (`find_encoded`).
use Rattle.std.specs.Prelude.{◌≡◌, refl, List, [], ◌∷◌, ℕ, zero, suc, ◌+◌, ◌*◌, ◌^◌, ◌<◌, length, get_or, eqb}
use Rattle.std.proofs.Common.{sym, ◌∙◌, ap, ap₂, arith, eqb-true, eq-eqb}
use Rattle.definitions.specs.declared.Order.{Order}
use Rattle.definitions.specs.Grammar.{Rule, symbol, pair}
use Rattle.definitions.specs.Table.{number_of_rank, rank_of_number, word_of, kind_of, number_of, rule_words, words}
use Rattle.lists.specs.Bools.{bool_ext, and_left, and_right, and_intro}
use Rattle.lists.specs.Newest.{has_words, newest, newest_ext}
use Rattle.lyndon.specs.Rules.{same_rule, same_rule_lem, rule_same, is_rule, find}
use Rattle.lyndon.specs.Ranks.{number_range, rank_of_number_lem}

-- ---- one word

pub word_kind : (k n : ℕ) → n < 2 ^ 30 → kind_of (word_of k n) ≡ k
unfolding kind_of word_of
word_kind k n h = omega arith

pub word_number : (k n : ℕ) → n < 2 ^ 30 → number_of (word_of k n) ≡ n
unfolding number_of word_of
word_number k n h = omega arith

-- ---- the two words of a rule

unfoldable pub first_word : Order → Rule → ℕ
first_word o (symbol a) = word_of 0 (number_of_rank o a)
first_word o (pair u v) = word_of 1 u

-- c is the number beside a symbol
unfoldable pub second_word : ℕ → Rule → ℕ
second_word c (symbol a) = word_of 3 c
second_word c (pair u v) = word_of 2 v

-- the number beside the symbol of rule r
unfoldable pub beside : ℕ → ℕ → ℕ
beside c zero = c
beside c (suc r) = 0

beside_none : (r : ℕ) → beside 0 r ≡ 0
unfolding beside
beside_none zero = refl
beside_none (suc r) = refl

pub beside_later : (c r : ℕ) → 0 < r → beside c r ≡ 0
unfolding beside
beside_later c zero h = absurd (omega arith)
beside_later c (suc r) h = refl

pub words_cons : (o : Order) (c : ℕ) (x : Rule) (K : List Rule) → words o c (x ∷ K) ≡ first_word o x ∷ second_word c x ∷ words o 0 K
unfolding words rule_words first_word second_word
words_cons o c (symbol a) K = refl
words_cons o c (pair u v) K = refl

pub words_length : (o : Order) (c : ℕ) (K : List Rule) → length (words o c K) ≡ 2 * length K
unfolding words
words_length o c [] = refl
words_length o c (x ∷ K) = rw (words_cons o c x K) (omega (arith, words_length o 0 K))

double_suc : (r : ℕ) → 2 * suc r ≡ suc (suc (2 * r))
double_suc r = omega arith

pub words_first : (o : Order) (c : ℕ) (K : List Rule) (r : ℕ) → r < length K → get_or (words o c K) (2 * r) 0 ≡ first_word o (get_or K r (symbol 0))
words_first o c [] r h = absurd (omega arith)
words_first o c (x ∷ K) zero h = rw (words_cons o c x K)
words_first o c (x ∷ K) (suc r) h = rw (words_cons o c x K, double_suc r) (words_first o 0 K r (omega arith))

pub words_second : (o : Order) (c : ℕ) (K : List Rule) (r : ℕ) → r < length K
    → get_or (words o c K) (2 * r + 1) 0 ≡ second_word (beside c r) (get_or K r (symbol 0))
unfolding beside
words_second o c [] r h = absurd (omega arith)
words_second o c (x ∷ K) zero h = rw (words_cons o c x K)
words_second o c (x ∷ K) (suc r) h = rw (words_cons o c x K, later) (words_second o 0 K r (omega arith) ∙ ap (λ (n : ℕ). second_word n (get_or K r (symbol 0))) (beside_none r))
  where
    later : 2 * suc r + 1 ≡ suc (suc (2 * r + 1))
    later = omega arith

-- ---- looking a rule up by its two words

-- the numbers of a rule fit its words
abbrev pub Encodes : Rule → Type 0
Encodes (symbol a) = a < 257
Encodes (pair u v) = (u < 2 ^ 30) × (v < 2 ^ 30)

kind_differs : (k l m n : ℕ) → m < 2 ^ 30 → n < 2 ^ 30 → word_of k m ≡ word_of l n → k ≡ l
kind_differs k l m n h i e = sym (word_kind k m h) ∙ ap kind_of e ∙ word_kind l n i

number_differs : (k l m n : ℕ) → m < 2 ^ 30 → n < 2 ^ 30 → word_of k m ≡ word_of l n → m ≡ n
number_differs k l m n h i e = sym (word_number k m h) ∙ ap number_of e ∙ word_number l n i

-- rules with the same two words are one rule
pub encoded_once : (o : Order) (x y : Rule) → Encodes x → Encodes y → first_word o x ≡ first_word o y → second_word 0 x ≡ second_word 0 y → x ≡ y
unfolding first_word second_word
encoded_once o (symbol a) (symbol b) h k e f =
    let m = number_range o a h in
    let n = number_range o b k in
    ap symbol (sym (rank_of_number_lem o a h) ∙ ap (rank_of_number o) (number_differs 0 0 (number_of_rank o a) (number_of_rank o b) (omega arith) (omega arith) e) ∙ rank_of_number_lem o b k)
encoded_once o (symbol a) (pair u v) h k e f =
    let m = number_range o a h in
    absurd (omega (arith, kind_differs 0 1 (number_of_rank o a) u (omega arith) k.0 e))
encoded_once o (pair u v) (symbol b) h k e f =
    let n = number_range o b k in
    absurd (omega (arith, kind_differs 1 0 u (number_of_rank o b) h.0 (omega arith) e))
encoded_once o (pair u v) (pair s t) h k e f =
    ap₂ {C = Rule} (λ i j. pair i j) (number_differs 1 1 u s h.0 k.0 e) (number_differs 2 2 v t h.1 k.1 f)

-- every rule of K fits its words
abbrev pub AllEncode : List Rule → Type 0
AllEncode K = (r : ℕ) → r < length K → Encodes (get_or K r (symbol 0))

-- numbering pairs of words is numbering rules, encoded: where a list t begins with the words of the rules K, looking the words of a
-- rule up in it finds the rule's number
pub find_encoded : (o : Order) (t : List ℕ) (x : Rule) (K : List Rule) → Encodes x → AllEncode K
    → ((i : ℕ) → i < 2 * length K → get_or t i 0 ≡ get_or (words o 0 K) i 0)
    → newest (has_words t (first_word o x) (second_word 0 x)) (length K) ≡ find x K
unfolding find is_rule has_words
find_encoded o t x K h k front =
    newest_ext (has_words t (first_word o x) (second_word 0 x)) (λ r. same_rule x (get_or K r (symbol 0))) (length K) same_at
  where
    same_at : (r : ℕ) → r < length K → has_words t (first_word o x) (second_word 0 x) r ≡ same_rule x (get_or K r (symbol 0))
    same_at r l =
        let y = get_or K r (symbol 0) in
        let first : get_or t (2 * r) 0 ≡ first_word o y = front (2 * r) (omega arith) ∙ words_first o 0 K r l in
        let second : get_or t (2 * r + 1) 0 ≡ second_word 0 y
        = front (2 * r + 1) (omega arith) ∙ words_second o 0 K r l ∙ ap (λ (c : ℕ). second_word c y) (beside_none r) in
        bool_ext (has_words t (first_word o x) (second_word 0 x) r) (same_rule x y)
        (λ e. rule_same x y (encoded_once o x y h (k r l)
        (sym (eqb-true (get_or t (2 * r) 0) (first_word o x) (and_left (eqb (get_or t (2 * r) 0) (first_word o x)) (eqb (get_or t (2 * r + 1) 0) (second_word 0 x)) e)) ∙ first)
        (sym (eqb-true (get_or t (2 * r + 1) 0) (second_word 0 x) (and_right (eqb (get_or t (2 * r) 0) (first_word o x)) (eqb (get_or t (2 * r + 1) 0) (second_word 0 x)) e)) ∙ second)))
        (λ e. let q = same_rule_lem x y e in and_intro (eqb (get_or t (2 * r) 0) (first_word o x)) (eqb (get_or t (2 * r + 1) 0) (second_word 0 x))
        (eq-eqb (get_or t (2 * r) 0) (first_word o x) (first ∙ sym (ap (first_word o) q))) (eq-eqb (get_or t (2 * r + 1) 0) (second_word 0 x) (second ∙ sym (ap (second_word 0) q))))
