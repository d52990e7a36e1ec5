-- The two words of a rule: which is bad is seen by the least word of a kind (`left_bad`, `other_bad`, `symbol_bad`). And the words of a table in order: where one
-- is bad behind good ones it is refused, and where none is the number of rules is the answer.
use Rattle.std.proofs.Common.{Option, Some, None, ◌≡◌, ℕ, ◌+◌, ◌-◌, ◌*◌, ◌/◌, ◌%◌, ◌<◌, ◌≤◌, Bool, true, false, cond, not, ◌&&◌, ◌||◌, eqb, ltb, leb, List, length, get_or, sym, refl, ap, ◌∙◌, ap₂, arith, ltb-true, le-ltb, lt-ltb, eq-eqb, ne_eqb, eqb-true, le-leb, leb-true}
use mathlib.Core.Bool.{or-false, or-true}
use borrow.Author.Tests.{lt-leb}
use Rattle.definitions.specs.Table.{kind_of, number_of, bad_first, bad_second, bad_word, rule_count}
use Rattle.definitions.specs.Services.{done, refused, has_bad_word}
use Rattle.lists.specs.Bools.{bool_ext, and_left, and_right, and_intro, cond_true, cond_false}
use Rattle.lists.specs.Decisions.{checked}
use Rattle.lists.specs.Numbers.{split_lt, least_is, least_none}
use Rattle.layout.specs.Layout.{KIND, RIGHT_HALF}

-- ---- the two words of a rule

-- which of them is bad: 0 the first, else 1 the second
abbrev pub bad_of : ℕ → ℕ → ℕ → Option ℕ
bad_of r x y = cond (bad_first r x) (Some 0) (cond (bad_second r x y) (Some 1) None)

-- one of three cases
bad_cases : {C : Type 0} (r x y : ℕ) (b : Option ℕ) → b ≡ bad_of r x y → (bad_first r x ≡ true → b ≡ Some 0 → C) → (bad_first r x ≡ false → bad_second r x y ≡ true → b ≡ Some 1 → C)
    → (bad_first r x ≡ false → bad_second r x y ≡ false → b ≡ None → C) → C
bad_cases {C} r x y b e one two none = go (bad_first r x) (bad_second r x y) refl refl
  where
    go : (p q : Bool) → bad_first r x ≡ p → bad_second r x y ≡ q → C
    go true q i j = one i (e ∙ cond_true (bad_first r x) (Some 0) (cond (bad_second r x y) (Some 1) None) i)
    go false true i j = two i j (e ∙ cond_false (bad_first r x) (Some 0) (cond (bad_second r x y) (Some 1) None) i ∙ cond_true (bad_second r x y) (Some 1) None j)
    go false false i j = none i j (e ∙ cond_false (bad_first r x) (Some 0) (cond (bad_second r x y) (Some 1) None) i ∙ cond_false (bad_second r x y) (Some 1) None j)

pub bad_most : (r x y : ℕ) (b : Option ℕ) (w : ℕ) → b ≡ bad_of r x y → b ≡ Some w → w ≤ 1
bad_most r x y b w e f = bad_cases r x y b e
    (λ i c. let q : w ≡ 0 = cc in omega arith)
    (λ i j c. let q : w ≡ 1 = cc in omega arith)
    (λ i j c. cc)

turned : (b : Bool) → ◌≡◌ {A = Option ℕ} (cond (not b) (Some 1) None) (cond b None (Some 1))
turned true = refl
turned false = refl

-- a word from `least` on names a rule before r
abbrev pub is_half : ℕ → ℕ → ℕ → Bool
is_half r x least = leb least x && ltb (x - least) r

-- such a word, where `least` is the least of kind k, is of that kind, and its number is below r
half_kind : (k r x : ℕ) → r ≤ 2304 → is_half r x (k * KIND) ≡ eqb (kind_of x) k && ltb (number_of x) r
unfolding kind_of number_of
half_kind k r x h =
    bool_ext (is_half r x (k * KIND)) (eqb (x / KIND) k && ltb (x % KIND) r)
    (λ e.
    let a = leb-true (k * KIND) x (and_left (leb (k * KIND) x) (ltb (x - k * KIND) r) e) in
    let b = ltb-true (x - k * KIND) r (and_right (leb (k * KIND) x) (ltb (x - k * KIND) r) e) in
    and_intro (eqb (x / KIND) k) (ltb (x % KIND) r) (eq-eqb (x / KIND) k (omega arith)) (lt-ltb (x % KIND) r (omega arith)))
    (λ e.
    let a = eqb-true (x / KIND) k (and_left (eqb (x / KIND) k) (ltb (x % KIND) r) e) in
    let b = ltb-true (x % KIND) r (and_right (eqb (x / KIND) k) (ltb (x % KIND) r) e) in
    and_intro (leb (k * KIND) x) (ltb (x - k * KIND) r) (le-leb (k * KIND) x (omega arith)) (lt-ltb (x - k * KIND) r (omega arith)))

-- the symbol's number is at most 256
symbol_kind : (x : ℕ) → eqb (kind_of x) 0 && leb (number_of x) 256 ≡ leb x 256
unfolding kind_of number_of
symbol_kind x =
    bool_ext (eqb (x / KIND) 0 && leb (x % KIND) 256) (leb x 256)
    (λ e.
    let a = eqb-true (x / KIND) 0 (and_left (eqb (x / KIND) 0) (leb (x % KIND) 256) e) in
    let b = leb-true (x % KIND) 256 (and_right (eqb (x / KIND) 0) (leb (x % KIND) 256) e) in
    le-leb x 256 (omega arith))
    (λ e.
    let a = leb-true x 256 e in
    and_intro (eqb (x / KIND) 0) (leb (x % KIND) 256) (eq-eqb (x / KIND) 0 (omega arith)) (le-leb (x % KIND) 256 (omega arith)))

module _ (r x y : ℕ) (h : r ≤ 2304) where
  first_is_bad : bad_first r x ≡ not (leb x 256 || is_half r x KIND)
  unfolding bad_first
  first_is_bad = ap₂ {C = Bool} (λ a b. not (a || b)) (symbol_kind x) (sym (half_kind 1 r x h))

  -- behind a left half
  module _ (e : is_half r x KIND ≡ true) where
    left_kind : kind_of x ≡ 1
    left_kind = eqb-true (kind_of x) 1 (and_left (eqb (kind_of x) 1) (ltb (number_of x) r) (sym (half_kind 1 r x h) ∙ e))

    left_second : bad_second r x y ≡ not (is_half r y RIGHT_HALF)
    unfolding bad_second
    left_second = rw (left_kind, sym (half_kind 2 r y h)) (or-false (not (is_half r y RIGHT_HALF)))

    pub left_bad : bad_of r x y ≡ cond (is_half r y RIGHT_HALF) None (Some 1)
    left_bad = rw (first_is_bad, e, or-true (leb x 256), left_second) (turned (is_half r y RIGHT_HALF))

  -- behind another word
  module _ (e : is_half r x KIND ≡ false) where
    pub other_bad : 256 < x → bad_of r x y ≡ Some 0
    other_bad l = rw (first_is_bad, e, lt-leb x 256 l)

    pub symbol_bad : x ≤ 256 → bad_of r x y ≡ cond (eqb (kind_of y) 3 && leb (number_of y) (cond (eqb r 0) 65535 0)) None (Some 1)
    unfolding bad_second
    symbol_bad l = rw (first_is_bad, le-leb x 256 l, symbol) (turned (eqb (kind_of y) 3 && leb (number_of y) (cond (eqb r 0) 65535 0)))
      where
        symbol : kind_of x ≡ 0
        symbol = eqb-true (kind_of x) 0 (and_left (eqb (kind_of x) 0) (leb (number_of x) 256) (symbol_kind x ∙ le-leb x 256 l))

-- ---- the words in order

-- the words of the first r rules are good
pub record Good (t : List ℕ) (r : ℕ) : Type 0 where
  pub words : (i : ℕ) → i < 2 * r → bad_word t i ≡ false

first_is : (t : List ℕ) (r : ℕ) → bad_word t (2 * r) ≡ bad_first r (get_or t (2 * r) 0)
unfolding bad_word
first_is t r =
    let z : 2 * r % 2 ≡ 0 = omega arith in
    let q : 2 * r / 2 ≡ r = omega arith in
    rw (eq-eqb (2 * r % 2) 0 z, q)

second_is : (t : List ℕ) (r : ℕ) → bad_word t (2 * r + 1) ≡ bad_second r (get_or t (2 * r) 0) (get_or t (2 * r + 1) 0)
unfolding bad_word
second_is t r =
    let z : (2 * r + 1) % 2 ≡ 0 → ⊥ = λ e. omega arith in
    let q : (2 * r + 1) / 2 ≡ r = omega arith in
    let p : 2 * r + 1 - 1 ≡ 2 * r = omega arith in
    rw (ne_eqb ((2 * r + 1) % 2) 0 z, q, p)

pub good_none : (t : List ℕ) → Good t 0
good_none t = record { words = λ i h. absurd (omega arith) }

refused_at : (t : List ℕ) (i n : ℕ) → i < length t → bad_word t i ≡ true → ((j : ℕ) → j < i → bad_word t j ≡ false) → refused 6 i ≡ checked (has_bad_word t) n
refused_at t i n h b g = simp (least_is (bad_word t) (length t) i h b g, lt-ltb i (length t) h)

-- the words of rule r, behind good ones
module _ {t : List ℕ} {r : ℕ} (g : Good t r) where
  good_more : bad_first r (get_or t (2 * r) 0) ≡ false → bad_second r (get_or t (2 * r) 0) (get_or t (2 * r + 1) 0) ≡ false → Good t (r + 1)
  good_more a b = record {
    words = λ i h. split_lt i (2 * r)
        (λ l. g.words i l)
        (λ e. rw e (first_is t r ∙ a))
        (λ l. let e : i ≡ 2 * r + 1 = omega arith in rw e (second_is t r ∙ b));
  }

  module _ (h : r < rule_count t) (e : length t ≡ 2 * (rule_count t)) where
    first_bad : bad_first r (get_or t (2 * r) 0) ≡ true → refused 6 (2 * r) ≡ checked (has_bad_word t) (rule_count t)
    first_bad b = refused_at t (2 * r) (rule_count t) (omega arith) (first_is t r ∙ b) g.words

    second_bad : bad_first r (get_or t (2 * r) 0) ≡ false → bad_second r (get_or t (2 * r) 0) (get_or t (2 * r + 1) 0) ≡ true
        → refused 6 (2 * r + 1) ≡ checked (has_bad_word t) (rule_count t)
    second_bad a b = refused_at t (2 * r + 1) (rule_count t) (omega arith) (second_is t r ∙ b)
        (λ j l. split_lt j (2 * r) (λ k. g.words j k) (λ q. rw q (first_is t r ∙ a)) (λ k. absurd (omega arith)))

-- the words of rule r, behind good ones, by what `bad_of` says of them
module _ {t : List ℕ} {r : ℕ} (g : Good t r) (b : Option ℕ) (e : b ≡ bad_of r (get_or t (2 * r) 0) (get_or t (2 * r + 1) 0)) where
  pub bad_refused : (w : ℕ) → r < rule_count t → length t ≡ 2 * (rule_count t) → b ≡ Some w → refused 6 (2 * r + w) ≡ checked (has_bad_word t) (rule_count t)
  bad_refused w h k f =
      bad_cases r (get_or t (2 * r) 0) (get_or t (2 * r + 1) 0) b e
      (λ i c. let q : w ≡ 0 = cc in ap (λ (n : ℕ). refused 6 n) (omega arith) ∙ first_bad g h k i)
      (λ i j c. let q : w ≡ 1 = cc in ap (λ (n : ℕ). refused 6 n) (omega arith) ∙ second_bad g h k i j)
      (λ i j c. cc)

  pub good_passed : b ≡ None → Good t (r + 1)
  good_passed f =
      bad_cases r (get_or t (2 * r) 0) (get_or t (2 * r + 1) 0) b e (λ i c. absurd (cc)) (λ i j c. absurd (cc)) (λ i j c. good_more g i j)

pub all_good : {t : List ℕ} {r : ℕ} → Good t r → rule_count t ≤ r → length t ≡ 2 * (rule_count t) → done (rule_count t) 0 ≡ checked (has_bad_word t) (rule_count t)
all_good {t} {r} g h e = simp (least_none (bad_word t) (length t) (λ j l. g.words j (omega arith)), le-ltb (length t) (length t) (omega arith))
