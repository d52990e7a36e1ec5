-- Cuts, with f the rank of a sample: a prefix is one of bytes and of ranks alike (`ranks_begin`); a cut is live, and listed, by what holds of every cut from 1 on that is tried
-- (`live_is`, `listed_is`), and so is a stretch a word again (`again`).
use mathlib.Core.Path.{◌≡◌, refl, sym, ◌∙◌, ap, ap₂}
use mathlib.Core.Bool.{Bool, true, false, not, ◌&&◌, ◌||◌, true≢false}
use mathlib.Core.List.{List, [], ◌∷◌, map}
use Prim.Native.Nat.{ℕ, suc, ◌-◌, ◌<◌}
use native.Mathlib.Omega.{arith}
use lib.ListN.{length, take, drop, get_or, length-map}
use lib.Dec.{ltb, eqb}
use borrow.Author.Tests.{eq-eqb, ne_eqb}
use Rattle.std.specs.List.{list_all, range_with_len}
use Rattle.definitions.specs.Words.{below, begins, lyndon}
use Rattle.definitions.specs.Table.{rank_of}
use Rattle.definitions.specs.declared.Order.{Order}
use Rattle.definitions.specs.Services.{sample_order}
use Rattle.definitions.specs.Occurrences.{not_greater_at_difference, is_live, word_again, is_listed, listed_cuts, pattern_cuts}
use Rattle.lists.specs.Numbers.{split_lt}
use Rattle.naive_words.proofs.Trying.{from_one, all_tried, suffix, stretch}

-- ---- three tests, made in turn; v is what the first two give, and a the first

module _ (p q : Bool) {a v : Bool} (e : a ≡ p) where
  pub first_held : a ≡ true → v ≡ q → v ≡ p && q
  first_held f g = g ∙ ap (λ (b : Bool). b && q) (sym f ∙ e)

  pub first_failed : a ≡ false → v ≡ a → v ≡ p && q
  first_failed f g = g ∙ f ∙ ap (λ (b : Bool). b && q) (sym f ∙ e)

  pub first_passed : a ≡ true → v ≡ a → v ≡ p || q
  first_passed f g = g ∙ f ∙ ap (λ (b : Bool). b || q) (sym f ∙ e)

  pub first_left : a ≡ false → v ≡ q → v ≡ p || q
  first_left f g = g ∙ ap (λ (b : Bool). b || q) (sym f ∙ e)

pub third_decides : (p q r : Bool) {v : Bool} → v ≡ p && q → v ≡ true → r ≡ p && (q && r)
third_decides true true r e f = refl
third_decides true false r e f = absurd (true≢false (sym f ∙ e))
third_decides false q r e f = absurd (true≢false (sym f ∙ e))

pub one_failed : (p q r : Bool) {v : Bool} → v ≡ p && q → v ≡ false → v ≡ p && (q && r)
one_failed true true r e f = absurd (true≢false (sym e ∙ f))
one_failed true false r e f = e
one_failed false q r e f = e

pub one_passed : (p q r : Bool) {v : Bool} → v ≡ p || q → v ≡ true → v ≡ p || (q || r)
one_passed true q r e f = e
one_passed false true r e f = e
one_passed false false r e f = absurd (true≢false (sym f ∙ e))

pub third_left : (p q r : Bool) {v : Bool} → v ≡ p || q → v ≡ false → r ≡ p || (q || r)
third_left true q r e f = absurd (true≢false (sym e ∙ f))
third_left false true r e f = absurd (true≢false (sym e ∙ f))
third_left false false r e f = refl

-- ---- a prefix

rank_same : (a b : ℕ) → a < 256 → b < 256 → eqb (rank_of sample_order a) (rank_of sample_order b) ≡ eqb a b
unfolding rank_of
rank_same a b h k = split_lt a b
    (λ l. ne_eqb (rank_of sample_order a) (rank_of sample_order b) (λ e. omega arith) ∙ sym (ne_eqb a b (λ e. omega arith)))
    (λ q. eq-eqb (rank_of sample_order a) (rank_of sample_order b) (ap (rank_of sample_order) q) ∙ sym (eq-eqb a b q))
    (λ l. ne_eqb (rank_of sample_order a) (rank_of sample_order b) (λ e. omega arith) ∙ sym (ne_eqb a b (λ e. omega arith)))

pub ranks_begin : (x y : List ℕ) → ((i : ℕ) → get_or x i 0 < 256) → ((i : ℕ) → get_or y i 0 < 256) → begins x y ≡ begins (map (rank_of sample_order) x) (map (rank_of sample_order) y)
unfolding begins
ranks_begin [] y p q = refl
ranks_begin (a ∷ x) [] p q = refl
ranks_begin (a ∷ x) (b ∷ y) p q = ap₂ {C = Bool} (λ u v. u && v) (sym (rank_same a b (p 0) (q 0))) (ranks_begin x y (λ i. p (suc i)) (λ i. q (suc i)))

-- ---- tails beside each other

-- the tail from c on passes beside the tail from another cut on
abbrev pub passes_beside : List ℕ → ℕ → ℕ → Bool
passes_beside p c = λ d. not_greater_at_difference (drop c p) (drop d p)

-- the stretch to c is no word again
abbrev pub none_again : List ℕ → ℕ → ℕ → Bool
none_again p c = λ d. not (word_again p d c)

module _ (f : ℕ → ℕ) (l : List ℕ) (c : ℕ) where
  -- the tail from a cut on, as code takes it
  abbrev tail : ℕ → List ℕ
  tail k = map f (take (length l - k) (drop k l))

  -- the test of a cut as code makes it
  abbrev pub tail_passes : ℕ → Bool
  tail_passes d = not_greater_at_difference (tail c) (tail d)

  beside : (d : ℕ) → passes_beside (map f l) c d ≡ tail_passes d
  beside d = ap₂ {C = Bool} (λ x y. not_greater_at_difference x y) (suffix f l c) (suffix f l d)

  pub live_is : ltb 0 c && list_all tail_passes (range_with_len 1 (length l - 1)) ≡ is_live (map f l) c
  unfolding is_live
  live_is =
      ap (λ (b : Bool). ltb 0 c && b) (all_tried tail_passes (length l) ∙ (λ i. from_one (λ d. sym (beside d) i) (length l)))
      ∙ ap (λ (n : ℕ). ltb 0 c && from_one (passes_beside (map f l) c) n) (sym (length-map l f))

  -- ---- a word again

  pub again : (d : ℕ) → lyndon (map f (take (c - d) (drop d l))) && (begins (map f (take (c - d) (drop d l))) (tail c) && ltb (length (take (c - d) (drop d l))) (length (take (length l - c) (drop c l))))
      ≡ word_again (map f l) d c
  unfolding word_again
  again d = rw (stretch f l d (c - d), suffix f l c, length-map (take (c - d) (drop d l)) f, length-map (take (length l - c) (drop c l)) f)

-- ---- a cut that is listed

pub listed_is : (p : List ℕ) (c : ℕ) → is_live p c && list_all (none_again p c) (range_with_len 1 (c - 1)) ≡ is_listed p c
unfolding is_listed
listed_is p c = ap (λ (b : Bool). is_live p c && b) (all_tried (none_again p c) c)

-- ---- the cuts noted

pub all_listed : (o : Order) (l : List ℕ) (c : ℕ) → c ≡ length l → below (is_listed (map (rank_of o) l)) c ≡ pattern_cuts o l
unfolding pattern_cuts listed_cuts
all_listed o l c e = ap (below (is_listed (map (rank_of o) l))) (e ∙ sym (length-map l (rank_of o)))
