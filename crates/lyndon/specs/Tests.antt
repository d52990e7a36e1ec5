-- The tests of a search by numbers: those of a pair rule are the cuts that fit its join (`tests_pair`), a symbol rule has none (`tests_symbol`), nor has a join with
-- fewer symbols than the pattern (`fitting_none`), nor a pattern of one sample (`one_sample`).
use Rattle.std.specs.Prelude.{◌≡◌, Bool, true, false, ◌&&◌, ℕ, zero, suc, ◌+◌, ◌-◌, ◌≤◌, ◌<◌, length, get_or, leb}
use Rattle.std.proofs.Math.Path.{refl, ap, ap₂}
use Rattle.std.proofs.Common.{◌∙◌, arith, le-leb, leb-true}
use Rattle.std.proofs.Math.Bool.{cond}
use mathlib.Core.List.{List, [], ◌∷◌, ◌++◌, map}
use Rattle.std.proofs.Math.ListN.{length-append}
use Rattle.std.proofs.lemmas.List.{length-map}
use Rattle.std.proofs.lemmas.Bool.{lt-leb}
use Rattle.definitions.specs.declared.Order.{Order}
use Rattle.definitions.specs.Words.{below}
use Rattle.definitions.specs.Table.{rank_of, is_pair, left_half, right_half}
use Rattle.definitions.specs.Occurrences.{listed_cuts, pattern_cuts, is_listed, is_live, fits_join, is_tested, Test, tests_of, tests_below, tests}
use Rattle.lists.specs.Bools.{not_so, and_left, and_right, and_intro}

-- how many of the cuts of m samples fit a join
unfoldable pub fitting : ℕ → ℕ → ℕ → List ℕ → ℕ
fitting m left right [] = 0
fitting m left right (c ∷ cuts) = cond (fits_join m left right c) 1 0 + fitting m left right cuts

one_test : (b : Bool) (x : Test) → length (cond b (x ∷ []) []) ≡ cond b 1 0
one_test true x = refl
one_test false x = refl

module _ (o : Order) (t : List ℕ) (m r : ℕ) where
  pub tests_pair : (cuts : List ℕ) → is_pair t r ≡ true → length (tests_of o t m cuts r) ≡ fitting m (length (left_half o t r)) (length (right_half o t r)) cuts
  unfolding tests_of fitting is_tested
  tests_pair [] e = refl
  tests_pair (c ∷ cuts) e =
      length-append (cond (is_tested o t m r c) (record { rule = r; cut = c } ∷ []) []) (tests_of o t m cuts r)
      ∙ ap₂ (λ a b. a + b) (one_test (is_tested o t m r c) _ ∙ ap (λ b. cond (b && fits_join m (length (left_half o t r)) (length (right_half o t r)) c) 1 0) e) (tests_pair cuts e)

  pub tests_symbol : (cuts : List ℕ) → is_pair t r ≡ false → tests_of o t m cuts r ≡ []
  unfolding tests_of is_tested
  tests_symbol [] e = refl
  tests_symbol (c ∷ cuts) e = rw e (tests_symbol cuts e)

-- the cuts of two lists, one behind the other
pub fitting_append : (m left right : ℕ) (x y : List ℕ) → fitting m left right (x ++ y) ≡ fitting m left right x + fitting m left right y
unfolding fitting
fitting_append m left right [] y = omega arith
fitting_append m left right (c ∷ x) y =
    let one : ℕ = cond (fits_join m left right c) 1 0 in
    ap (λ (n : ℕ). one + n) (fitting_append m left right x y) ∙ omega arith

-- a cut whose front or whose tail is too long does not fit, any other does
pub front_unfit : (m left right c : ℕ) → left < c → fits_join m left right c ≡ false
unfolding fits_join
front_unfit m left right c h = simp (lt-leb c left h)

pub tail_unfit : (m left right c : ℕ) → right < m - c → fits_join m left right c ≡ false
unfolding fits_join
tail_unfit m left right c h = not_so (leb c left && leb (m - c) right) (λ e. omega (arith, leb-true (m - c) right (and_right (leb c left) (leb (m - c) right) e)))

pub both_fit : (m left right c : ℕ) → c ≤ left → m - c ≤ right → fits_join m left right c ≡ true
unfolding fits_join
both_fit m left right c h k = and_intro (leb c left) (leb (m - c) right) (le-leb c left h) (le-leb (m - c) right k)

pub fitting_absent : (m left right : ℕ) (l : List ℕ) → ((j : ℕ) → j < length l → fits_join m left right (get_or l j 0) ≡ false) → fitting m left right l ≡ 0
unfolding fitting
fitting_absent m left right [] h = refl
fitting_absent m left right (c ∷ l) h =
    ap₂ (λ a b. a + b) (ap (λ b. cond b 1 0) (h 0 (omega arith))) (fitting_absent m left right l (λ j k. h (suc j) (omega arith)))

pub fitting_one : (m left right c : ℕ) → fits_join m left right c ≡ true → fitting m left right (c ∷ []) ≡ 1
unfolding fitting
fitting_one m left right c e = rw e

-- one rule more
pub tests_more : (o : Order) (t : List ℕ) (m : ℕ) (cuts : List ℕ) (r : ℕ)
    → length (tests_below o t m cuts (r + 1)) ≡ length (tests_below o t m cuts r) + length (tests_of o t m cuts r)
unfolding tests_below
tests_more o t m cuts r =
    let e : r + 1 ≡ suc r = omega arith in
    ap (λ (n : ℕ). length (tests_below o t m cuts n)) e ∙ length-append (tests_below o t m cuts r) (tests_of o t m cuts r)

-- a rule has at most as many as there are cuts
pub rule_few : (o : Order) (t : List ℕ) (m : ℕ) (cuts : List ℕ) (r : ℕ) → length (tests_of o t m cuts r) ≤ length cuts
unfolding tests_of
rule_few o t m [] r = omega arith
rule_few o t m (c ∷ cuts) r =
    go (is_tested o t m r c) (record { rule = r; cut = c }) (tests_of o t m cuts r) (rule_few o t m cuts r)
  where
    go : (b : Bool) (x : Test) (l : List Test) {n : ℕ} → length l ≤ n → length (◌++◌ {A = Test} (cond b (x ∷ []) []) l) ≤ suc n
    go true x l h = omega arith
    go false x l h = omega arith

-- fewer symbols than samples: no cut fits
pub fitting_none : (m left right : ℕ) (cuts : List ℕ) → left + right < m → fitting m left right cuts ≡ 0
unfolding fitting fits_join
fitting_none m left right [] h = refl
fitting_none m left right (c ∷ cuts) h =
    ap₂ (λ a b. a + b) (ap (λ b. cond b 1 0) (not_so (leb c left && leb (m - c) right) (λ e. omega (arith, leb-true c left (and_left (leb c left) (leb (m - c) right) e), leb-true (m - c) right (and_right (leb c left) (leb (m - c) right) e)))))
    (fitting_none m left right cuts h)

-- a pattern of one sample has no cut
one_cut : (p : List ℕ) → length p ≡ 1 → listed_cuts p ≡ []
unfolding listed_cuts below is_listed is_live
one_cut p e = rw e refl

one_cuts : (o : Order) (p : List ℕ) → length p ≡ 1 → pattern_cuts o p ≡ []
unfolding pattern_cuts
one_cuts o p e = one_cut (map (rank_of o) p) (length-map p (rank_of o) ∙ e)

-- so no rule is tested
pub one_tests : (o : Order) (t p : List ℕ) (m r : ℕ) → length p ≡ 1 → tests_of o t m (pattern_cuts o p) r ≡ []
unfolding tests_of
one_tests o t p m r e = rw (one_cuts o p e) refl

no_cuts : (o : Order) (t : List ℕ) (m n : ℕ) → tests_below o t m [] n ≡ []
unfolding tests_below tests_of
no_cuts o t m zero = refl
no_cuts o t m (suc n) = rw (no_cuts o t m n) refl

-- and its search makes no tests
pub one_sample : (o : Order) (t p : List ℕ) → length p ≡ 1 → tests o t p ≡ []
unfolding tests
one_sample o t p e = rw (one_cuts o p e) (no_cuts o t (length p) _)
