-- The first difference of two strings: before it they are alike, and at it they differ, unless one of them ends there; no other number is such
-- (`difference_only`). The laws are those of `least`. A search ends by `difference_most` and goes on by `difference_further`.
use Rattle.std.specs.Prelude.{◌≡◌, Bool, not, List, ℕ, ◌≤◌, ◌<◌, min, length, take, get_or, eqb}
use Rattle.std.proofs.Common.{sym, ◌∙◌, ap, arith, ext_get_or, get_or-take, length-take-le}
use Rattle.std.proofs.Math.Nat.{min-le_left, min-le_right, le-min}
use borrow.Author.Tests.{eqb-true, eq-eqb, not-true, not-false}
use Rattle.definitions.specs.Words.{least, first_difference}
use Rattle.lists.specs.Bools.{contra}
use Rattle.lists.specs.Numbers.{split_le, split_lt, least_le, least_before, least_holds}

module _ (x y : List ℕ) where
  abbrev differs : ℕ → Bool
  differs i = not (eqb (get_or x i 0) (get_or y i 0))

  pub difference_left : first_difference x y ≤ length x
  unfolding first_difference
  difference_left = omega (arith, least_le differs (min (length x) (length y)), min-le_left (length x) (length y))

  pub difference_right : first_difference x y ≤ length y
  unfolding first_difference
  difference_right = omega (arith, least_le differs (min (length x) (length y)), min-le_right (length x) (length y))

  pub difference_alike : (i : ℕ) → i < first_difference x y → get_or x i 0 ≡ get_or y i 0
  unfolding first_difference
  difference_alike i h =
      eqb-true (get_or x i 0) (get_or y i 0) (not-false (eqb (get_or x i 0) (get_or y i 0)) (least_before differs (min (length x) (length y)) i h))

  pub difference_unlike : first_difference x y < length x → first_difference x y < length y → get_or x (first_difference x y) 0 ≡ get_or y (first_difference x y) 0 → ⊥
  unfolding first_difference
  difference_unlike h k e =
      let d = least differs (min (length x) (length y)) in
      contra (eq-eqb (get_or x d 0) (get_or y d 0) e) (not-true (eqb (get_or x d 0) (get_or y d 0)) (least_holds differs (min (length x) (length y)) (le-min h k)))

  -- the fronts up to it are the same
  pub difference_fronts : take (first_difference x y) x ≡ take (first_difference x y) y
  difference_fronts =
      let d = first_difference x y in
      let m = length-take-le d x difference_left in
      ext_get_or 0 (take d x) (take d y) (m ∙ sym (length-take-le d y difference_right)) (λ i h.
      get_or-take d x i 0 (omega (arith, m)) ∙ difference_alike i (omega (arith, m)) ∙ sym (get_or-take d y i 0 (omega (arith, m))))

  -- an index at which they differ is not before it, and one at which they do not is not it
  pub difference_most : (i : ℕ) → (get_or x i 0 ≡ get_or y i 0 → ⊥) → first_difference x y ≤ i
  difference_most i n = split_le (first_difference x y) i (λ h. h) (λ h. absurd (n (difference_alike i h)))

  pub difference_further : (i : ℕ) → i ≤ first_difference x y → i < length x → i < length y → get_or x i 0 ≡ get_or y i 0 → i < first_difference x y
  difference_further i l h k e = split_lt i (first_difference x y)
      (λ q. q)
      (λ q. absurd (difference_unlike (omega arith) (omega arith) (ap (λ (j : ℕ). get_or x j 0) (sym q) ∙ e ∙ ap (λ (j : ℕ). get_or y j 0) q)))
      (λ q. absurd (omega arith))

  pub difference_only : (d : ℕ) → d ≤ length x → d ≤ length y → ((i : ℕ) → i < d → get_or x i 0 ≡ get_or y i 0)
      → (d < length x → d < length y → get_or x d 0 ≡ get_or y d 0 → ⊥) → first_difference x y ≡ d
  difference_only d h k a u = split_lt (first_difference x y) d
      (λ q. absurd (difference_unlike (omega arith) (omega arith) (a (first_difference x y) q)))
      (λ q. q)
      (λ q. absurd (u (omega (arith, difference_left)) (omega (arith, difference_right)) (difference_alike d q)))
