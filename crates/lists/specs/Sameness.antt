-- Comparing two strings symbol by symbol: they are the same where the symbols passed agree and the rest is the same; and part by part.
use Rattle.std.specs.Prelude.{◌≡◌, refl, Bool, true, false, ◌&&◌, List, ◌++◌, ℕ, suc, ◌+◌, ◌-◌, ◌≤◌, ◌<◌, length, take, drop, get_or, eqb}
use Rattle.std.proofs.Common.{sym, ◌∙◌, ap, ap₂, subst, arith, le_of_eq, add-one, take-add, take-take, take_all, eq-eqb, ne_eqb}
use Rattle.std.proofs.Math.ListN.{drop_of_length-le}
use Rattle.std.proofs.Math.Seq.{drop-cons}
use Rattle.definitions.specs.Words.{same}
use Rattle.lists.specs.Bools.{contra, bool_ext, not_so}
use Rattle.lists.specs.Strings.{same_eq, eq_same}

module _ (x y : List ℕ) (i : ℕ) (hx : i < length x) (hy : i < length y) where
  heads : same (drop i x) (drop i y) ≡ eqb (get_or x i 0) (get_or y i 0) && same (drop (suc i) x) (drop (suc i) y)
  unfolding same
  heads = rw (drop-cons x i 0, drop-cons y i 0)

  -- a loop that leaves at the first difference
  pub agree : get_or x i 0 ≡ get_or y i 0 → same (drop i x) (drop i y) ≡ same (drop (i + 1) x) (drop (i + 1) y)
  agree e = heads ∙ rw (eq-eqb (get_or x i 0) (get_or y i 0) e, add-one)

  pub differ : (get_or x i 0 ≡ get_or y i 0 → ⊥) → same (drop i x) (drop i y) ≡ false
  differ n = heads ∙ rw (ne_eqb (get_or x i 0) (get_or y i 0) n)

  -- a loop that goes to the end, whether b holds of what it has passed
  pub passed : (b : Bool) → b && same (drop i x) (drop i y) ≡ (b && eqb (get_or x i 0) (get_or y i 0)) && same (drop (i + 1) x) (drop (i + 1) y)
  passed true = heads ∙ rw add-one
  passed false = refl

module _ (x y : List ℕ) (i : ℕ) (e : i ≡ length x) (f : i ≡ length y) where
  pub ended : same (drop i x) (drop i y) ≡ true
  unfolding same
  ended = rw (drop_of_length-le x (le_of_eq (sym e)), drop_of_length-le y (le_of_eq (sym f)))

  pub all_passed : (b : Bool) → b && same (drop i x) (drop i y) ≡ b
  all_passed true = ended
  all_passed false = refl

pub unequal : (x y : List ℕ) → (length x ≡ length y → ⊥) → same x y ≡ false
unequal x y n = not_so (same x y) (λ e. n (ap length (same_eq x y e)))

-- ---- a part at a time

module _ (x y : List ℕ) where
  pub part_unequal : (o n : ℕ) → same (take n (drop o x)) (take n (drop o y)) ≡ false → same x y ≡ false
  part_unequal o n e = not_so (same x y) (λ q. contra (eq_same (take n (drop o x)) (take n (drop o y)) (ap (λ (z : List ℕ). take n (drop o z)) (same_eq x y q))) e)

  -- k symbols from o on, as code takes them, found the same
  pub block_equal : (o k : ℕ) {b : Bool} → b ≡ same (take (o + k - o) (drop o x)) (take (o + k - o) (drop o y)) → b ≡ true → take k (drop o x) ≡ take k (drop o y)
  block_equal o k e f =
      let n : o + k - o ≡ k = omega arith in
      subst (λ (m : ℕ). take m (drop o x) ≡ take m (drop o y)) n (same_eq (take (o + k - o) (drop o x)) (take (o + k - o) (drop o y)) (sym e ∙ f))

  -- the first i symbols are the same, and n from o on, which is among them
  pub parts_equal : (i o n : ℕ) → o ≤ i → take i x ≡ take i y → take n (drop o x) ≡ take n (drop o y) → take (o + n) x ≡ take (o + n) y
  parts_equal i o n h e f =
      take-add o n x
      ∙ ap₂ {C = List ℕ} (λ a b. a ++ b) (sym (take-take o i x h) ∙ ap (take o) e ∙ take-take o i y h) f
      ∙ sym (take-add o n y)

  -- so where they are the last ones they decide
  pub last_decides : (i o n : ℕ) → o ≤ i → take i x ≡ take i y → o + n ≡ length x → length x ≡ length y → same x y ≡ same (take n (drop o x)) (take n (drop o y))
  last_decides i o n h e l k =
      bool_ext (same x y) (same (take n (drop o x)) (take n (drop o y)))
      (λ q. eq_same (take n (drop o x)) (take n (drop o y)) (ap (λ (z : List ℕ). take n (drop o z)) (same_eq x y q)))
      (λ q. eq_same x y
      (sym (take_all (o + n) x (omega arith)) ∙ parts_equal i o n h e (same_eq (take n (drop o x)) (take n (drop o y)) q) ∙ take_all (o + n) y (omega arith)))
