-- Comparing two strings symbol by symbol: while symbols agree, or blocks of them do, the rest decides; at a difference it does, and at an end the lengths do.
use mathlib.Core.Path.{◌≡◌, refl, sym, ◌∙◌, ap, ap₂}
use mathlib.Core.Bool.{Bool, false, ◌&&◌, ◌||◌, or-false}
use mathlib.Core.Logic.{◌⊎◌, inl, inr, ⊎_elim}
use mathlib.Core.List.{List, [], ◌∷◌}
use Prim.Native.Nat.{ℕ, zero, suc, ◌+◌, ◌-◌, ◌≤◌, ◌<◌, min}
use native.Mathlib.Omega.{arith}
use native.Mathlib.Nat.{le_refl, add-zero}
use native.Mathlib.Numerals.{add-one}
use lib.ListN.{length, take, drop, get_or, drop_of_length-le}
use lib.Seq.{drop-cons}
use lib.Dec.{ltb, eqb}
use borrow.Author.Tests.{lt-ltb, le-ltb, eq-eqb, ne_eqb}
use Rattle.definitions.specs.Words.{lexlt}
use Rattle.lists.specs.Numbers.{split_le}
use Rattle.lists.specs.Parts.{part, part_length, part_at, part_cons}

module _ (x y : List ℕ) (i : ℕ) (hx : i < length x) (hy : i < length y) where
  heads : lexlt (drop i x) (drop i y) ≡ ltb (get_or x i 0) (get_or y i 0) || (eqb (get_or x i 0) (get_or y i 0) && lexlt (drop (suc i) x) (drop (suc i) y))
  unfolding lexlt
  heads = rw (drop-cons x i 0, drop-cons y i 0)

  pub agree : get_or x i 0 ≡ get_or y i 0 → lexlt (drop i x) (drop i y) ≡ lexlt (drop (i + 1) x) (drop (i + 1) y)
  agree e =
      heads
      ∙ rw (le-ltb (get_or x i 0) (get_or y i 0) (omega arith), eq-eqb (get_or x i 0) (get_or y i 0) e, add-one)

  pub differ : (get_or x i 0 ≡ get_or y i 0 → ⊥) → lexlt (drop i x) (drop i y) ≡ ltb (get_or x i 0) (get_or y i 0)
  differ n = heads ∙ rw (ne_eqb (get_or x i 0) (get_or y i 0) n) (or-false (ltb (get_or x i 0) (get_or y i 0)))

-- at an end of either the shorter is smaller
pub ended : (x y : List ℕ) (i : ℕ) → i ≡ min (length x) (length y) → lexlt (drop i x) (drop i y) ≡ ltb (length x) (length y)
unfolding lexlt
ended x y i e = split_le (length y) (length x) second first
  where
    nothing : (z : List ℕ) → lexlt z [] ≡ false
    nothing [] = refl
    nothing (a ∷ z) = refl

    first : length x < length y → lexlt (drop i x) (drop i y) ≡ ltb (length x) (length y)
    first h =
        let k : i ≡ length x = omega arith in
        rw (k, drop_of_length-le x (le_refl (length x)), drop-cons y (length x) 0, lt-ltb (length x) (length y) h)

    second : length y ≤ length x → lexlt (drop i x) (drop i y) ≡ ltb (length x) (length y)
    second h =
        let k : i ≡ length y = omega arith in
        rw (k, drop_of_length-le y (le_refl (length y)), le-ltb (length x) (length y) h) (nothing (drop (length y) x))

-- a block that agrees
agree_front : (x y : List ℕ) (i n : ℕ) → i + n ≤ length x → i + n ≤ length y → ((k : ℕ) → k < n → get_or x (i + k) 0 ≡ get_or y (i + k) 0)
    → lexlt (drop i x) (drop i y) ≡ lexlt (drop (i + n) x) (drop (i + n) y)
agree_front x y i zero hx hy e = ap (λ (j : ℕ). lexlt (drop j x) (drop j y)) (sym (add-zero i))
agree_front x y i (suc n) hx hy e =
    let next : i + n + 1 ≡ i + suc n = omega arith in
    agree_front x y i n (omega arith) (omega arith) (λ k l. e k (omega arith))
    ∙ agree x y (i + n) (omega arith) (omega arith) (e n (omega arith))
    ∙ ap (λ (j : ℕ). lexlt (drop j x) (drop j y)) next

pub agree_block : (x y : List ℕ) (i n : ℕ) → i + n ≤ length x → i + n ≤ length y → take n (drop i x) ≡ take n (drop i y)
    → lexlt (drop i x) (drop i y) ≡ lexlt (drop (i + n) x) (drop (i + n) y)
unfolding part
agree_block x y i n hx hy e =
    agree_front x y i n hx hy (λ k l. sym (part_at i n x k 0 l) ∙ ap (λ (z : List ℕ). get_or z k 0) e ∙ part_at i n y k 0 l)

-- two words of s side by side: their first symbols decide, or else what follows these
module _ (s : List ℕ) (i j k : ℕ) (hi : i < j) (hk : 0 < k) (hs : j + k ≤ length s) where
  firsts : lexlt (part i (j - i) s) (part j k s) ≡ lexlt (get_or s i 0 ∷ part (i + 1) (j - (i + 1)) s) (get_or s j 0 ∷ part (j + 1) (j + k - (j + 1)) s)
  firsts =
      let u : j - i ≡ suc (j - (i + 1)) = omega arith in
      let v : k ≡ suc (j + k - (j + 1)) = omega arith in
      ap (λ (x : List ℕ). lexlt x (part j k s)) (ap (λ (n : ℕ). part i n s) u ∙ part_cons i (j - (i + 1)) s 0 (omega arith) ∙ rw add-one)
      ∙ ap (lexlt (get_or s i 0 ∷ part (i + 1) (j - (i + 1)) s)) (ap (λ (n : ℕ). part j n s) v ∙ part_cons j (j + k - (j + 1)) s 0 (omega arith) ∙ rw add-one)

  pub firsts_agree : get_or s i 0 ≡ get_or s j 0 → lexlt (part i (j - i) s) (part j k s) ≡ lexlt (part (i + 1) (j - (i + 1)) s) (part (j + 1) (j + k - (j + 1)) s)
  firsts_agree e = firsts ∙ agree (get_or s i 0 ∷ part (i + 1) (j - (i + 1)) s) (get_or s j 0 ∷ part (j + 1) (j + k - (j + 1)) s) 0 (omega arith) (omega arith) e

  pub firsts_differ : (get_or s i 0 ≡ get_or s j 0 → ⊥) → lexlt (part i (j - i) s) (part j k s) ≡ ltb (get_or s i 0) (get_or s j 0)
  firsts_differ n = firsts ∙ differ (get_or s i 0 ∷ part (i + 1) (j - (i + 1)) s) (get_or s j 0 ∷ part (j + 1) (j + k - (j + 1)) s) 0 (omega arith) (omega arith) n

  -- the first symbols agree, and one of the words ends
  ends : (j - (i + 1) ≡ 0) ⊎ (k ≡ 1) → get_or s i 0 ≡ get_or s j 0 → lexlt (part i (j - i) s) (part j k s) ≡ ltb (j - (i + 1)) (j + k - (j + 1))
  ends one e =
      let x = part (i + 1) (j - (i + 1)) s in
      let y = part (j + 1) (j + k - (j + 1)) s in
      let m = part_length (i + 1) (j - (i + 1)) s (omega arith) in
      let n = part_length (j + 1) (j + k - (j + 1)) s (omega arith) in
      firsts_agree e
      ∙ ended x y 0 (⊎_elim (λ q. omega arith) (λ q. omega arith) one)
      ∙ ap₂ {C = Bool} (λ a b. ltb a b) m n

  pub left_ends : i + 1 ≡ j → get_or s i 0 ≡ get_or s j 0 → lexlt (part i (j - i) s) (part j k s) ≡ ltb 1 k
  left_ends q e = ends (inl (omega arith)) e ∙ split_le k 1
      (λ l. le-ltb (j - (i + 1)) (j + k - (j + 1)) (omega arith) ∙ sym (le-ltb 1 k l))
      (λ l. lt-ltb (j - (i + 1)) (j + k - (j + 1)) (omega arith) ∙ sym (lt-ltb 1 k l))

  pub right_ends : k ≡ 1 → get_or s i 0 ≡ get_or s j 0 → lexlt (part i (j - i) s) (part j k s) ≡ false
  right_ends q e = ends (inr q) e ∙ le-ltb (j - (i + 1)) (j + k - (j + 1)) (omega arith)
