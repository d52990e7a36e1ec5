-- Words copied one after another: from the first on (`copied_first`), onto themselves (`copied_same`); and where every word is the one that another list has at
-- its new place, what is filled with that list stays so (`copied_keeps`), and the copy is filled (`copied_fills`).
use mathlib.Core.Path.{◌≡◌, refl, sym, ◌∙◌, ap, ap₂, subst}
use mathlib.Core.List.{List}
use Prim.Native.Nat.{ℕ, zero, suc, ◌+◌, ◌≤◌, ◌<◌}
use native.Mathlib.Omega.{arith}
use native.Mathlib.Nat.{add-zero}
use native.Mathlib.Numerals.{add-one}
use lib.ListN.{length, get_or, set, length-set}
use lib.Seq.{set-get_or, get_or-set_other}
use Rattle.lists.specs.Parts.{Filled, filled_none, filled_set, filled_more, filled_at}
use Rattle.filling.specs.Filling.{copied}

pub copied_length : (w : List ℕ) (from to n : ℕ) → length (copied w from to n) ≡ length w
unfolding copied
copied_length w from to zero = refl
copied_length w from to (suc n) = simp length-set (copied_length w from to n)

pub copied_none : (w : List ℕ) (from to : ℕ) → w ≡ copied w from to 0
unfolding copied
copied_none w from to = refl

pub copied_more : (w x : List ℕ) (from to n : ℕ) → x ≡ copied w from to n → set x (to + n) (get_or x (from + n) 0) ≡ copied w from to (n + 1)
unfolding copied
copied_more w x from to n e = ap (λ (v : List ℕ). set v (to + n) (get_or v (from + n) 0)) e ∙ ap (copied w from to) (sym (add-one n))

-- the first word, and then the others
pub copied_first : (w : List ℕ) (from to n : ℕ) → copied (set w to (get_or w from 0)) (from + 1) (to + 1) n ≡ copied w from to (suc n)
unfolding copied
copied_first w from to zero = ap₂ {C = List ℕ} (λ i j. set w i (get_or w j 0)) (sym (add-zero to)) (sym (add-zero from))
copied_first w from to (suc n) =
    let i : to + 1 + n ≡ to + suc n = omega arith in
    let j : from + 1 + n ≡ from + suc n = omega arith in
    ap (λ (v : List ℕ). set v (to + 1 + n) (get_or v (from + 1 + n) 0)) (copied_first w from to n)
    ∙ ap₂ {C = List ℕ} (λ a b. set (copied w from to (suc n)) a (get_or (copied w from to (suc n)) b 0)) i j

pub copied_one : (w : List ℕ) (from to : ℕ) → set w to (get_or w from 0) ≡ copied w from to 1
unfolding copied
copied_one w from to = ap₂ {C = List ℕ} (λ i j. set w i (get_or w j 0)) (sym (add-zero to)) (sym (add-zero from))

pub copied_same : (w : List ℕ) (from n : ℕ) → copied w from from n ≡ w
unfolding copied
copied_same w from zero = refl
copied_same w from (suc n) = set-get_or (copied w from from n) (from + n) 0 ∙ copied_same w from n

-- words behind the copy stay
pub copied_behind : (w : List ℕ) (from to n m i : ℕ) → to + n ≤ m → m ≤ i → get_or (copied w from to n) i 0 ≡ get_or w i 0
unfolding copied
copied_behind w from to zero m i h l = refl
copied_behind w from to (suc n) m i h l =
    get_or-set_other (copied w from to n) (to + n) i (get_or (copied w from to n) (from + n) 0) 0 (λ e. omega arith)
    ∙ copied_behind w from to n m i (omega arith) l

-- ---- words that are right at their new place

module _ (s w : List ℕ) (from to n : ℕ) (right : (i : ℕ) → i < n → get_or s (from + i) 0 ≡ get_or s (to + i) 0) (source : Filled s w from n) where
  keeps_front : (k : ℕ) → k ≤ n → (a m : ℕ) → Filled s w a m → Filled s (copied w from to k) a m
  unfolding copied
  keeps_front zero l a m f = f
  keeps_front (suc k) l a m f =
      let v = copied w from to k in
      filled_set s v a m (to + k) (get_or v (from + k) 0) 0 (filled_at s v from n k 0 (keeps_front k (omega arith) from n source) (omega arith) ∙ right k (omega arith)) (keeps_front k (omega arith) a m f)

  fills_front : (k : ℕ) → k ≤ n → to + n ≤ length w → to + n ≤ length s → Filled s (copied w from to k) to k
  unfolding copied
  fills_front zero l h g = filled_none s w to
  fills_front (suc k) l h g =
      let v = copied w from to k in
      let size = copied_length w from to k in
      subst (λ (i : ℕ). Filled s (set v (to + k) (get_or v (from + k) 0)) to i) (add-one k)
      (filled_more s v to k (get_or v (from + k) 0) 0 (omega arith) (omega arith) (filled_at s v from n k 0 (keeps_front k (omega arith) from n source) (omega arith) ∙ right k (omega arith)) (fills_front k (omega arith) h g))

  pub copied_keeps : (a m : ℕ) → Filled s w a m → Filled s (copied w from to n) a m
  copied_keeps a m f = keeps_front n (omega arith) a m f

  pub copied_fills : to + n ≤ length w → to + n ≤ length s → Filled s (copied w from to n) to n
  copied_fills h g = fills_front n (omega arith) h g
