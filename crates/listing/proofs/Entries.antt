-- Entries written behind the first n of a slice: from the start on they are `placed`; none, and one by a store; and a list in two parts, the second written behind
-- the first (`from_both`).
use mathlib.Core.Path.{◌≡◌, refl, sym, ◌∙◌, ap, ap₂}
use mathlib.Core.List.{List, [], ◌∷◌, ◌++◌, append_assoc}
use Prim.Native.Nat.{ℕ, zero, suc, ◌+◌, ◌≤◌, ◌<◌}
use native.Mathlib.Omega.{arith}
use native.Mathlib.Numerals.{add-one}
use lib.ListN.{length, take, drop, set, length-append}
use lib.Seq.{set_split, drop-drop, take_at, drop_at, length-take-le}
use Rattle.definitions.specs.Words.{placed}
use Rattle.listing.specs.Listing.{placed_from}

pub from_start : (l old : List ℕ) → placed_from 0 l old ≡ placed l old
unfolding placed_from
from_start l old = refl

pub from_none : (n : ℕ) (old : List ℕ) → placed_from n [] old ≡ old
unfolding placed_from placed
from_none zero old = refl
from_none (suc n) [] = refl
from_none (suc n) (a ∷ old) = ap (λ (l : List ℕ). a ∷ l) (from_none n old)

pub from_one_lem : (n : ℕ) (old : List ℕ) (x : ℕ) → n < length old → set old n x ≡ placed_from n (x ∷ []) old
unfolding placed_from placed
from_one_lem n old x h = set_split old n x h ∙ ap (λ (l : List ℕ). take n old ++ (x ∷ l)) (ap (λ (k : ℕ). drop k old) (sym (add-one n)) ∙ sym (drop-drop 1 n old))

module _ (n : ℕ) (x old : List ℕ) (fits : n + length x ≤ length old) where
  front : length (take n old) ≡ n
  front = length-take-le n old (omega arith)

  -- what is before and behind
  split : placed_from n x old ≡ (take n old ++ x) ++ drop (length x) (drop n old)
  unfolding placed_from placed
  split = sym (append_assoc (take n old) x (drop (length x) (drop n old)))

  size : length (take n old ++ x) ≡ n + length x
  size = length-append (take n old) x ∙ ap (λ (k : ℕ). k + length x) front

  pub from_both : (y : List ℕ) (m : ℕ) → m ≡ n + length x → placed_from m y (placed_from n x old) ≡ placed_from n (x ++ y) old
  unfolding placed_from placed
  from_both y m e =
      let behind : List ℕ = drop (length x) (drop n old) in
      ap₂ {C = List ℕ} (λ a b. a ++ (y ++ drop (length y) b))
      (ap (take m) split ∙ take_at (take n old ++ x) behind m (size ∙ sym e))
      (ap (drop m) split ∙ drop_at (take n old ++ x) behind m (size ∙ sym e))
      ∙ append_assoc (take n old) x (y ++ drop (length y) behind)
      ∙ ap (λ (l : List ℕ). take n old ++ l)
      (sym (append_assoc x y (drop (length y) behind))
      ∙ ap (λ (l : List ℕ). (x ++ y) ++ l) (drop-drop (length y) (length x) (drop n old) ∙ ap (λ (k : ℕ). drop k (drop n old)) (sym (length-append x y))))
