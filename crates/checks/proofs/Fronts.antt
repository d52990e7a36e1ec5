-- The work slice: what is lent of its front, and cleared afterwards.
use mathlib.Core.Path.{◌≡◌, sym, ◌∙◌, ap, ap₂}
use mathlib.Core.List.{List, ◌++◌}
use Prim.Native.Nat.{ℕ, ◌≤◌}
use lib.ListN.{length, take, drop, replicate, length-replicate}
use lib.Seq.{drop_at, length-take-le}
use Rattle.definitions.specs.Words.{placed}
use Rattle.definitions.specs.Services.{cleared}
use Rattle.layout.specs.Layout.{WORK}

-- zeros in place of the first n words
front_zeros : (n : ℕ) (w z : List ℕ) → n ≤ length w → z ≡ replicate (length (take n w)) 0 → z ++ drop n w ≡ placed (replicate n 0) w
unfolding placed
front_zeros n w z h e =
    let zeros : z ≡ replicate n 0 = e ∙ ap (λ (k : ℕ). replicate k 0) (length-take-le n w h) in
    ap₂ {C = List ℕ} (λ a k. a ++ drop k w) zeros (sym (length-replicate {A = ℕ} n 0))

-- whatever they are replaced by before
zeros_placed : (n : ℕ) (w y : List ℕ) → n ≤ length w → length y ≡ length (take n w) → placed (replicate n 0) (y ++ drop n w) ≡ placed (replicate n 0) w
unfolding placed
zeros_placed n w y h e =
    let size : length y ≡ length (replicate {A = ℕ} n 0) = e ∙ length-take-le n w h ∙ sym (length-replicate {A = ℕ} n 0) in
    ap (λ (l : List ℕ). replicate n 0 ++ l) (drop_at y (drop n w) (length (replicate {A = ℕ} n 0)) size ∙ ap (λ (k : ℕ). drop k w) (sym (length-replicate {A = ℕ} n 0)))

-- the same of the 16,384 words that a service clears
pub front_cleared : (w z : List ℕ) → WORK ≤ length w → z ≡ replicate (length (take WORK w)) 0 → z ++ drop WORK w ≡ cleared w
unfolding cleared
front_cleared w z h e = front_zeros WORK w z h e

pub work_cleared : (w y z : List ℕ) → WORK ≤ length w → length y ≡ length (take WORK w) → z ≡ cleared (y ++ drop WORK w) → z ≡ cleared w
unfolding cleared
work_cleared w y z h e f = f ∙ zeros_placed WORK w y h e
