-- A list read back from the front of a slice where it was written (`listed_front`, `listed_fits`), and delivered in its place (`listed_served`).
use mathlib.Core.Path.{◌≡◌, ◌∙◌, ap, subst}
use mathlib.Core.List.{List, []}
use Prim.Native.Nat.{ℕ, ◌-◌, ◌≤◌}
use native.Mathlib.Omega.{arith}
use lib.ListN.{length, take, drop, length-append}
use Rattle.definitions.specs.Words.{placed}
use Rattle.definitions.specs.Services.{Outcome, Serves, writes_both}
use Rattle.lists.specs.Lists.{placed_front}

module _ (l old w : List ℕ) (n : ℕ) (e : n ≡ length l) (f : w ≡ placed l old) where
  pub listed_front : take (n - 0) w ≡ l
  listed_front =
      let size : n - 0 ≡ length l = omega arith in
      ap (λ (k : ℕ). take k w) size ∙ ap (take (length l)) f ∙ placed_front l old

  pub listed_fits : n ≤ length w
  unfolding placed
  listed_fits = omega (arith, ap length f, length-append l (drop (length l) old))

pub listed_served : {l k l' k' old other : List ℕ} {A : Outcome → Type 0} {held : List (List ℕ)} → l ≡ l' → k ≡ k'
    → Serves (writes_both [] l k old other) A held → Serves (writes_both [] l' k' old other) A held
listed_served {l} {k} {l'} {k'} {old} {other} {A} {held} e f v =
    subst (λ (x : List ℕ). Serves (writes_both [] l' x old other) A held) f (subst (λ (x : List ℕ). Serves (writes_both [] x k old other) A held) e v)
