-- Samples of strings of ranks: those of two strings in a row (`samples_append`), and of ranks without the mark (`samples_ranks`).
use mathlib.Core.Path.{◌≡◌, refl, ◌∙◌, ap}
use mathlib.Core.List.{List, [], ◌∷◌, ◌++◌, map}
use Prim.Native.Nat.{ℕ, zero, suc, ◌<◌}
use native.Mathlib.Omega.{arith}
use Rattle.definitions.specs.declared.Order.{Order}
use Rattle.definitions.specs.Table.{byte_of}
use Rattle.spelling.specs.Spelling.{samples, Ranks}

-- ---- samples of strings

pub samples_append : (o : Order) (x y : List ℕ) → samples o (x ++ y) ≡ samples o x ++ samples o y
unfolding samples
samples_append o [] y = refl
samples_append o (zero ∷ x) y = samples_append o x y
samples_append o (suc r ∷ x) y = ap (λ (l : List ℕ). byte_of o (suc r) ∷ l) (samples_append o x y)

samples_cons : (o : Order) (r : ℕ) (s : List ℕ) → 0 < r → samples o (r ∷ s) ≡ byte_of o r ∷ samples o s
unfolding samples
samples_cons o zero s h = absurd (omega arith)
samples_cons o (suc r) s h = refl

pub samples_ranks : (o : Order) (s : List ℕ) → Ranks s → samples o s ≡ map (byte_of o) s
unfolding samples
samples_ranks o [] h = refl
samples_ranks o (r ∷ s) h =
    samples_cons o r s (h 0 (omega arith)).0
    ∙ ap (λ (l : List ℕ). byte_of o r ∷ l) (samples_ranks o s (λ i k. h (suc i) (omega arith)))
