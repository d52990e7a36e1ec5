-- Scanning: a text begins with a pattern in the library's words and in those of the definitions (`starts_begins`); the places at which the pattern begins
-- are its occurrences once all are passed (`all_noted`).
use mathlib.Core.Path.{◌≡◌, refl, ap}
use mathlib.Core.Bool.{Bool, ◌&&◌}
use mathlib.Core.List.{List, [], ◌∷◌}
use Prim.Native.Nat.{ℕ, ◌+◌, ◌-◌}
use native.Mathlib.Numerals.{add-one}
use lib.ListN.{length, take, drop}
use lib.Dec.{eqb}
use Rattle.std.specs.List.{starts_with}
use Rattle.definitions.specs.Words.{below, begins}
use Rattle.definitions.specs.Occurrences.{occurrences}
use Rattle.lists.specs.Lists.{tail_taken}

pub starts_begins : (p s : List ℕ) → starts_with eqb s p ≡ begins p s
unfolding begins
starts_begins [] s = refl
starts_begins (a ∷ p) [] = refl
starts_begins (a ∷ p) (b ∷ s) = ap (λ (x : Bool). eqb a b && x) (starts_begins p s)

-- whether p begins at a place of s
abbrev pub begins_in : List ℕ → List ℕ → ℕ → Bool
begins_in p s = λ j. begins p (drop j s)

-- as code tests it
pub begins_here : (p s : List ℕ) (i : ℕ) → begins_in p s i ≡ starts_with eqb (take (length s - i) (drop i s)) p
begins_here p s i = rw (tail_taken s i, starts_begins)

pub all_noted : (p s : List ℕ) → below (begins_in p s) (length s + 1) ≡ occurrences p s
unfolding occurrences
all_noted p s = ap (below (begins_in p s)) (add-one (length s))
