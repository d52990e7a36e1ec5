-- Placing the marked text: the ranks of the samples stand behind the first word, and then the mark is stored there.
use mathlib.Core.Path.{◌≡◌, sym, ◌∙◌, ap, ap₂}
use mathlib.Core.List.{List, [], ◌∷◌, ◌++◌, map, append-nil}
use Prim.Native.Nat.{ℕ, ◌≤◌, ◌<◌}
use native.Mathlib.Omega.{arith}
use lib.ListN.{length, take, drop, set, length-map, length-take, drop_of_length-le}
use Rattle.definitions.specs.declared.Order.{Order}
use Rattle.definitions.specs.Words.{placed}
use Rattle.definitions.specs.Table.{rank_of, marked}

pub placed_text : (o : Order) (text w z : List ℕ) (n : ℕ) → n ≡ length text → length text < length w → z ≡ placed (map (rank_of o) text) (take n (drop 1 w))
    → set (take 1 w ++ (z ++ drop n (drop 1 w))) 0 0 ≡ placed (marked o text) w
unfolding placed marked
placed_text o text [] z n e h f = absurd (omega arith)
placed_text o text (a ∷ w) z n e h f =
    let size = length-map text (rank_of o) in
    let most : length (take n w) ≤ length (map (rank_of o) text) = omega (arith, size, length-take n w) in
    let rest : drop (length (map (rank_of o) text)) (take n w) ≡ [] = drop_of_length-le (take n w) most in
    ap₂ {C = List ℕ} (λ x k. 0 ∷ (x ++ drop k w)) (f ∙ ap (λ (x : List ℕ). map (rank_of o) text ++ x) rest ∙ append-nil (map (rank_of o) text)) (e ∙ sym size)
