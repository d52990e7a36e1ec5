-- How long lines are, and how they are written: a name and a number behind it; lines, and numbers with a space behind each, turn by turn.
use mathlib.Core.Path.{◌≡◌, refl, ◌∙◌, ap}
use mathlib.Core.List.{List, [], ◌∷◌, ◌++◌, append_assoc}
use Prim.Native.Nat.{ℕ, ◌+◌, ◌-◌, ◌*◌, ◌≤◌, ◌<◌}
use native.Mathlib.Omega.{arith}
use lib.ListN.{length, take, drop, get_or, length-append}
use Rattle.definitions.specs.Words.{placed}
use Rattle.definitions.specs.Programs.{decimal, line, named, lines_of, spaced}
use Rattle.decimals.proofs.Digits.{line_most, decimal_most}
use Rattle.lines.specs.Turns.{turns}
use Rattle.lines.proofs.Turns.{turns_first, turns_most, both_stored}

pub named_most : (name : List ℕ) (n : ℕ) → length (named name n) ≤ length name + 11
unfolding named
named_most name n = omega (arith, length-append name (line (decimal n)), line_most n)

-- ---- lines and spaced numbers, turn by turn

-- the line that f gives of the entry at each index of a list
abbrev pub line_at : (ℕ → List ℕ) → List ℕ → ℕ → List ℕ
line_at f l = λ i. line (f (get_or l i 0))

pub lines_turns : (f : ℕ → List ℕ) (l : List ℕ) → turns (line_at f l) (length l) ≡ lines_of f l
unfolding turns lines_of
lines_turns f [] = refl
lines_turns f (n ∷ l) = turns_first (line_at f (n ∷ l)) (length l) ∙ ap (λ (r : List ℕ). line (f n) ++ r) (lines_turns f l)

-- at most k bytes a line
pub lines_most : (f : ℕ → List ℕ) (k : ℕ) → ((n : ℕ) → length (line (f n)) ≤ k) → (l : List ℕ) → length (lines_of f l) ≤ k * length l
lines_most f k h l = omega (arith, turns_most (line_at f l) k (length l) (λ i m. h (get_or l i 0)), ap length (lines_turns f l))

pub decimals_most : (l : List ℕ) → length (lines_of decimal l) ≤ 11 * length l
decimals_most l = lines_most decimal 11 line_most l

-- the number at each index of a list, with a space behind it
abbrev pub spaced_at : List ℕ → ℕ → List ℕ
spaced_at l = λ i. decimal (get_or l i 0) ++ (32 ∷ [])

pub spaced_turns : (l : List ℕ) → turns (spaced_at l) (length l) ≡ spaced l
unfolding turns spaced
spaced_turns [] = refl
spaced_turns (n ∷ l) =
    turns_first (spaced_at (n ∷ l)) (length l)
    ∙ append_assoc (decimal n) (32 ∷ []) (turns (spaced_at l) (length l))
    ∙ ap (λ (r : List ℕ). decimal n ++ (32 ∷ r)) (spaced_turns l)

-- a byte has at most three digits, and a space
pub byte_most : (n : ℕ) → n < 256 → length (decimal n ++ (32 ∷ [])) ≤ 4
byte_most n h = omega (arith, length-append (decimal n) (32 ∷ []), decimal_most 2 n (omega arith))

pub spaced_most : (l : List ℕ) → ((i : ℕ) → i < length l → get_or l i 0 < 256) → length (spaced l) ≤ 4 * length l
spaced_most l h = omega (arith, turns_most (spaced_at l) 4 (length l) (λ i m. byte_most (get_or l i 0) (h i m)), ap length (spaced_turns l))

-- ---- what the functions leave

pub named_stored : (name : List ℕ) (number : ℕ) (old : List ℕ) (n m : ℕ) (w z : List ℕ) → length name + 11 ≤ length old
    → n ≡ length name → w ≡ placed name old → m ≡ length (line (decimal number)) → z ≡ placed (line (decimal number)) (take (length w - n) (drop n w))
    → (n + m ≡ length (named name number)) × (take n w ++ (z ++ drop (length w - n) (drop n w)) ≡ placed (named name number) old)
unfolding named
named_stored name number old n m w z h e f g i =
    both_stored name (line (decimal number)) old w z n m (omega (arith, line_most number)) e f g i
