-- Cuts that are written one behind the other at the front of a slice.
use Rattle.std.specs.Prelude.{◌≡◌, List, ◌++◌, ℕ, ◌+◌, ◌≤◌, length}
use Rattle.definitions.specs.Words.{placed}

-- v is w with the cuts l behind the n that stand at its front, whatever they are; m stand there then
abbrev pub Appended : List ℕ → ℕ → ℕ → List ℕ → List ℕ → Type 0
Appended l n m w v =
    (front old : List ℕ) → w ≡ placed front old → n ≡ length front → length front + length l ≤ length old
    → (v ≡ placed (front ++ l) old) × (m ≡ length (front ++ l))
