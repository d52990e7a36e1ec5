-- What reading answers, and what it leaves in a slice.
use Rattle.std.specs.Prelude.{ℕ, ◌<◌, List, length, take, Result, Ok, Err, IfOk, ◌≡◌, ◌≤◌}
use Rattle.std.proofs.Common.{subst}
use Rattle.std.specs.Io.KnownBytes.{Consumes, IsAtEnd}
use Rattle.std.specs.declared.option.Option.{Option}

-- what is answered once a read gave no byte, n bytes behind it: the read failed, where it answered an error, or the input ended there
unfoldable pub answer_at : {E : Type 0} → Result ℕ E → ℕ → Result ℕ E
answer_at (Ok k) n = Ok n
answer_at (Err e) n = Err e

-- a slice begins with the n bytes that were read, and they are the first that a reader had left, where those are known; fewer than the slice has are all that were left
abbrev pub HasRead : Option (List ℕ) → Option (List ℕ) → List ℕ → ℕ → Type 0
HasRead old new input n = Consumes old new (take n input) × (n < length input → IsAtEnd new)

-- what is read fits
pub read_fits : {E : Type 0} (x : Result ℕ E) (n size : ℕ) → IfOk x (λ k. k ≤ size) → x ≡ Ok n → n ≤ size
read_fits {E} x n size h e = subst (λ (y : Result ℕ E). IfOk y (λ k. k ≤ size)) e h
