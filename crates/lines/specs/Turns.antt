-- What a loop writes, turn by turn: what f gives of each number below n, one behind the other.
use Rattle.std.specs.Prelude.{List, [], ◌++◌, ℕ, zero, suc}

unfoldable pub turns : (ℕ → List ℕ) → ℕ → List ℕ
turns f zero = []
turns f (suc n) = turns f n ++ f n
