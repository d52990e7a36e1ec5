-- Of an input of 2,048 bytes or more so many are read, and the same is printed (`read_enough`).
use mathlib.Core.Path.{◌≡◌}
use mathlib.Core.List.{List}
use Prim.Native.Nat.{ℕ, ◌<◌}
use native.Mathlib.Omega.{arith}
use lib.ListN.{length, take, length-take}
use borrow.Author.Tests.{lt-ltb}
use Rattle.definitions.specs.Services.{first_met, drive_checks}
use Rattle.definitions.specs.Programs.{refused_line, printed, desk_output}

pub read_enough : (input : List ℕ) → 2047 < length input → desk_output (take 2048 input) ≡ desk_output input
unfolding desk_output drive_checks printed first_met refused_line
read_enough input h = rw (lt-ltb 2047 (length input) h, lt-ltb 2047 (length (take 2048 input)) (simp length-take (omega arith)))
