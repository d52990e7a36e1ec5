-- `drive_start` steps over the first byte, where there is one.
use mathlib.Core.Path.{◌≡◌}
use mathlib.Core.List.{List, [], ◌∷◌}
use Prim.Native.Nat.{ℕ, ◌≤◌, min}
use native.Mathlib.Omega.{arith}
use lib.ListN.{length, drop}
use Rattle.definitions.specs.Programs.{census_drive}
use Rattle.census_output.proofs.drive_start.Goals as goal

behind : (input : List ℕ) (n : ℕ) → n ≡ min (length input) 1 → (n ≤ length input) × (drop n input ≡ drop 1 input)
behind [] n e = let none : n ≡ 0 = omega arith in (omega arith, rw none)
behind (b ∷ input) n e = let one : n ≡ 1 = omega arith in (omega arith, rw one)

pub returns : goal.returns
unfolding census_drive
returns c = behind c.args.input.now c.min.result c.min.ensures
