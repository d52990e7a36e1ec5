-- `floor_log2` counts the digits of m below its highest: 31 less the zeros above it (`leading_top`).
use mathlib.Core.Path.{◌≡◌, subst}
use Prim.Native.Nat.{ℕ, ◌-◌, ◌≤◌, ◌<◌}
use native.Mathlib.Omega.{arith}
use lib.Count.{count_leading_zeros, leading_top}
use Rattle.lyndon.specs.Listed.{Largest}
use Rattle.cuts.proofs.floor_log2.Goals as goal

zeros_most : (m : ℕ) → 0 < m → m ≤ 2047 → count_leading_zeros 32 m ≤ 31
zeros_most m h k = let (j, e, a, b) = leading_top 32 m h (omega arith) in omega (arith, e)

largest_power : (m : ℕ) → 0 < m → m ≤ 2047 → Largest m (31 - count_leading_zeros 32 m)
largest_power m h k =
    let (j, e, a, b) = leading_top 32 m h (omega arith) in
    let q : j ≡ 31 - count_leading_zeros 32 m = omega (arith, e) in
    subst (Largest m) q (a, b)

pub overflow_sub-result : goal.overflow_sub-result
overflow_sub-result c = zeros_most c.args.m c.requires.0 c.requires.1

pub returns : goal.returns
returns c = largest_power c.args.m c.requires.0 c.requires.1
