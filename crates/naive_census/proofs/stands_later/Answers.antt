-- `stands_later` scans what stands behind place i for the run there.
use mathlib.Core.Path.{◌≡◌, ◌∙◌, ap, ap₂}
use mathlib.Core.List.{List}
use Prim.Native.Nat.{ℕ, ◌+◌, ◌-◌}
use native.Mathlib.Omega.{arith}
use lib.ListN.{length, take, drop}
use lib.Dec.{ltb}
use Rattle.definitions.specs.Occurrences.{occurrences}
use Rattle.lists.specs.Lists.{tail_taken}
use Rattle.naive_census.proofs.stands_later.Goals as goal

pub returns : goal.returns
returns c =
    let a = c.args in
    let drive = a.drive.now in
    let size : a.i + a.q - a.i ≡ a.q = omega arith in
    ap (ltb 0)
    (c.scan.ensures.value
    ∙ ap₂ {C = ℕ} (λ (x y : List ℕ). length (occurrences x y)) (ap (λ (n : ℕ). take n (drop a.i drive)) size) (tail_taken drive (a.i + 1)))
