-- Where none of the checks before the last is met, the table is in shape and the work slice is long enough (`passed_shaped`).
use mathlib.Core.Path.{◌≡◌, refl}
use mathlib.Core.Bool.{Bool, true, false, ◌||◌}
use mathlib.Core.List.{List}
use Prim.Native.Nat.{ℕ, ◌*◌, ◌/◌, ◌%◌, ◌≤◌, ◌<◌}
use native.Mathlib.Omega.{arith}
use lib.ListN.{length}
use lib.Dec.{ltb, eqb}
use borrow.Author.Tests.{ltb-false, eqb-false}
use Rattle.definitions.specs.Words.{least}
use Rattle.definitions.specs.Table.{bad_word}
use Rattle.definitions.specs.Services.{work_too_short, table_length, has_bad_word}
use Rattle.lists.specs.Bools.{contra}
use Rattle.lists.specs.Numbers.{least_before}
use Rattle.lyndon.specs.Shapes.{Shaped}
use Rattle.layout.specs.Layout.{WORK}

or_none : (a b : Bool) → a || b ≡ false → (a ≡ false) × (b ≡ false)
or_none true b e = contra refl e
or_none false b e = (refl, e)

pub length_passed : (n : ℕ) → (table_length n).met ≡ false → (0 < n) × (n ≡ 2 * (n / 2)) × (n ≤ 4608)
length_passed n e =
    let (a, f) = or_none (eqb n 0) (eqb (n % 2) 1 || ltb 4608 n) e in
    let (b, c) = or_none (eqb (n % 2) 1) (ltb 4608 n) f in
    let x : n ≡ 0 → ⊥ = eqb-false n 0 a in
    let y : n % 2 ≡ 1 → ⊥ = eqb-false (n % 2) 1 b in
    let z = ltb-false 4608 n c in
    (omega arith, omega arith, z)

pub passed_shaped : (t work : List ℕ) → (work_too_short (length work)).met ≡ false → (table_length (length t)).met ≡ false → (has_bad_word t).met ≡ false
    → Shaped t × (length t ≤ 4608) × (WORK ≤ length work)
passed_shaped t work e f g =
    let (filled, even, most) = length_passed (length t) f in
    let all = ltb-false (least (bad_word t) (length t)) (length t) g in
    (record { good = λ i h. least_before (bad_word t) (length t) i (omega arith); even = even; filled = filled }, most, ltb-false (length work) WORK e)
