-- `run_of` places the run: its whole copies end inside it.
use mathlib.Core.Path.{◌≡◌, refl, ap}
use Prim.Native.Nat.{ℕ, ◌+◌, ◌*◌, ◌/◌}
use native.Mathlib.Omega.{arith}
use Rattle.runs.proofs.WholeCopies.{copies_end}
use Rattle.runs.proofs.run_of.Goals as goal

pub overflow_mul-result : goal.overflow_mul-result
overflow_mul-result c =
    let a = c.args in
    let e : c.copies.result * a.word ≡ (1 + a.more / a.word) * a.word = ap (λ (k : ℕ). k * a.word) c.copies.ensures in
    omega (arith, e, c.requires, copies_end a.word a.more c.requires.0)

pub overflow_add-result-4 : goal.overflow_add-result-4
overflow_add-result-4 c =
    let a = c.args in
    let e : c.copies.result * a.word ≡ (1 + a.more / a.word) * a.word = ap (λ (k : ℕ). k * a.word) c.copies.ensures in
    omega (arith, e, c.requires, copies_end a.word a.more c.requires.0)

pub returns : goal.returns
returns c = let a = c.args in (refl, refl, refl, ap (λ (k : ℕ). a.start + k * a.word) c.copies.ensures)
