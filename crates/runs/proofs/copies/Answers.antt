-- `copies` divides, unless less than a word is left over.
use Prim.Native.Nat.{◌<◌}
use native.Mathlib.Omega.{arith}
use native.Mathlib.Nat.{div-eq_of_lt, div-le_self}
use Rattle.runs.proofs.copies.Goals as goal

pub returns-then-more-word : goal.returns-then-more-word
returns-then-more-word c =
    let a = c.args in
    let h : a.more < a.word = omega (arith, c.if-more-word.true) in
    omega (arith, div-eq_of_lt h)

pub overflow_cast-result-3 : goal.overflow_cast-result-3
overflow_cast-result-3 c = omega (arith, c.requires, div-le_self c.args.more c.args.word)

pub overflow_add-result : goal.overflow_add-result
overflow_add-result c = omega (arith, c.requires, div-le_self c.args.more c.args.word)
