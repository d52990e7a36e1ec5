-- `is_prefix` compares bytes, and equal bytes have equal ranks.
use mathlib.Core.Path.{◌∙◌}
use native.Mathlib.Omega.{arith}
use Rattle.naive.proofs.Scanning.{starts_begins}
use Rattle.naive_cuts.proofs.Cutting.{ranks_begin}
use Rattle.naive_cuts.proofs.is_prefix.Goals as goal

pub returns : goal.returns
returns c =
    let a = c.args in
    c.starts_with.ensures.value ∙ starts_begins a.x.now a.y.now ∙ ranks_begin a.x.now a.y.now (λ i. omega (arith, c.type_inv.x i)) (λ i. omega (arith, c.type_inv.y i))
