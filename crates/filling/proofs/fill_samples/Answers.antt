-- `fill_samples` goes up from rule 1. The invariant: the rules before r are written, and their halves are in order.
use mathlib.Core.Path.{◌≡◌, refl, subst}
use Prim.Native.Nat.{ℕ}
use native.Mathlib.Omega.{arith}
use Rattle.definitions.specs.Table.{rule_count}
use Rattle.lists.specs.Bools.{contra}
use Rattle.filling.specs.Filling.{Filling}
use Rattle.filling.proofs.fill_samples.Goals as goal

pub fill_rule-requires : goal.fill_rule-requires
fill_rule-requires c = (c.loop-r.invariant, omega arith, c.requires.1.samples c.loop-r.r (omega arith) (omega arith))

pub returns : goal.returns
returns c =
    let a = c.args in
    let shaped = c.requires.0.placed.sized.lent.shaped in
    let z : c.loop-r.r ≡ rule_count a.table.now = omega (arith, shaped.even, shaped.filled) in
    (λ e. subst (λ (n : ℕ). Filling a.order a.table.now n c.loop-r.work) z c.loop-r.invariant, λ e. contra refl e)
