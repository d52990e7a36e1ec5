-- `write_rule` leaves a rule that stands there; another is copied, the first word and then the others.
use mathlib.Core.Path.{◌≡◌, sym, ◌∙◌, ap}
use Prim.Native.Nat.{ℕ, suc, ◌-◌}
use native.Mathlib.Omega.{arith}
use Rattle.layout.specs.Layout.{length_in, place_in}
use Rattle.filling.specs.Filling.{copied}
use Rattle.filling.proofs.Copies.{copied_same, copied_one, copied_first}
use Rattle.filling.proofs.write_rule.Goals as goal

pub returns-then-from-to : goal.returns-then-from-to
returns-then-from-to c =
    let a = c.args in
    let from = place_in a.work.now a.q in
    let n = length_in a.work.now a.q in
    sym (ap (λ (i : ℕ). copied a.work.now from i n) (sym c.if-from-to.true) ∙ copied_same a.work.now from n)

pub returns-then-n-eq1 : goal.returns-then-n-eq1
returns-then-n-eq1 c =
    let a = c.args in
    let from = place_in a.work.now a.q in
    copied_one a.work.now from a.to ∙ ap (copied a.work.now from a.to) (sym c.if-n-eq1.true)

pub returns : goal.returns
returns c =
    let a = c.args in
    let from = place_in a.work.now a.q in
    let n = length_in a.work.now a.q in
    let size : suc (n - 1) ≡ n = omega (arith, c.requires.filled) in
    c.copy_within.ensures ∙ copied_first a.work.now from a.to (n - 1) ∙ ap (copied a.work.now from a.to) size
