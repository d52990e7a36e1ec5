-- `test_cut` counts one test whatever comes of it.
use mathlib.Core.Path.{◌≡◌, refl, sym, ◌∙◌, ap}
use Prim.Native.Nat.{ℕ, ◌+◌, ◌-◌}
use native.Mathlib.Omega.{arith}
use Rattle.definitions.specs.Words.{same}
use Rattle.lists.specs.Bools.{cond_true, cond_false}
use Rattle.lists.specs.Parts.{part}
use Rattle.layout.specs.Layout.{PATTERN, PACK}
use Rattle.joins.proofs.test_cut.Goals.{After-straddles, then-straddles, else-straddles}
use Rattle.joins.proofs.test_cut.Goals as goal

-- what `straddles` answers
compared : (c : After-straddles) → let a = c.args in c.straddles.result ≡ same (part (a.join - a.c) a.m a.work.now) (part PATTERN a.m a.work.now)
compared c =
    let a = c.args in
    c.straddles.ensures ∙ ap (λ (i : ℕ). same (part (a.join - i) a.m a.work.now) (part PATTERN a.m a.work.now)) c.wide.ensures

pub straddles-requires : goal.straddles-requires
straddles-requires c =
    let h = c.requires.0 in
    let e = c.wide.ensures in
    (record { some = omega (arith, e, h.some); inside = omega (arith, e, h.inside); short = h.short; front = omega (arith, e, h.front); tail = omega (arith, e, h.tail) }, c.requires.1)

pub returns : goal.returns
returns c =
    let a = c.args in
    let k = compared (goal.at.returns c).After-straddles in
    let test = same (part (a.join - a.c) a.m a.work.now) (part PATTERN a.m a.work.now) in
    elim c.if-straddles.branch [
      | then-straddles w ↦ (w.found-is ∙ sym (cond_true test (PACK + a.c) a.before.found (sym k ∙ w.if-straddles.true)), refl)
      | else-straddles w ↦ (w.found-is ∙ sym (cond_false test (PACK + a.c) a.before.found (sym k ∙ w.if-straddles.false)), refl)
    ]
