-- `enter` leaves a rule that was met before, and stores the entry and the place of another.
use mathlib.Core.Path.{sym, ◌∙◌}
use Prim.Native.Nat.{◌≤◌}
use native.Mathlib.Omega.{arith}
use native.Mathlib.Numerals.{add-one}
use Rattle.lyndon.specs.Meeting.{after_old, after_new}
use Rattle.entries.proofs.Stores.{entered_old, entered_new}
use Rattle.entries.proofs.enter.Goals as goal

pub returns-then-q-e : goal.returns-then-q-e
returns-then-q-e c =
    let a = c.args in
    (sym (after_old a.e a.q c.if-q-e.true), sym (entered_old a.work.now a.e a.q a.place c.if-q-e.true))

pub returns : goal.returns
returns c =
    let a = c.args in
    let h : a.e ≤ a.q = omega arith in
    (add-one a.q ∙ sym (after_new a.e a.q h), sym (entered_new a.work.now a.e a.q a.place h))
