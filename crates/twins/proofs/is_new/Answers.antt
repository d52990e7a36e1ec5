-- `is_new` answers for a pair with the rule before it at once, for a mark by its place, and else by what the dictionary finds.
use mathlib.Core.Path.{◌≡◌, refl, sym, ◌∙◌, ap, subst}
use mathlib.Core.Bool.{Bool, true, not, not-not}
use Prim.Native.Nat.{ℕ}
use native.Mathlib.Omega.{arith}
use borrow.Author.Tests.{eqb-true, eq-eqb}
use Rattle.lists.specs.Bools.{contra}
use Rattle.lists.specs.Numbers.{split_le}
use Rattle.lyndon.specs.Twins.{is_new}
use Rattle.twins.proofs.Looking.{first_new, second_mark, not_new, left_before, right_before, looked_up}
use Rattle.twins.proofs.is_new.Goals.{then-x-r-via-then-x-r, then-x-r-via-else-x-r+then-y-r}
use Rattle.twins.proofs.is_new.Goals as goal

pub returns-then-x-r : goal.returns-then-x-r
returns-then-x-r c = (
  λ e. elim c.then-x-r.branch [
    | then-x-r-via-then-x-r w ↦ left_before c.requires.0 c.requires.1 w.if-x-r.true
    | then-x-r-via-else-x-r+then-y-r w ↦ right_before c.requires.0 c.requires.1 w.if-y-r.true
  ],
  λ e. contra refl e,
)

pub returns-then-x-eq0 : goal.returns-then-x-eq0
returns-then-x-eq0 c =
    let t = c.args.table.now in
    let r = c.args.r in (
      λ e. subst (λ (i : ℕ). is_new t i ≡ true) (sym (eqb-true r 0 e)) (first_new t),
      λ e. split_le r 0 (λ l. contra (eq-eqb r 0 (omega arith)) e) (λ l. second_mark c.requires.0 c.requires.1 l c.if-x-eq0.true),
    )

pub returns : goal.returns
returns c =
    let same = looked_up c.requires.0 c.requires.1 c.if-x-eq0.false c.find.result (c.find.ensures c.args.r c.requires.0.dict)
    ∙ ap (λ (b : Bool). not b) c.is_none.ensures ∙ not-not c.is_none.result in
    (λ e. same ∙ e, λ e. not_new c.requires.0 c.requires.1 (same ∙ e))
