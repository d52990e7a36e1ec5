-- `equal` decides sameness by the lengths, by the first words, and then by the last ones or by all of them (`last_decides`).
use mathlib.Core.Path.{sym, ◌∙◌, ap₂}
use mathlib.Core.Bool.{Bool}
use mathlib.Core.List.{List}
use Prim.Native.Nat.{ℕ, ◌-◌}
use native.Mathlib.Omega.{arith}
use lib.ListN.{length, take}
use lib.Seq.{take_all}
use borrow.Author.Tests.{not-true, not-false}
use Rattle.definitions.specs.Words.{same}
use Rattle.lists.specs.Sameness.{unequal, part_unequal, last_decides}
use Rattle.lists.specs.Strings.{same_eq}
use Rattle.equality.proofs.equal.Goals as goal

pub returns-then-n-y : goal.returns-then-n-y
returns-then-n-y c = let a = c.args in sym (unequal a.x.now a.y.now c.if-n-y.true)

pub returns-then-n-lt8 : goal.returns-then-n-lt8
returns-then-n-lt8 c =
    let a = c.args in
    let n = length a.x.now in
    c.equal_front.ensures ∙ ap₂ {C = Bool} (λ (x y : List ℕ). same x y) (take_all n a.x.now (omega arith)) (take_all n a.y.now (omega (arith, c.if-n-y.false)))

pub returns-then-not-equal_front : goal.returns-then-not-equal_front
returns-then-not-equal_front c =
    let a = c.args in
    sym (part_unequal a.x.now a.y.now 0 8 (sym c.equal_front-2.ensures ∙ not-true c.equal_front-2.result c.if-not-equal_front.true-raw))

pub returns-then-n-lt16 : goal.returns-then-n-lt16
returns-then-n-lt16 c =
    let a = c.args in
    let x = a.x.now in
    let y = a.y.now in
    let o = length x - 8 in
    let first = same_eq (take 8 x) (take 8 y) (sym c.equal_front-2.ensures ∙ not-false c.equal_front-2.result c.if-not-equal_front.false-raw) in
    c.equal_many.ensures ∙ sym (last_decides x y 8 o (length x - o) (omega arith) first (omega arith) c.if-n-y.false)
