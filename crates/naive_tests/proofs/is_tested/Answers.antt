-- `is_tested` makes the definition's tests: a length as it is kept passes for a cut and a pattern whenever the length itself does.
use mathlib.Core.Path.{◌∙◌}
use native.Mathlib.Omega.{arith}
use borrow.Author.Tests.{lt-leb}
use Rattle.definitions.specs.declared.Order.TheVariants.{Unsigned}
use Rattle.naive_tests.proofs.Testing.{no_pair, left_short, right_decides}
use Rattle.naive_tests.proofs.is_tested.Goals as goal

pub returns-then-x-ne1 : goal.returns-then-x-ne1
returns-then-x-ne1 c =
    let a = c.args in
    λ o. no_pair o a.table.now a.m a.r a.c c.if-x-ne1.true

pub overflow_add-result : goal.overflow_add-result
overflow_add-result c =
    omega (arith, c.length_at-then-cut-length_at.ensures c.args.table.now c.requires.0 Unsigned)

pub returns-then-cut-length_at : goal.returns-then-cut-length_at
returns-then-cut-length_at c =
    let a = c.args in
    λ o. right_decides o a.table.now a.m a.r a.c c.requires.2 c.if-x-ne1.false (omega arith) c.length_at.result (c.length_at.ensures a.table.now c.requires.0 o) c.length_at-then-cut-length_at.result (c.length_at-then-cut-length_at.ensures a.table.now c.requires.0 o) c.requires.1 (omega (arith, c.if-cut-length_at.true))

pub returns-else-cut-length_at : goal.returns-else-cut-length_at
returns-else-cut-length_at c =
    let a = c.args in
    λ o. lt-leb a.c c.length_at.result (omega (arith, c.if-cut-length_at.false)) ∙ left_short o a.table.now a.m a.r a.c c.requires.2 c.if-x-ne1.false (omega arith) c.length_at.result (c.length_at.ensures a.table.now c.requires.0 o) (omega (arith, c.if-cut-length_at.false))
