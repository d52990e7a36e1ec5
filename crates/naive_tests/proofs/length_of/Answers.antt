-- `length_of` adds the lengths of the rules that a rule's two words name, as they are kept.
use mathlib.Core.Path.{◌∙◌}
use Prim.Native.Nat.{◌+◌, ◌*◌}
use native.Mathlib.Omega.{arith}
use lib.ListN.{get_or}
use Rattle.definitions.specs.declared.Order.TheVariants.{Unsigned}
use Rattle.definitions.specs.Table.{strings}
use Rattle.naive_tests.proofs.Testing.{symbol_length, pair_length}
use Rattle.naive_tests.proofs.length_of.Goals.{After-length_at-2}
use Rattle.naive_tests.proofs.length_of.Goals as goal

pub returns-then-x-eq0 : goal.returns-then-x-eq0
returns-then-x-eq0 c =
    let a = c.args in
    let t = a.table.now in
    λ o. symbol_length o (strings o t a.r) (get_or t (2 * a.r) 0) (get_or t (2 * a.r + 1) 0) c.if-x-eq0.true

pub overflow_add-length_at : goal.overflow_add-length_at
overflow_add-length_at c =
    omega (arith, c.length_at.ensures c.args.table.now c.requires.0 Unsigned, c.length_at-2.ensures c.args.table.now c.requires.0 Unsigned)

pub returns : goal.returns
returns c =
    let t = c.args.table.now in
    let r = c.args.r in
    λ o. c.min.ensures
    ∙ pair_length o (strings o t r) (get_or t (2 * r) 0) (get_or t (2 * r + 1) 0) c.if-x-eq0.false c.length_at.result c.length_at-2.result (c.length_at.ensures t c.requires.0 o) (c.length_at-2.ensures t c.requires.0 o)
