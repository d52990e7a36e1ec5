-- `count` adds the tests of every rule, at most 64 each.
use mathlib.Core.Path.{refl, ◌∙◌}
use native.Mathlib.Omega.{arith}
use Rattle.std.proofs.Common.{rules}
use Rattle.std.proofs.lemmas.Iterator.{YieldsList-from_range, YieldsList-from_map}
use Rattle.std.proofs.lemmas.Iterator.Consumers.{YieldsList-at, sum_from_yields_List, fits_from_yields_list}
use Rattle.definitions.specs.declared.Order.TheVariants.{Unsigned}
use Rattle.definitions.specs.Table.{rule_count}
use Rattle.naive_tests.proofs.Testing.{rule_tests, room, rules_tested}
use Rattle.naive_tests.proofs.count.Goals as goal

pub sum-requires-clause-fits : goal.sum-requires-clause-fits
sum-requires-clause-fits c =
    let a = c.args in
    fits_from_yields_list c.map.result _
    (YieldsList-from_map _ (rule_tests Unsigned a.table.now a.m a.cuts.now) (YieldsList-at c.map.ensures.source (YieldsList-from_range 0 (rule_count a.table.now) (rule_count a.table.now) refl (omega arith))) c.map.ensures.closure (λ x r q k. search rules))
    (omega (arith, room Unsigned a.table.now a.m a.cuts.now 0 (rule_count a.table.now) (omega arith)))

pub returns : goal.returns
returns c =
    let a = c.args in
    λ o. sum_from_yields_List c.map.result c.sum.result c.sum.ensures.ran
    (YieldsList-from_map _ (rule_tests o a.table.now a.m a.cuts.now) (YieldsList-at c.map.ensures.source (YieldsList-from_range 0 (rule_count a.table.now) (rule_count a.table.now) refl (omega arith))) c.map.ensures.closure (λ x r q k. search rules))
    ∙ rules_tested o a.table.now a.m a.cuts.now (rule_count a.table.now)
