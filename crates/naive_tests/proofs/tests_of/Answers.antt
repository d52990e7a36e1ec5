-- `tests_of` counts the cuts at which the rule is tested.
use mathlib.Core.Path.{◌∙◌}
use borrow.Author.Tests.{tests}
use Rattle.std.proofs.Common.{rules}
use Rattle.std.proofs.lemmas.Iterator.{YieldsList-from_slice}
use Rattle.std.proofs.lemmas.Iterator.Consumers.{YieldsList-at, YieldsList-from_filter, count_from_yields_List}
use Rattle.definitions.specs.Occurrences.{is_tested}
use Rattle.naive_tests.proofs.Testing.{cuts_tested}
use Rattle.naive_tests.proofs.tests_of.Goals as goal

pub returns : goal.returns
returns c =
    let a = c.args in (
      search rules,
      λ o. count_from_yields_List c.filter.result c.count.result c.count.ensures.ran
          (YieldsList-from_filter _ (is_tested o a.table.now a.m a.r) (YieldsList-at c.filter.ensures.source (YieldsList-from_slice a.cuts.now cc)) c.filter.ensures.closure (λ x b q k. search (rules, tests)))
          ∙ cuts_tested o a.table.now a.m a.r a.cuts.now,
    )
