-- `distinct_runs` counts the places at which a run stands that stands at no later place: as many as there are distinct runs.
use mathlib.Core.Path.{refl, ◌∙◌}
use native.Mathlib.Omega.{arith}
use borrow.Author.Tests.{tests}
use Rattle.std.proofs.Common.{rules}
use Rattle.std.proofs.lemmas.Iterator.{YieldsList-from_range}
use Rattle.std.proofs.lemmas.Iterator.Consumers.{YieldsList-at, YieldsList-from_filter, count_from_yields_List}
use Rattle.definitions.specs.Services.{sample_order}
use Rattle.lyndon.specs.Ranks.{slice_bytes}
use Rattle.naive_census.proofs.Standing.{left_all, is_counted, counted_from}
use Rattle.naive_census.proofs.distinct_runs.Goals as goal

pub returns : goal.returns
returns c =
    let drive = c.args.drive.now in
    let q = c.args.q in
    let n = c.saturating_sub.result in
    count_from_yields_List c.filter.result c.count.result c.count.ensures.ran
    (YieldsList-from_filter _ (is_counted q drive) (YieldsList-at c.filter.ensures.source (YieldsList-from_range 0 n n refl (omega arith))) c.filter.ensures.closure (λ x b q k. search (rules, tests)))
    ∙ counted_from sample_order q drive c.requires.1 (slice_bytes drive (λ j h. omega (arith, c.type_inv.drive j))) 0 n (omega (arith, c.saturating_sub.ensures))
    ∙ left_all sample_order q drive
