-- `sum` adds the counts, and each is a word.
use mathlib.Core.Path.{◌∙◌}
use native.Mathlib.Omega.{arith}
use Rattle.std.proofs.Common.{rules}
use Rattle.std.proofs.lemmas.Iterator.{YieldsList-from_slice, YieldsList-from_map}
use Rattle.std.proofs.lemmas.Iterator.Consumers.{YieldsList-at, sum_from_yields_List, fits_from_yields_list}
use Rattle.census_output.proofs.Tallying.{total_sum, total_most}
use Rattle.census_output.proofs.sum.Goals as goal

pub sum-requires-clause-fits : goal.sum-requires-clause-fits
sum-requires-clause-fits c =
    let counts = c.args.counts.now in
    fits_from_yields_list c.map.result _
    (YieldsList-from_map _ (λ x. x) (YieldsList-at c.map.ensures.source (YieldsList-from_slice counts cc)) c.map.ensures.closure (λ x r q k. search rules))
    (omega (arith, total_sum counts, total_most counts (λ i. omega (arith, c.type_inv.counts i)), c.requires))

pub returns : goal.returns
returns c =
    let counts = c.args.counts.now in
    sum_from_yields_List c.map.result c.sum.result c.sum.ensures.ran
    (YieldsList-from_map _ (λ x. x) (YieldsList-at c.map.ensures.source (YieldsList-from_slice counts cc)) c.map.ensures.closure (λ x r q k. search rules))
    ∙ total_sum counts
