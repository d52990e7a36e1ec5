-- `first_off` looks for the first byte off heading behind the blocks that have none.
use borrow.Author.Tests.{tests}
use Rattle.std.proofs.Common.{rules}
use Rattle.std.proofs.lemmas.Iterator.{first_from_Range}
use Rattle.profile.proofs.Headings.{off_is}
use Rattle.profile.proofs.first_off.Goals as goal

pub returns : goal.returns
returns c = off_is c.args.text.now c.blocks_on_heading-start.result c.blocks_on_heading-start.ensures.0 c.blocks_on_heading-start.ensures.1 c.find.result
    (first_from_Range _ _ _ c.find.result _ _ c.find.ensures.ran (λ x q k. search (rules, tests)) (λ x q k. search (rules, tests)))
