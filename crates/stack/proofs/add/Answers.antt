-- `add` stores the words and links the rule.
use Rattle.stack.specs.Areas.{added}
use Rattle.stack.proofs.add.Goals as goal

pub returns : goal.returns
unfolding added
returns c =
    rw (c.link.ensures, c.store.ensures)
