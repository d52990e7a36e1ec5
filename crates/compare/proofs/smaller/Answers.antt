-- `smaller` compares short strings symbol by symbol; of long ones it passes blocks that are alike, and compares what is left.
use mathlib.Core.Path.{sym, ◌∙◌}
use Rattle.compare.proofs.smaller.Goals as goal

pub returns : goal.returns
returns c = c.smaller_from-2.ensures ∙ sym c.alike-i.ensures.1
