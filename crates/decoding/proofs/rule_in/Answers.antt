-- `rule_in` reads the rule from the table area.
use Rattle.decoding.specs.Decoding.{rule_in}
use Rattle.decoding.proofs.rule_in.Goals as goal

pub returns : goal.returns
unfolding rule_in
returns c = c.rule_of.ensures
