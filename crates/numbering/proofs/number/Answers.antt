-- `number` pushes the mark's rule, and then goes over the samples.
use mathlib.Core.Path.{◌∙◌}
use Rattle.numbering.proofs.Stepping.{mark_push, mark_pushed}
use Rattle.numbering.proofs.number.Goals as goal

pub push_rule-c-requires : goal.push_rule-c-requires
push_rule-c-requires c =
    mark_push c.args.order c.args.n c.args.work.now c.requires.0 c.requires.1

pub number_samples-requires : goal.number_samples-requires
number_samples-requires c =
    mark_pushed c.args.order c.args.n c.args.work.now c.requires.0 c.requires.1 c.push_rule-c.new.work c.push_rule-c.result.rules c.push_rule-c.result.depth
    c.push_rule-c.ensures.0 c.push_rule-c.ensures.1

pub returns : goal.returns
unfolding mark_pushed
returns c =
    let b = mark_pushed c.args.order c.args.n c.args.work.now c.requires.0 c.requires.1 c.push_rule-c.new.work c.push_rule-c.result.rules c.push_rule-c.result.depth
    c.push_rule-c.ensures.0 c.push_rule-c.ensures.1 in
    let (k, e) = c.number_samples.ensures.0 b in
    (k, e, c.number_samples.ensures.1 ∙ c.push_rule-c.ensures.1)
