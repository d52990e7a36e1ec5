-- `step` pushes the rule of a symbol and does its joins.
use mathlib.Core.Path.{◌∙◌}
use Rattle.numbering.proofs.Stepping.{step_push, step_join, step_done}
use Rattle.numbering.proofs.step.Goals as goal

pub push_rule-t-requires : goal.push_rule-t-requires
push_rule-t-requires c =
    let a = c.args in
    step_push a.order a.work.now a.c.rules a.c.depth a.i c.requires.0 c.number_of_rank-x.result c.number_of_rank-x.ensures

pub join_all-requires : goal.join_all-requires
join_all-requires c =
    let a = c.args in
    step_join a.order a.work.now a.c.rules a.c.depth a.i c.requires.0 c.number_of_rank-x.result c.number_of_rank-x.ensures
    c.push_rule-t.new.work c.push_rule-t.result.rules c.push_rule-t.result.depth c.push_rule-t.ensures.0

pub returns : goal.returns
returns c =
    let a = c.args in (
      λ p. step_done a.order a.work.now a.c.rules a.c.depth a.i p c.number_of_rank-x.result c.number_of_rank-x.ensures
          c.push_rule-t.new.work c.join_all.new.work c.push_rule-t.result.rules c.join_all.result.rules
          c.push_rule-t.result.depth c.join_all.result.depth c.push_rule-t.ensures.0 c.join_all.ensures.0,
      c.join_all.ensures.1 ∙ c.push_rule-t.ensures.1,
    )
