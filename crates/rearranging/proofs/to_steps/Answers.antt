-- `to_steps` is refused by one of its checks, or writes as many samples as it is handed.
use Rattle.definitions.specs.Steps.{to_steps}
use Rattle.definitions.specs.Services.{to_steps_service}
use Rattle.lyndon.specs.Steps.{to_length}
use Rattle.rearranging.proofs.Fitting.{Judged, both_refused, both_fit, both_written}
use Rattle.rearranging.proofs.to_steps.Goals.{After-both_fit-a}
use Rattle.rearranging.proofs.to_steps.Goals as goal

judged : (f : After-both_fit-a) → let a = f.args in Judged a.text.now (to_steps a.text.now) a.res.now f.both_fit-a.result
judged f = record { size = to_length f.args.text.now; answer = f.both_fit-a.ensures }

pub returns-in_default : goal.returns-in_default
unfolding to_steps_service
returns-in_default c = both_refused (judged (goal.at.returns-in_default c).After-both_fit-a) c.in_default.is

pub rearrange-requires : goal.rearrange-requires
rearrange-requires c = both_fit (judged (goal.at.rearrange-requires c).After-both_fit-a) c.in-Ok.is

pub returns : goal.returns
unfolding to_steps_service
returns c = both_written (judged (goal.at.returns c).After-both_fit-a) c.in-Ok.is c.rearrange.ensures
