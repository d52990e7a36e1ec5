-- `from_steps` is refused by one of its checks, or writes as many samples as it is handed.
use Rattle.definitions.specs.Steps.{from_steps}
use Rattle.definitions.specs.Services.{from_steps_service}
use Rattle.lyndon.specs.Steps.{from_length}
use Rattle.rearranging.proofs.Fitting.{Judged, both_refused, both_fit, both_written}
use Rattle.rearranging.proofs.from_steps.Goals.{After-both_fit-a}
use Rattle.rearranging.proofs.from_steps.Goals as goal

judged : (f : After-both_fit-a) → let a = f.args in Judged a.text.now (from_steps a.text.now) a.res.now f.both_fit-a.result
judged f = record { size = from_length f.args.text.now; answer = f.both_fit-a.ensures }

pub returns-in_default : goal.returns-in_default
unfolding from_steps_service
returns-in_default c = both_refused (judged (goal.at.returns-in_default c).After-both_fit-a) c.in_default.is

pub restore-requires : goal.restore-requires
restore-requires c = both_fit (judged (goal.at.restore-requires c).After-both_fit-a) c.in-Ok.is

pub returns : goal.returns
unfolding from_steps_service
returns c = both_written (judged (goal.at.returns c).After-both_fit-a) c.in-Ok.is c.restore.ensures
