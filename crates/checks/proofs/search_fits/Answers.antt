-- `search_fits` hands on what the checks of the pattern answer, and where the table holds steps what the check of 10 behind them does.
use Rattle.definitions.specs.Services.{search_checks}
use Rattle.checks.proofs.Patterns.{search_refused, search_steps}
use Rattle.checks.proofs.search_fits.Goals as goal

pub returns-in_default : goal.returns-in_default
returns-in_default c =
    let a = c.args in
    search_refused a.pattern.now c.pattern_fits-a.ensures a.content c.in_default.is

pub returns-in_default-content : goal.returns-in_default-content
unfolding search_checks
returns-in_default-content c = rw c.in_default-content.is c.pattern_fits-a.ensures

pub returns : goal.returns
returns c =
    rw c.in-Steps.is (search_steps c.args.pattern.now c.pattern_fits-a.ensures c.in-Ok.is c.steps_fit.result c.steps_fit.ensures)
