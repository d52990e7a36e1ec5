-- `pattern_fits` is refused by 2, or answers what the check of 3 does.
use lib.ListN.{length}
use Rattle.definitions.specs.Services.{first_met, pattern_empty, pattern_checks}
use Rattle.lists.specs.Decisions.{refused_met, done_met}
use Rattle.checks.proofs.pattern_fits.Goals as goal

pub returns-in_default : goal.returns-in_default
unfolding first_met pattern_checks
returns-in_default c =
    let p = c.args.pattern.now in
    let (q, e) = refused_met (pattern_empty p) (length p) c.samples_fit-a.ensures c.in_default.is in
    rw q e

pub returns : goal.returns
unfolding first_met pattern_checks
returns c =
    let p = c.args.pattern.now in
    rw (done_met (pattern_empty p) (length p) c.samples_fit-a.ensures c.in-Ok.is).0 c.size_fits.ensures
