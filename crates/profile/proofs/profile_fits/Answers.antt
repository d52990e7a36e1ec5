-- `profile_fits` is refused by 11, or answers what the check of 12 does.
use mathlib.Core.Bool.{false}
use lib.ListN.{length}
use Rattle.definitions.specs.Services.{first_met, off_heading, profile_checks}
use Rattle.lists.specs.Decisions.{refused_met, done_met}
use Rattle.profile.proofs.profile_fits.Goals as goal

pub returns-in_default : goal.returns-in_default
unfolding first_met profile_checks
returns-in_default c =
    let text = c.args.text.now in
    let (q, e) = refused_met (off_heading false text) (length text) c.headings_fit-h.ensures c.in_default.is in
    rw q e

pub returns : goal.returns
unfolding first_met profile_checks
returns c =
    let text = c.args.text.now in
    rw (done_met (off_heading false text) (length text) c.headings_fit-h.ensures c.in-Ok.is).0 c.ends_fit.ensures
