-- `drive_fits` is refused by 1, or answers what the checks behind it do.
use lib.ListN.{length}
use Rattle.definitions.specs.Services.{first_met, text_too_long, drive_checks}
use Rattle.lists.specs.Decisions.{refused_met, done_met}
use Rattle.profile.proofs.drive_fits.Goals as goal

pub returns-in_default : goal.returns-in_default
unfolding first_met drive_checks
returns-in_default c =
    let text = c.args.text.now in
    let (q, e) = refused_met (text_too_long text) (length text) c.text_fits-t.ensures c.in_default.is in
    rw q e

pub returns : goal.returns
unfolding first_met drive_checks
returns c =
    let text = c.args.text.now in
    rw (done_met (text_too_long text) (length text) c.text_fits-t.ensures c.in-Ok.is).0 c.profile_fits.ensures
