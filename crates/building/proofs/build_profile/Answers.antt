-- `build_profile` is refused by the drive; else it is decided by `build`, which passes the drive's length again.
use mathlib.Core.Path.{refl}
use mathlib.Core.List.{[], ◌∷◌}
use lib.ListN.{length}
use Rattle.definitions.specs.Services.{text_too_long, profile_checks, drive_checks, build_service, build_profile_service}
use Rattle.lists.specs.Decisions.{passed_parts, done_all}
use Rattle.lists.specs.Serving.{answer_refuses, refused_front, passed, passed_over}
use Rattle.building.proofs.build_profile.Goals as goal

pub returns-in_default : goal.returns-in_default
unfolding build_profile_service drive_checks profile_checks
returns-in_default c =
    let text = c.args.text.now in
    refused_front (drive_checks text) _ (length text) (refl, (refl, (refl, refl))) c.drive_fits-p.ensures c.in_default.is (answer_refuses c.drive_fits-p.result) (λ d e. rw e)

pub returns : goal.returns
unfolding build_profile_service build_service drive_checks profile_checks
returns c =
    let text = c.args.text.now in
    let all = (done_all (drive_checks text) (length text) c.drive_fits-p.ensures c.in-Ok.is).0 in
    passed all (passed_over (passed_parts (text_too_long text ∷ []) all).0 c.build.ensures)
