-- `live_cuts` is refused by the pattern, or decided by delivering its listed cuts.
use mathlib.Core.Path.{refl}
use lib.ListN.{length}
use Rattle.definitions.specs.Services.{pattern_checks, cuts_service}
use Rattle.lists.specs.Decisions.{done_all}
use Rattle.lists.specs.Serving.{answer_refuses, refused_front, passed}
use Rattle.checks.proofs.Patterns.{pattern_keeps, passed_pattern}
use Rattle.searching.proofs.live_cuts.Goals as goal

pub returns-in_default : goal.returns-in_default
unfolding cuts_service
returns-in_default c =
    let p = c.args.pattern.now in
    refused_front (pattern_checks p) _ (length p) (pattern_keeps p) c.pattern_fits-p.ensures c.in_default.is (answer_refuses c.pattern_fits-p.result) (λ d e. refl)

pub deliver_cuts-requires : goal.deliver_cuts-requires
deliver_cuts-requires c =
    let p = c.args.pattern.now in
    passed_pattern p (done_all (pattern_checks p) (length p) c.pattern_fits-p.ensures c.in-Ok.is).0

pub returns : goal.returns
unfolding cuts_service
returns c =
    let p = c.args.pattern.now in
    passed (done_all (pattern_checks p) (length p) c.pattern_fits-p.ensures c.in-Ok.is).0 c.deliver_cuts.ensures
