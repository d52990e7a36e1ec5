-- `build` is refused by the text or the work slice; else it is decided by delivering the table, and the work slice is cleared.
use mathlib.Core.Path.{refl}
use lib.ListN.{length}
use borrow.Author.Rules.{rules}
use borrow.Author.Tests.{ltb-false}
use Rattle.definitions.specs.Services.{outcome_of, text_too_long, work_too_short, build_service}
use Rattle.lists.specs.Decisions.{met, later, none, more, refused_met, done_met}
use Rattle.lists.specs.Serving.{refused_by, passed, worked}
use Rattle.layout.specs.Layout.{WORK}
use Rattle.checks.proofs.Fronts.{work_cleared}
use Rattle.building.proofs.build.Goals as goal

pub returns-in_default : goal.returns-in_default
unfolding build_service outcome_of
returns-in_default c =
    let text = c.args.text.now in
    let (q, e) = refused_met (text_too_long text) (length text) c.text_fits-t.ensures c.in_default.is in
    refused_by (text_too_long text) (met q) e refl

pub returns-in_default-w : goal.returns-in_default-w
unfolding build_service outcome_of
returns-in_default-w c =
    let a = c.args in
    let text = a.text.now in
    let n = length a.work.now in
    let (q, e) = refused_met (work_too_short n) n c.work_fits-w.ensures c.in_default-w.is in
    refused_by (work_too_short n) (later (text_too_long text) (done_met (text_too_long text) (length text) c.text_fits-t.ensures c.in-Ok.is).0 (met q)) e refl

pub slice_bounds-build_in-end : goal.slice_bounds-build_in-end
slice_bounds-build_in-end c =
    let n = length c.args.work.now in
    ltb-false n WORK (done_met (work_too_short n) n c.work_fits-w.ensures c.in-Ok-w.is).0

pub build_in-a-requires : goal.build_in-a-requires
build_in-a-requires c =
    let a = c.args in
    (ltb-false 2047 (length a.text.now) (done_met (text_too_long a.text.now) (length a.text.now) c.text_fits-t.ensures c.in-Ok.is).0, search rules)

pub returns : goal.returns
unfolding build_service
returns c =
    let a = c.args in
    let text = a.text.now in
    let n = length a.work.now in
    let room = (done_met (work_too_short n) n c.work_fits-w.ensures c.in-Ok-w.is).0 in
    passed (more (text_too_long text) (done_met (text_too_long text) (length text) c.text_fits-t.ensures c.in-Ok.is).0 (more (work_too_short n) room none))
    (worked a.work.now c.clear_front.new.work (refl, refl)
    (work_cleared a.work.now c.build_in-a.new.work c.clear_front.new.work (ltb-false n WORK room) c.build_in-a.auto.work c.clear_front.ensures)
    c.build_in-a.ensures)
