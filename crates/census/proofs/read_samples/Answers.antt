-- `read_samples` places sample 0, by which the table is judged, and then the others.
use mathlib.Core.Path.{◌≡◌}
use native.Mathlib.Omega.{arith}
use lib.ListN.{length}
use Rattle.definitions.specs.Table.{text_of}
use Rattle.definitions.specs.Services.{sample_order}
use Rattle.census.specs.Samples.{Begun, tried_refused, tried_done, number_below}
use Rattle.census.specs.Accepted.{accepted}
use Rattle.census.proofs.Locating.{begun, all_read}
use Rattle.census.proofs.read_samples.Goals.{In-Ok}
use Rattle.census.proofs.read_samples.Goals as goal

pub returns-in_default : goal.returns-in_default
returns-in_default c = tried_refused c.place_sample-a.ensures c.in_default.is

-- sample 0 is placed
first : (c : In-Ok)
    → let a = c.args in
    Begun sample_order a.table.now c.place_sample-a.new.work c.place_sample-a.new.drive × (c.in-Ok.n ≡ number_below (text_of sample_order a.table.now) 1)
first c =
    begun sample_order c.args.table.now c.args.work.now c.place_sample-a.new.work c.args.drive.now c.place_sample-a.new.drive c.requires c.place_sample-a.auto.work c.place_sample-a.auto.drive c.place_sample-a.ensures c.in-Ok.is

pub place_others-m-requires : goal.place_others-m-requires
place_others-m-requires c = (first (goal.at.place_others-m-requires c).In-Ok).0

pub overflow_add-result : goal.overflow_add-result
overflow_add-result c =
    let accepts = (tried_done c.place_sample-a.ensures c.in-Ok.is).0 in
    omega (arith, (first (goal.at.overflow_add-result c).In-Ok).1, c.place_others-m.ensures.result_value, (accepted sample_order c.args.table.now (length c.args.work.now) accepts).0)

pub returns : goal.returns
returns c =
    let e = c.place_others-m.ensures in
    all_read sample_order c.args.table.now c.args.work.now c.place_sample-a.new.work c.args.drive.now c.place_sample-a.new.drive c.requires c.place_sample-a.auto.work c.place_sample-a.auto.drive
    c.place_others-m.result c.place_sample-a.ensures c.in-Ok.is e.result_value e.work_unchanged e.so_far
