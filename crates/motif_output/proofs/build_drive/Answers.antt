-- `build_drive` refuses a long input, and builds what stands behind byte 10.
use mathlib.Core.Path.{◌∙◌}
use Prim.Native.Nat.{◌-◌}
use native.Mathlib.Omega.{arith}
use lib.ListN.{length, take, drop}
use borrow.Author.Tests.{ltb-false}
use Rattle.definitions.specs.Services.{sample_order}
use Rattle.definitions.specs.Programs.{input_too_long}
use Rattle.lists.specs.Lists.{tail_taken}
use Rattle.lists.specs.Decisions.{done_met}
use Rattle.motif_input.proofs.Splitting.{drive_bytes}
use Rattle.motif_output.proofs.Stepping.{drive_long, drive_built}
use Rattle.motif_output.proofs.build_drive.Goals as goal

pub returns-in_default : goal.returns-in_default
returns-in_default c =
    let a = c.args in
    drive_long sample_order a.input.now a.table.now c.input_fits-size.result c.input_fits-size.ensures c.in_default.is

pub returns : goal.returns
returns c =
    let input = c.args.input.now in
    let from = c.drive_start-from.result in
    let short = ltb-false 4095 (length input) (done_met (input_too_long input) (length input) c.input_fits-size.ensures c.in-Ok.is).0 in
    let text = tail_taken input from ∙ c.drive_start-from.ensures.1 in
    let bytes = drive_bytes input (λ i h. omega (arith, c.shared_slice_known-1.given i)) in
    drive_built sample_order input c.args.table.now _ (omega arith) c.requires short bytes (take (length input - from) (drop from input)) c.build.new.work c.build.new.res c.build.result text c.build.ensures
