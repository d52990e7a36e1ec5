-- `build_drive` builds what stands behind the first byte.
use mathlib.Core.Path.{◌∙◌}
use Prim.Native.Nat.{◌-◌}
use native.Mathlib.Omega.{arith}
use lib.ListN.{length, take, drop}
use Rattle.definitions.specs.Services.{sample_order}
use Rattle.lists.specs.Lists.{tail_taken}
use Rattle.census_output.proofs.Stepping.{drive_bytes, drive_built}
use Rattle.census_output.proofs.build_drive.Goals as goal

pub returns : goal.returns
returns c =
    let input = c.args.input.now in
    let start = c.drive_start-start.result in
    let bytes = drive_bytes input (λ i h. omega (arith, c.shared_slice_known-1.given i)) in
    drive_built sample_order input c.args.table.now _ (omega arith) c.requires bytes (take (length input - start) (drop start input)) c.build.new.work c.build.new.res c.build.result (tail_taken input start ∙ c.drive_start-start.ensures.1) c.build.ensures
