-- `count_runs` takes the census of the drive, by the window that the input says.
use native.Mathlib.Omega.{arith}
use Rattle.definitions.specs.Services.{sample_order}
use Rattle.definitions.specs.Programs.{census_drive}
use Rattle.lyndon.specs.Sufficing.{stored}
use Rattle.census_output.proofs.Stepping.{drive_bytes, window_counted}
use Rattle.census_output.proofs.count_runs.Goals as goal

pub returns : goal.returns
returns c =
    let input = c.args.input.now in
    let ok = stored (census_drive input) c.requires.0.short (drive_bytes input (λ i h. omega (arith, c.shared_slice_known-1.given i))) in
    window_counted sample_order input c.args.runs.now c.args.counts.now _ (omega arith) c.requires.1 c.requires.2 ok c.args.table.now c.window-q.result c.census.new.work c.census.new.runs c.census.new.counts c.census.result c.requires.0.table c.window-q.ensures c.census.ensures
