-- `locate_motif` locates the front of the input, before byte 10, in the drive.
use Prim.Native.Nat.{◌-◌}
use native.Mathlib.Omega.{arith}
use lib.ListN.{take}
use Rattle.definitions.specs.Services.{sample_order}
use Rattle.definitions.specs.Programs.{drive_of}
use Rattle.lyndon.specs.Sufficing.{stored}
use Rattle.motif_input.proofs.Splitting.{motif_taken, motif_fits, drive_bytes}
use Rattle.motif_output.proofs.Stepping.{motif_located}
use Rattle.motif_output.proofs.locate_motif.Goals as goal

pub slice_bounds-locate-end : goal.slice_bounds-locate-end
slice_bounds-locate-end c =
    let input = c.args.input.now in
    omega (arith, c.motif_length-end.ensures, motif_fits input)

pub returns : goal.returns
returns c =
    let input = c.args.input.now in
    let motif = motif_taken input c.motif_length-end.result c.motif_length-end.ensures in
    let bytes = drive_bytes input (λ i h. omega (arith, c.shared_slice_known-1.given i)) in
    let ok = stored (drive_of input) c.requires.0.short bytes in
    motif_located sample_order input c.args.positions.now _ (omega arith) c.requires.1 ok c.args.table.now (take (c.motif_length-end.result - 0) input) c.locate-found.new.work c.locate-found.new.res c.locate-found.result c.requires.0.table motif c.locate-found.ensures
