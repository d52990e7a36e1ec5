-- `drive_start` steps over byte 10, where there is one.
use native.Mathlib.Omega.{arith}
use Rattle.motif_input.proofs.Splitting.{motif_fits, drive_starts}
use Rattle.motif_input.proofs.drive_start.Goals as goal

pub overflow_add-motif_length : goal.overflow_add-motif_length
overflow_add-motif_length c = omega (arith, c.motif_length.ensures, motif_fits c.args.input.now)

pub returns : goal.returns
returns c = rw c.min.ensures (drive_starts c.args.input.now c.motif_length.result c.motif_length.ensures)
