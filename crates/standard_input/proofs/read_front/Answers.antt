-- `read_front` reads until the slice is full: what a read gave stands behind what was read before it.
use Rattle.std.proofs.Common.{◌-◌, arith, length}
use Rattle.standard_input.proofs.Behind.{behind, within_part}
use Rattle.standard_input.proofs.read_front.Goals as goal

pub loop-done-preserved : goal.loop-done-preserved
loop-done-preserved g c =
    let fits_part = within_part c.read.result c.unwrap_or-more.result c.read.new.buf c.read.ensures.bound c.unwrap_or-more.ensures in
    record {
      fits = omega (arith, c.read.auto.buf);
      bytes = behind _ _ _ c.read.result (length c.loop-done.input - c.loop-done.done) c.loop-done.done c.unwrap_or-more.result c.loop-done.input c.read.new.buf
          c.loop-done.invariant.fits c.read.ensures.bound c.read.ensures.bytes c.unwrap_or-more.ensures c.loop-done.invariant.bytes;
    }
