-- `main` hands over what it has read, and writes as much as `answer` says: it fits in the slice lent for it.
use Rattle.std.proofs.Common.{arith, sym, length-take-le}
use Rattle.lines.proofs.Deciding.{front_fits}
use Rattle.motif.proofs.main.Goals as goal

pub slice_bounds-out-end : goal.slice_bounds-out-end
slice_bounds-out-end c = omega (arith, c.answer-m.ensures.value, front_fits _ _ _ c.answer-m.ensures.out_after)

pub slice_bounds-write_all-end : goal.slice_bounds-write_all-end
slice_bounds-write_all-end c = sym (length-take-le _ _ (omega (arith, c.answer-m.ensures.value, front_fits _ _ _ c.answer-m.ensures.out_after)))
