-- `number_samples` goes over the samples from left to right. The invariant: running over the rest from the state that is held gives what running
-- over all of it gives.
use Rattle.stack.specs.Areas.{Below}
use Rattle.numbering.specs.Numbering.{Stage, Begun}
use Rattle.numbering.proofs.number_samples.Given as goal

abbrev pub invariant-loop-i : goal.invariant-loop-i
invariant-loop-i l = Below l.initial.work l.work × ((b : Begun l.order l.n l.initial.work l.initial.t.rules l.initial.t.depth) → Stage l.order l.n b.origin l.work l.t.rules l.t.depth l.i)
