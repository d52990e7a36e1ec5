-- `number_samples` goes over the samples from left to right. The invariant: running over the rest from the state that is held gives what running
-- over all of it gives.
use mathlib.Core.Path.{refl, ◌∙◌}
use native.Mathlib.Omega.{arith}
use Rattle.stack.specs.Areas.{Below}
use Rattle.numbering.proofs.Stepping.{below_at, stage_steps, stage_next, stage_end}
use Rattle.numbering.proofs.number_samples.Goals as goal

pub loop-i-init : goal.loop-i-init
loop-i-init c = (refl, λ b. b.stage)

pub step-t-requires : goal.step-t-requires
step-t-requires c =
    let a = c.args in
    let b = c.requires in
    let below : Below b.origin c.loop-i.work = c.loop-i.invariant.0 ∙ b.below in (
      stage_steps a.order a.n b.origin c.loop-i.work c.loop-i.t.rules c.loop-i.t.depth c.loop-i.i b.numberable below (c.loop-i.invariant.1 b) (omega arith),
      rw (below_at b.origin c.loop-i.work c.loop-i.i (omega (arith, b.numberable.short)) below) (b.numberable.samples c.loop-i.i (omega arith) (omega arith)),
    )

pub loop-i-preserved : goal.loop-i-preserved
unfolding stage_steps
loop-i-preserved c =
    let a = c.args in (
      c.step-t.ensures.1 ∙ c.loop-i.invariant.0,
      λ b.
          let below : Below b.origin c.loop-i.work = c.loop-i.invariant.0 ∙ b.below in
          stage_next a.order a.n b.origin c.loop-i.work c.loop-i.t.rules c.loop-i.t.depth c.loop-i.i b.numberable below (c.loop-i.invariant.1 b) (omega arith)
          c.step-t.new.work c.step-t.result.rules c.step-t.result.depth
          (c.step-t.ensures.0 (stage_steps a.order a.n b.origin c.loop-i.work c.loop-i.t.rules c.loop-i.t.depth c.loop-i.i b.numberable below (c.loop-i.invariant.1 b) (omega arith))),
    )

pub returns : goal.returns
returns c =
    let a = c.args in (
      λ b. stage_end a.order a.n b.origin c.loop-i.work c.loop-i.t.rules c.loop-i.t.depth c.loop-i.i b.numberable (c.loop-i.invariant.1 b) (omega (arith, b.numberable.filled)),
      c.loop-i.invariant.0,
    )
