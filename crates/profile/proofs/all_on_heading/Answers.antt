-- `all_on_heading` looks at every byte. The loop's invariant: what is known is whether the bytes passed are on heading.
use mathlib.Core.Path.{refl, ◌∙◌, ap}
use native.Mathlib.Omega.{arith}
use Rattle.definitions.specs.Words.{every}
use Rattle.definitions.specs.Profile.{on_heading}
use Rattle.profile.proofs.Headings.{all_more}
use Rattle.profile.proofs.all_on_heading.Goals as goal

pub loop-byte-init : goal.loop-byte-init
unfolding every
loop-byte-init c = refl

pub loop-byte-preserved : goal.loop-byte-preserved
loop-byte-preserved c = all_more c.args.text.now c.loop-byte.byte-index c.loop-byte.all c.loop-byte.invariant

pub returns : goal.returns
returns c = c.loop-byte.invariant ∙ ap (every (on_heading c.args.text.now)) (omega arith)
