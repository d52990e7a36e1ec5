-- `write_run` stores the samples from the last to the first. The invariant: what is left to write, placed over what is written, is the whole.
use mathlib.Core.Path.{◌∙◌, refl, sym}
use Prim.Native.Nat.{◌+◌, ◌%◌}
use native.Mathlib.Omega.{arith}
use Rattle.run_keys.proofs.Writing.{sample_stored, samples_none}
use Rattle.run_keys.proofs.write_run.Goals as goal

pub loop-i-init : goal.loop-i-init
loop-i-init c = refl

pub loop-i-preserved : goal.loop-i-preserved
loop-i-preserved c =
    sample_stored c.loop-i.i c.loop-i.rest c.loop-i.run c.byte_of.result (c.loop-i.rest % 256 + 1) (omega arith) (omega arith) refl c.byte_of.ensures ∙ c.loop-i.invariant

pub returns : goal.returns
returns c =
    sym (samples_none c.loop-i.i c.loop-i.rest c.loop-i.run (omega arith)) ∙ c.loop-i.invariant
