-- `write_run` stores the samples from the last to the first. The invariant: what is left to write, placed over what is written, is the whole.
use mathlib.Core.Path.{◌≡◌}
use Rattle.definitions.specs.Words.{placed}
use Rattle.definitions.specs.Services.{sample_order}
use Rattle.run_keys.specs.Keys.{run_with}
use Rattle.run_keys.proofs.write_run.Given as goal

abbrev pub invariant-loop-i : goal.invariant-loop-i
invariant-loop-i l = placed (run_with sample_order l.i l.rest) l.run ≡ placed (run_with sample_order l.q l.key) l.initial.run
