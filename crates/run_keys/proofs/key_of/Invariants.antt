-- `key_of` takes a sample a turn as the next digit. The invariant: the key so far is that of the samples passed.
use mathlib.Core.Path.{◌≡◌}
use lib.ListN.{take}
use Rattle.definitions.specs.Services.{sample_order}
use Rattle.run_keys.specs.Keys.{key_of}
use Rattle.run_keys.proofs.key_of.Given as goal

abbrev pub invariant-loop-sample : goal.invariant-loop-sample
invariant-loop-sample l = l.key ≡ key_of sample_order (take l.sample-index l.run)
