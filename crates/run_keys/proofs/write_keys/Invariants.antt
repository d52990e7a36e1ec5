-- `write_keys` stores the key of the run at each position. The invariant: the keys of the positions passed stand at the front of the slice.
use mathlib.Core.Path.{◌≡◌}
use Rattle.definitions.specs.Words.{placed}
use Rattle.run_keys.proofs.Writing.{keys_to}
use Rattle.run_keys.proofs.write_keys.Given as goal

abbrev pub invariant-loop-i : goal.invariant-loop-i
invariant-loop-i l = l.keys ≡ placed (keys_to l.q l.text l.i) l.initial.keys
