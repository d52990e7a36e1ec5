-- `write_runs` writes a run a turn, behind those before. The invariant: the runs of the keys passed stand at the front.
use mathlib.Core.Path.{◌≡◌}
use Rattle.definitions.specs.Words.{placed}
use Rattle.run_keys.proofs.Writing.{runs_to}
use Rattle.run_keys.proofs.write_runs.Given as goal

abbrev pub invariant-loop-i : goal.invariant-loop-i
invariant-loop-i l = l.runs ≡ placed (runs_to l.q l.keys l.i) l.initial.runs
