-- `copy_within` copies word by word. The invariant: the first i words are copied.
use mathlib.Core.Path.{◌≡◌}
use Rattle.filling.specs.Filling.{copied}
use Rattle.filling.proofs.copy_within.Given as goal

abbrev pub invariant-loop-i : goal.invariant-loop-i
invariant-loop-i l = l.work ≡ copied l.initial.work l.from l.to l.i
