-- `merge` joins the word at i as far as the forest does. The loop's invariant: some tree stands from i up to j, and merging it with the
-- forest from j on gives the forest from i on.
use Prim.Native.Nat.{◌-◌}
use Rattle.definitions.specs.Grammar.{Tree}
use Rattle.lists.specs.Parts.{part}
use Rattle.ends.proofs.Merging.{Merging}
use Rattle.ends.proofs.merge.Given as goal

abbrev pub invariant-loop-j : goal.invariant-loop-j
invariant-loop-j l = (t : Tree) × Merging (part 0 l.n l.initial.work) l.i l.j t l.work

abbrev pub decreases-loop-j : goal.decreases-loop-j
decreases-loop-j l = l.n - l.j
