-- `ends` goes from the last place to the first. The invariant: the places from i on are done.
use Rattle.lists.specs.Parts.{part}
use Rattle.ends.specs.Areas.{Ended}
use Rattle.ends.proofs.ends.Given as goal

abbrev pub invariant-loop-i : goal.invariant-loop-i
invariant-loop-i l = Ended (part 0 l.n l.initial.work) l.i l.work
