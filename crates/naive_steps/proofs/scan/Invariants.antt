-- `scan` goes over every position of the drive. The invariant: those passed from which the same steps follow stand at the front of the slice.
use Rattle.definitions.specs.Words.{below}
use Rattle.lists.specs.Lists.{Fronted}
use Rattle.naive_steps.proofs.Following.{follows_in}
use Rattle.naive_steps.proofs.scan.Given as goal

abbrev pub invariant-loop-i : goal.invariant-loop-i
invariant-loop-i l = Fronted (below (follows_in l.pattern l.drive) l.i) l.initial.places l.n l.places
