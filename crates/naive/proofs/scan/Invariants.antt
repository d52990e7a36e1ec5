-- `scan` goes over every place of the text. The invariant: the places passed at which the pattern begins stand at the front of the slice.
use Rattle.definitions.specs.Words.{below}
use Rattle.lists.specs.Lists.{Fronted}
use Rattle.naive.proofs.Scanning.{begins_in}
use Rattle.naive.proofs.scan.Given as goal

abbrev pub invariant-loop-i : goal.invariant-loop-i
invariant-loop-i l = Fronted (below (begins_in l.pattern l.text) l.i) l.initial.places l.n l.places
