-- `link_all` goes from the first rule up. The invariant: the rules before r are new, and linked.
use Rattle.twins.specs.Twins.{Linked}
use Rattle.twins.proofs.link_all.Given as goal

abbrev pub invariant-loop-r : goal.invariant-loop-r
invariant-loop-r l = Linked l.table l.r l.work
