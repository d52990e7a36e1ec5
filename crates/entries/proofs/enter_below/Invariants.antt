-- `enter_below` goes from the last rule down. The invariant: the rules from r on are entered.
use Rattle.entries.specs.Entries.{Entered}
use Rattle.entries.proofs.enter_below.Given as goal

abbrev pub invariant-loop-r : goal.invariant-loop-r
invariant-loop-r l = Entered l.table l.r l.work
