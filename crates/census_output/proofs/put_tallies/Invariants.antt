-- `put_tallies` writes a line a turn, in the rest of the slice. The invariant: the lines of the runs passed stand at the front.
use Rattle.lists.specs.Lists.{Fronted}
use Rattle.lines.specs.Turns.{turns}
use Rattle.census_output.specs.Reports.{tally}
use Rattle.census_output.proofs.put_tallies.Given as goal

abbrev pub invariant-loop-i : goal.invariant-loop-i
invariant-loop-i l = Fronted (turns (tally l.q l.runs l.counts) l.i) l.initial.out l.n l.out
