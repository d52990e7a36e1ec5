-- `put_headings` writes a line a turn, in the rest of the slice. The invariant: the lines of the headings passed stand at the front.
use Rattle.definitions.specs.Programs.{heading_name}
use Rattle.lists.specs.Lists.{Fronted}
use Rattle.lines.specs.Turns.{turns}
use Rattle.lines.proofs.Lines.{line_at}
use Rattle.desk_output.proofs.put_headings.Given as goal

abbrev pub invariant-loop-heading : goal.invariant-loop-heading
invariant-loop-heading l = Fronted (turns (line_at heading_name l.headings) l.heading-index) l.initial.out l.n l.out
