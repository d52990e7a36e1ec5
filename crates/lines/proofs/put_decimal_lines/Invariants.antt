-- `put_decimal_lines` writes a line a turn, in the rest of the slice. The invariant: the lines of the numbers passed stand at the front.
use Rattle.definitions.specs.Programs.{decimal}
use Rattle.lists.specs.Lists.{Fronted}
use Rattle.lines.specs.Turns.{turns}
use Rattle.lines.proofs.Lines.{line_at}
use Rattle.lines.proofs.put_decimal_lines.Given as goal

abbrev pub invariant-loop-number : goal.invariant-loop-number
invariant-loop-number l = Fronted (turns (line_at decimal l.numbers) l.number-index) l.initial.out l.n l.out
