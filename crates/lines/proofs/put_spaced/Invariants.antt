-- `put_spaced` writes a number and a space a turn, in the rest of the slice. The invariant: those of the bytes passed stand at the front.
use Rattle.lists.specs.Lists.{Fronted}
use Rattle.lines.specs.Turns.{turns}
use Rattle.lines.proofs.Lines.{spaced_at}
use Rattle.lines.proofs.put_spaced.Given as goal

abbrev pub invariant-loop-byte : goal.invariant-loop-byte
invariant-loop-byte l = Fronted (turns (spaced_at l.bytes) l.byte-index) l.initial.out l.n l.out
