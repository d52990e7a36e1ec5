-- `scan` lets a word grow as long as the later tail has the greater sample at the first difference. The loop's invariant: the samples from `start` on, `word` of
-- them, are a Lyndon word.
use mathlib.Core.List.{map}
use Prim.Native.Nat.{◌+◌, ◌-◌}
use lib.ListN.{length}
use Rattle.definitions.specs.Table.{rank_of}
use Rattle.runs.specs.Runs.{Running}
use Rattle.runs.proofs.scan.Given as goal

abbrev pub invariant-loop-word : goal.invariant-loop-word
invariant-loop-word l = Running (map (rank_of l.order) l.pattern) l.start l.start (l.start + l.word)

abbrev pub decreases-loop-word : goal.decreases-loop-word
decreases-loop-word l = length l.x - l.word
