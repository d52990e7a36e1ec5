-- `list` tries every cut. The invariant: the cuts passed that are listed stand at the front of the slice.
use mathlib.Core.List.{map}
use Rattle.definitions.specs.Words.{below}
use Rattle.definitions.specs.Table.{rank_of}
use Rattle.definitions.specs.Occurrences.{is_listed}
use Rattle.definitions.specs.Services.{sample_order}
use Rattle.lists.specs.Lists.{Fronted}
use Rattle.naive_cuts.proofs.list.Given as goal

abbrev pub invariant-loop-c : goal.invariant-loop-c
invariant-loop-c l = Fronted (below (is_listed (map (rank_of sample_order) l.pattern)) l.c) l.initial.cuts l.n l.cuts
