-- `place_others` places a sample a turn. The invariant: all before this one are placed, and n of them are not sample 0.
use mathlib.Core.Path.{◌≡◌}
use Prim.Native.Nat.{◌+◌}
use Rattle.definitions.specs.Table.{text_of}
use Rattle.definitions.specs.Services.{sample_order}
use Rattle.census.specs.Samples.{SoFar, number_below}
use Rattle.census.proofs.place_others.Given as goal

abbrev pub invariant-loop-sample : goal.invariant-loop-sample
invariant-loop-sample l = let text = text_of sample_order l.table in
    (l.work ≡ l.initial.work) × (number_below text 1 + l.n ≡ number_below text l.sample) × SoFar text l.sample l.drive
