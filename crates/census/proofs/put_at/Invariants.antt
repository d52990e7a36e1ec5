-- `put_at` writes the sample at a place a turn. The invariant: it is written at the places passed.
use mathlib.Core.Path.{◌≡◌}
use lib.ListN.{take}
use Rattle.census.specs.Samples.{put_all}
use Rattle.census.proofs.put_at.Given as goal

abbrev pub invariant-loop-place : goal.invariant-loop-place
invariant-loop-place l = l.drive ≡ put_all (take l.place-index l.places) l.sample l.initial.drive
