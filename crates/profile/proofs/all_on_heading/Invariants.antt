-- `all_on_heading` looks at every byte. The loop's invariant: what is known is whether the bytes passed are on heading.
use mathlib.Core.Path.{◌≡◌}
use Rattle.definitions.specs.Words.{every}
use Rattle.definitions.specs.Profile.{on_heading}
use Rattle.profile.proofs.all_on_heading.Given as goal

abbrev pub invariant-loop-byte : goal.invariant-loop-byte
invariant-loop-byte l = l.all ≡ every (on_heading l.text) l.byte-index
