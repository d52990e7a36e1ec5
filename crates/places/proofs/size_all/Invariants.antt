-- `size_all` goes from the first rule up. The invariant: the rules before r have their lengths, whatever is loaded.
use mathlib.Core.Path.{◌≡◌}
use Rattle.places.specs.Passes.{Contents, rules_in, Sizing}
use Rattle.places.proofs.size_all.Given as goal

abbrev pub invariant-loop-r : goal.invariant-loop-r
invariant-loop-r l = (g : Contents) → l.rules ≡ rules_in g → Sizing g 0 l.initial.work → Sizing g l.r l.work
