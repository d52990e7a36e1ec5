-- `place_all` goes from the last rule down. The invariant: the halves of the rules from r on have their places, whatever is loaded.
use mathlib.Core.Path.{◌≡◌}
use Rattle.places.specs.Passes.{Contents, rules_in, Placing}
use Rattle.places.proofs.place_all.Given as goal

abbrev pub invariant-loop-r : goal.invariant-loop-r
invariant-loop-r l = (g : Contents) → l.rules ≡ rules_in g → Placing g l.rules l.initial.work → Placing g l.r l.work
