-- `right_in` reads the number of a rule's second word.
use mathlib.Core.Path.{refl}
use Rattle.decoding.specs.Decoding.{right_in}
use Rattle.decoding.proofs.right_in.Goals as goal

pub returns : goal.returns
unfolding right_in
returns c = refl
