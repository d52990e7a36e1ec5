-- `left_in` reads the number of a rule's first word.
use mathlib.Core.Path.{refl}
use Rattle.decoding.specs.Decoding.{left_in}
use Rattle.decoding.proofs.left_in.Goals as goal

pub returns : goal.returns
unfolding left_in
returns c = refl
