-- `look_up` finds a rule in the table area by the links.
use native.Mathlib.Omega.{arith}
use lib.ListN.{length-take, length-drop}
use Rattle.lists.specs.Parts.{part}
use Rattle.stack.proofs.look_up.Goals as goal

pub find-requires : goal.find-requires
unfolding part
find-requires c =
    (c.requires.0.0, c.requires.0.1, simp (length-take, length-drop) (omega arith), simp (length-take, length-drop) (omega arith))

pub returns : goal.returns
unfolding part
returns c = c.find.ensures
