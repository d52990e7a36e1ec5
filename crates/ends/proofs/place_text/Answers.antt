-- `place_text` writes the ranks of the samples behind the first word, and the mark there.
use Prim.Native.Nat.{◌+◌, ◌-◌}
use native.Mathlib.Omega.{arith}
use lib.ListN.{length}
use Rattle.ends.proofs.Place.{placed_text}
use Rattle.ends.proofs.place_text.Goals as goal

pub returns : goal.returns
returns c =
    let a = c.args in
    placed_text a.order a.text.now a.work.now c.write.new.ranks (length a.text.now + 1 - 1) (omega arith) c.requires c.write.ensures
