-- `is_smaller` compares the first ranks, and has the words compared where these are the same.
use native.Mathlib.Omega.{arith}
use lib.ListN.{length-take}
use Rattle.lists.specs.Parts.{part}
use Rattle.halves.proofs.Orders.{ranks_same, ranks_differ}
use Rattle.halves.proofs.is_smaller.Goals as goal

pub returns-then-a-b : goal.returns-then-a-b
returns-then-a-b c =
    let a = c.args in
    ranks_differ a.work.now a.i a.j a.n c.requires.0 c.requires.1 c.requires.2 (omega (arith, c.requires.3)) c.if-a-b.true

pub rest_before-requires : goal.rest_before-requires
unfolding part
rest_before-requires c =
    (c.requires.0, c.requires.1, simp length-take (omega (arith, c.requires.2, c.requires.3)), ranks_same c.args.work.now c.args.i c.args.j (omega (arith, c.requires.0, c.requires.1, c.requires.2)) (omega (arith, c.requires.1, c.requires.2)) c.if-a-b.false)

pub returns : goal.returns
unfolding part
returns c = c.rest_before.ensures
