-- `before` compares two words that stand side by side: their first symbols, and then what follows these.
use mathlib.Core.Path.{sym}
use native.Mathlib.Omega.{arith}
use Rattle.compare.proofs.Compare.{firsts_differ}
use Rattle.compare.proofs.before.Goals as goal

pub returns-then-a-b : goal.returns-then-a-b
returns-then-a-b c =
    let a = c.args in
    sym (firsts_differ a.s.now a.i a.j a.k (omega arith) (omega arith) (omega arith) c.if-a-b.true)

pub rest_before-requires : goal.rest_before-requires
rest_before-requires c = (c.requires.0, c.requires.1, c.requires.2, c.if-a-b.false)
