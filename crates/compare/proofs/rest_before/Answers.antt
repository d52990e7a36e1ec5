-- `rest_before` compares what follows the first symbols of two words that stand side by side, unless one of them ends there.
use mathlib.Core.Path.{sym, ◌∙◌}
use native.Mathlib.Omega.{arith}
use Rattle.lists.specs.Parts.{part}
use Rattle.compare.proofs.Compare.{firsts_agree, left_ends, right_ends}
use Rattle.compare.proofs.rest_before.Goals as goal

pub returns-then-p-j : goal.returns-then-p-j
returns-then-p-j c =
    let a = c.args in
    sym (left_ends a.s.now a.i a.j a.k (omega arith) (omega arith) (omega arith) c.if-p-j.true c.requires.3)

pub returns-then-k-eq1 : goal.returns-then-k-eq1
returns-then-k-eq1 c =
    let a = c.args in
    sym (right_ends a.s.now a.i a.j a.k (omega arith) (omega arith) (omega arith) c.if-k-eq1.true c.requires.3)

pub returns : goal.returns
unfolding part
returns c =
    let a = c.args in
    c.smaller.ensures ∙ sym (firsts_agree a.s.now a.i a.j a.k (omega arith) (omega arith) (omega arith) c.requires.3)
