-- `join_top` pushes the pair of the two rules on top in their place.
use mathlib.Core.Path.{subst}
use native.Mathlib.Omega.{arith}
use Rattle.definitions.specs.declared.Order.{Order}
use Rattle.lyndon.specs.Closings.{State, push}
use Rattle.stack.specs.Areas.{Holds}
use Rattle.stack.proofs.Pushing.{tops_small, join_pushes}
use Rattle.stack.proofs.join_top.Goals as goal

pub overflow_add-i-2 : goal.overflow_add-i-2
overflow_add-i-2 c =
    let a = c.args in
    let (i, j) = tops_small a.work.now a.c.rules a.c.depth c.requires in
    omega arith

pub overflow_add-j-2 : goal.overflow_add-j-2
overflow_add-j-2 c =
    let a = c.args in
    let (i, j) = tops_small a.work.now a.c.rules a.c.depth c.requires in
    omega arith

pub push_rule-requires : goal.push_rule-requires
push_rule-requires c =
    let a = c.args in
    (join_pushes a.work.now a.c.rules a.c.depth c.requires).0

pub returns : goal.returns
returns c =
    let a = c.args in (
      λ p.
          let (q, o, e) = join_pushes a.work.now a.c.rules a.c.depth p in
          subst (λ (s : State). Holds p.o s c.push_rule.new.work c.push_rule.result.rules c.push_rule.result.depth) e
          (subst (λ (x : Order). Holds x (push q.s.rules q.rule q.s.stack) c.push_rule.new.work c.push_rule.result.rules c.push_rule.result.depth) o
          (c.push_rule.ensures.0 q)),
      c.push_rule.ensures.1,
    )
