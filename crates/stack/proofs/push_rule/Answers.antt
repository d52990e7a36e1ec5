-- `push_rule` looks the rule up, adds it if it is not found, and stores its number on the stack.
use native.Mathlib.Omega.{arith}
use Rattle.stack.proofs.Pushing.{pushes_most, links, found_low, pushes_room, push_found, push_added, found_below, added_stays}
use Rattle.stack.proofs.push_rule.Goals as goal

pub look_up-requires : goal.look_up-requires
look_up-requires c =
    let a = c.args in
    let p = c.requires in
    let most = pushes_most a.work.now a.c.rules a.c.depth a.x a.y p in
    ((a.c.rules, links a.work.now a.c.rules a.c.depth a.x a.y p, most), p.holds.rules.long)

pub overflow_cast-work : goal.overflow_cast-work
overflow_cast-work c =
    let a = c.args in
    omega (arith, found_low a.work.now a.c.rules a.c.depth a.x a.y c.requires c.in-Some.r c.in-Some.ensures, pushes_most a.work.now a.c.rules a.c.depth a.x a.y c.requires)

pub returns-in-Some : goal.returns-in-Some
returns-in-Some c =
    let a = c.args in
    (λ p. push_found a.work.now a.c.rules a.c.depth a.x a.y p c.in-Some.r c.in-Some.ensures, found_below a.work.now a.c.depth c.in-Some.r)

pub add-requires : goal.add-requires
add-requires c =
    let a = c.args in
    (pushes_room a.work.now a.c.rules a.c.depth a.x a.y c.requires c.in-None.ensures, c.requires.holds.rules.long)

pub overflow_cast-work-in-None : goal.overflow_cast-work-in-None
overflow_cast-work-in-None c = let a = c.args in omega (arith, pushes_most a.work.now a.c.rules a.c.depth a.x a.y c.requires)

pub overflow_add-result-in-None : goal.overflow_add-result-in-None
overflow_add-result-in-None c = let a = c.args in omega (arith, pushes_most a.work.now a.c.rules a.c.depth a.x a.y c.requires)

pub returns-in-None : goal.returns-in-None
returns-in-None c =
    let a = c.args in (
      λ p. push_added a.work.now a.c.rules a.c.depth a.x a.y p c.in-None.ensures c.add.new.work c.add.ensures,
      added_stays a.work.now c.add.new.work a.c.rules a.c.depth a.x a.y c.add.ensures,
    )
