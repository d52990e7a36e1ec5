-- `merge` joins the word at i as far as the forest does. The loop's invariant: some tree stands from i up to j, and merging it with the
-- forest from j on gives the forest from i on.
use mathlib.Core.Path.{sym, ◌∙◌}
use native.Mathlib.Omega.{arith}
use lib.ListN.{length-take, get_or}
use Rattle.definitions.specs.Grammar.{leaf}
use Rattle.lists.specs.Parts.{part, part_length}
use Rattle.ends.proofs.Merging.{starts}
use Rattle.ends.proofs.Turns.{turn, turned_last}
use Rattle.ends.proofs.merge.Goals as goal

pub loop-j-init : goal.loop-j-init
loop-j-init c =
    let a = c.args in
    let s = part 0 a.n a.work.now in
    let size = part_length 0 a.n a.work.now (omega arith) in
    (leaf (get_or s a.i 0), starts s a.i a.work.now (omega arith) (omega arith) c.requires.3 c.requires.4)

pub before-requires : goal.before-requires
before-requires c =
    let a = c.args in
    let u = turn a.work.now c.loop-j.work a.n a.i c.loop-j.j (omega arith) (omega arith) c.loop-j.auto.work c.loop-j.invariant (omega arith) in
    (u.low, u.filled, simp length-take (omega arith))

pub returns-then-not-before : goal.returns-then-not-before
returns-then-not-before c =
    let a = c.args in
    let u = turn a.work.now c.loop-j.work a.n a.i c.loop-j.j (omega arith) (omega arith) c.loop-j.auto.work c.loop-j.invariant (omega arith) in
    u.stopped (sym c.before-in-loop-j.ensures ∙ c.if-not-before.true)

pub bounds-work-j-in-loop-j : goal.bounds-work-j-in-loop-j
bounds-work-j-in-loop-j c =
    let a = c.args in
    let u = turn a.work.now c.loop-j.work a.n a.i c.loop-j.j (omega arith) (omega arith) c.loop-j.auto.work c.loop-j.invariant (omega arith) in
    omega arith

pub overflow_add-work-in-loop-j-2 : goal.overflow_add-work-in-loop-j-2
overflow_add-work-in-loop-j-2 c =
    let a = c.args in
    let u = turn a.work.now c.loop-j.work a.n a.i c.loop-j.j (omega arith) (omega arith) c.loop-j.auto.work c.loop-j.invariant (omega arith) in
    omega arith

pub bounds-work-j-in-loop-j-2 : goal.bounds-work-j-in-loop-j-2
bounds-work-j-in-loop-j-2 c =
    let a = c.args in
    let u = turn a.work.now c.loop-j.work a.n a.i c.loop-j.j (omega arith) (omega arith) c.loop-j.auto.work c.loop-j.invariant (omega arith) in
    omega arith

pub loop-j-smaller : goal.loop-j-smaller
loop-j-smaller c =
    let a = c.args in
    let u = turn a.work.now c.loop-j.work a.n a.i c.loop-j.j (omega arith) (omega arith) c.loop-j.auto.work c.loop-j.invariant (omega arith) in
    omega arith

pub loop-j-preserved : goal.loop-j-preserved
loop-j-preserved c =
    let a = c.args in
    let u = turn a.work.now c.loop-j.work a.n a.i c.loop-j.j (omega arith) (omega arith) c.loop-j.auto.work c.loop-j.invariant (omega arith) in
    u.joined (sym c.before-in-loop-j.ensures ∙ c.if-not-before.false)

pub returns : goal.returns
returns c =
    let a = c.args in
    turned_last a.work.now c.loop-j.work a.n a.i c.loop-j.j (omega arith) (omega arith) c.loop-j.invariant (omega arith)
