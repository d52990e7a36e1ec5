-- `equal_by_sixteen` compares block after block. The loop's invariant: the blocks passed are the same. Then the last sixteen words decide (`last_decides`).
use mathlib.Core.Path.{◌≡◌, sym, ◌∙◌, subst}
use Prim.Native.Nat.{ℕ, ◌+◌, ◌-◌, ◌*◌}
use native.Mathlib.Omega.{arith}
use lib.ListN.{length, take}
use Rattle.lists.specs.Sameness.{part_unequal, block_equal, parts_equal, last_decides}
use Rattle.equality.proofs.equal_by_sixteen.Goals as goal

pub returns-then-not-equal_many : goal.returns-then-not-equal_many
returns-then-not-equal_many c =
    let a = c.args in
    let i = c.loop-i.i in
    sym (part_unequal a.x.now a.y.now (16 * i) (16 * i + 16 - 16 * i) (cc (c.equal_many.ensures, c.if-not-equal_many.true)))

pub loop-i-preserved : goal.loop-i-preserved
loop-i-preserved c =
    let a = c.args in
    let x = a.x.now in
    let y = a.y.now in
    let i = c.loop-i.i in
    let block = block_equal x y (16 * i) 16 c.equal_many.ensures (cc c.if-not-equal_many.false) in
    let next : 16 * i + 16 ≡ 16 * (i + 1) = omega arith in
    subst (λ (k : ℕ). take k x ≡ take k y) next (parts_equal x y (16 * i) (16 * i) 16 (omega arith) c.loop-i.invariant block)

pub returns : goal.returns
returns c =
    let a = c.args in
    let x = a.x.now in
    let y = a.y.now in
    let o = length x - 16 in
    (rw (← c.requires.0) at c.equal_many-2.ensures) ∙ sym (last_decides x y (16 * c.loop-i.i) o (length x - o) (omega arith) c.loop-i.invariant (omega arith) c.requires.0)
