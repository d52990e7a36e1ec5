-- `alike` goes block by block. The invariant: the blocks passed agree, so what is left decides.
use mathlib.Core.Path.{◌≡◌, ◌∙◌, ap}
use Prim.Native.Nat.{ℕ, ◌+◌, ◌*◌}
use native.Mathlib.Omega.{arith}
use lib.ListN.{drop}
use Rattle.definitions.specs.Words.{lexlt}
use Rattle.lists.specs.Sameness.{block_equal}
use Rattle.compare.proofs.Compare.{agree_block}
use Rattle.compare.proofs.alike.Goals as goal

pub loop-i-preserved : goal.loop-i-preserved
loop-i-preserved c =
    let x = c.args.x.now in
    let y = c.args.y.now in
    let i = c.loop-i.i in
    let same = block_equal x y (8 * i) 8 c.equal_many.ensures (cc c.if-not-equal_many.false) in
    let next : 8 * i + 8 ≡ 8 * (i + 1) = omega arith in
    c.loop-i.invariant ∙ agree_block x y (8 * i) 8 (omega arith) (omega arith) same ∙ ap (λ (k : ℕ). lexlt (drop k x) (drop k y)) next
