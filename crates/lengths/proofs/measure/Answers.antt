-- `measure` goes from the first rule up. The invariant: the rules before r have their lengths.
use mathlib.Core.Path.{◌≡◌, refl, subst}
use Prim.Native.Nat.{ℕ}
use native.Mathlib.Omega.{arith}
use Rattle.definitions.specs.Table.{rule_count}
use Rattle.lists.specs.Bools.{contra}
use Rattle.lengths.specs.Lengths.{Sized}
use Rattle.lengths.proofs.Sizes.{size_start, rules_few, size_more, too_long}
use Rattle.lengths.proofs.measure.Goals as goal

pub loop-r-init : goal.loop-r-init
loop-r-init c = size_start c.args.table.now c.args.work.now c.requires

pub length_of-n-requires : goal.length_of-n-requires
length_of-n-requires c = (c.loop-r.invariant, omega arith)

pub returns-then-n-gt2048 : goal.returns-then-n-gt2048
returns-then-n-gt2048 c =
    (λ e. contra e refl, λ e. too_long c.args.table.now c.loop-r.r c.length_of-n.result (omega arith) c.length_of-n.ensures (omega arith))

pub bounds-work-r : goal.bounds-work-r
bounds-work-r c =
    let few = rules_few c.loop-r.invariant.lent in
    omega (arith, c.loop-r.invariant.lent.long)

pub overflow_add-work : goal.overflow_add-work
overflow_add-work c =
    let few = rules_few c.loop-r.invariant.lent in
    omega arith

pub loop-r-preserved : goal.loop-r-preserved
loop-r-preserved c = size_more c.loop-r.invariant (omega arith) _ c.length_of-n.result c.length_of-n.ensures (omega arith) refl

pub returns : goal.returns
returns c =
    let z : c.loop-r.r ≡ rule_count c.args.table.now = omega arith in
    (λ e. subst (λ (n : ℕ). Sized c.args.table.now n c.loop-r.work) z c.loop-r.invariant, λ e. contra refl e)
