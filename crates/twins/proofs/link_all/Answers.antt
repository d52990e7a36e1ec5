-- `link_all` goes from the first rule up. The invariant: the rules before r are new, and linked.
use mathlib.Core.Path.{◌≡◌, refl, subst}
use Prim.Native.Nat.{ℕ}
use native.Mathlib.Omega.{arith}
use Rattle.definitions.specs.Table.{rule_count}
use Rattle.lists.specs.Bools.{contra}
use Rattle.lengths.proofs.Sizes.{rules_few}
use Rattle.twins.specs.Twins.{Linked}
use Rattle.twins.proofs.Looking.{linked_more, all_distinct}
use Rattle.twins.proofs.link_all.Goals as goal

pub link-requires : goal.link-requires
link-requires c =
    let few = rules_few c.loop-r.invariant.lent in
    (omega arith, omega arith, omega (arith, c.loop-r.invariant.lent.long))

pub loop-r-preserved : goal.loop-r-preserved
loop-r-preserved c = linked_more c.loop-r.invariant (omega arith) (c.is_new.ensures.0 c.if-not-is_new.false) c.link.new.work c.link.ensures

pub returns : goal.returns
returns c =
    let z : c.loop-r.r ≡ rule_count c.args.table.now = omega arith in
    (λ e. all_distinct (subst (λ (n : ℕ). Linked c.args.table.now n c.loop-r.work) z c.loop-r.invariant), λ e. contra refl e)
