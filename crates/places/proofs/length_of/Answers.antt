-- `length_of` answers 1 for a symbol. The halves of a pair are rules before it, whose lengths are stored; their sum is at most 2,048.
use mathlib.Core.Path.{◌≡◌, sym, ◌∙◌, ap}
use Prim.Native.Nat.{◌+◌, ◌≤◌, ◌<◌}
use native.Mathlib.Omega.{arith}
use lib.ListN.{length}
use Rattle.layout.specs.Layout.{length_in}
use Rattle.decoding.specs.declared.Rule.TheVariants.{Pair}
use Rattle.decoding.specs.Decoding.{rule_in}
use Rattle.state.proofs.Rules.{kept_symbol, kept_pair}
use Rattle.places.proofs.Sizes.{pair_length}
use Rattle.places.proofs.length_of.Goals.{In-Pair}
use Rattle.places.proofs.length_of.Goals as goal

pub returns-in-Symbol : goal.returns-in-Symbol
returns-in-Symbol c =
    let a = c.args in
    λ g h k. sym (ap length ((kept_symbol k.kept a.r h c.in-Symbol.field-0 c.in-Symbol.field-1 (sym c.rule_in.ensures ∙ c.in-Symbol.is)).string g.order))

-- the rule is a pair of rules before it, and not too long
pair_known : (c : In-Pair) → let a = c.args in
    let u = c.in-Pair.left in
    let v = c.in-Pair.right in
    (rule_in a.work.now a.r ≡ Pair u v) × (u < 2304) × (v < 2304) × (length_in a.work.now u + length_in a.work.now v ≤ 2048)
pair_known c =
    let a = c.args in
    let (g, h, k) = c.requires in
    let f = sym c.rule_in.ensures ∙ c.in-Pair.is in
    let p = kept_pair k.kept a.r h c.in-Pair.left c.in-Pair.right f in
    let (sum, short) = pair_length g a.work.now a.r k h c.in-Pair.left c.in-Pair.right p in
    (f, omega (arith, p.left, h, k.most), omega (arith, p.right, h, k.most), omega (arith, sum, short))

pub bounds-work-left : goal.bounds-work-left
bounds-work-left c = omega (arith, (pair_known (goal.at.bounds-work-left c).In-Pair).1, c.requires.2.kept.long)

pub bounds-work-right : goal.bounds-work-right
bounds-work-right c = omega (arith, (pair_known (goal.at.bounds-work-right c).In-Pair).2, c.requires.2.kept.long)

pub returns-in-Pair : goal.returns-in-Pair
returns-in-Pair c =
    let a = c.args in
    λ g h k. (pair_length g a.work.now a.r k h c.in-Pair.left c.in-Pair.right (kept_pair k.kept a.r h c.in-Pair.left c.in-Pair.right (pair_known (goal.at.returns-in-Pair c).In-Pair).0)).0

pub overflow_add-result : goal.overflow_add-result
overflow_add-result c = omega (arith, (pair_known (goal.at.overflow_add-result c).In-Pair).1)

pub offset_bounds-work-left : goal.offset_bounds-work-left
offset_bounds-work-left c = omega (arith, (pair_known (goal.at.offset_bounds-work-left c).In-Pair).1)

pub overflow_add-result-in-Pair : goal.overflow_add-result-in-Pair
overflow_add-result-in-Pair c = omega (arith, (pair_known (goal.at.overflow_add-result-in-Pair c).In-Pair).2)

pub offset_bounds-work-right : goal.offset_bounds-work-right
offset_bounds-work-right c = omega (arith, (pair_known (goal.at.offset_bounds-work-right c).In-Pair).2)

pub overflow_add-result-in-Pair-2 : goal.overflow_add-result-in-Pair-2
overflow_add-result-in-Pair-2 c = omega (arith, (pair_known (goal.at.overflow_add-result-in-Pair-2 c).In-Pair).3)
