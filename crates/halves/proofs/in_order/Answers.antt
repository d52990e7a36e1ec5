-- `in_order` compares the halves, and then the left half's right half with the rule's right half, unless they are one rule.
use mathlib.Core.Path.{◌≡◌, sym, ◌∙◌}
use mathlib.Core.Bool.{true}
use Prim.Native.Nat.{ℕ, ◌+◌, ◌<◌}
use native.Mathlib.Omega.{arith}
use borrow.Author.Tests.{eq-eqb}
use mathlib.Core.List.{List}
use Rattle.definitions.specs.Words.{lexlt}
use Rattle.definitions.specs.Table.{rule_string, rule_count}
use Rattle.lyndon.specs.Ruled.{PairOf}
use Rattle.layout.specs.Layout.{length_in}
use Rattle.decoding.proofs.Rules.{symbol_read, pair_read}
use Rattle.halves.specs.Halves.{Written}
use Rattle.halves.proofs.Orders.{order_room, middle_room, halves_test, right_test, not_less, left_symbol, left_pair, left_same}
use Rattle.halves.proofs.in_order.Goals.{After-rule_of, In-Pair}
use Rattle.halves.proofs.in_order.Goals as goal

pub is_smaller-requires : goal.is_smaller-requires
is_smaller-requires c =
    let (_, _, apart, filled, room) = order_room c.requires in
    (apart, filled, room, c.requires.placed.sized.lent.long)

pub returns-then-not-is_smaller : goal.returns-then-not-is_smaller
returns-then-not-is_smaller c =
    λ k. not_less k (sym (halves_test k c.is_smaller.result c.is_smaller.ensures) ∙ c.if-not-is_smaller.true)

-- the left half is smaller than the right
is_less : (c : After-rule_of) → (k : Written c.args.table.now c.args.work.now c.args.left c.args.right c.args.start c.args.behind)
    → lexlt (rule_string k.order c.args.table.now c.args.left) (rule_string k.order c.args.table.now c.args.right) ≡ true
is_less c =
    λ k. sym (halves_test k c.is_smaller.result c.is_smaller.ensures) ∙ c.if-not-is_smaller.false

-- the left half is a rule
left_low : {t w : List ℕ} {left right start behind : ℕ} → (k : Written t w left right start behind) → left < rule_count t
left_low k = omega (arith, k.pair.left, k.low)

pub rule_of-requires : goal.rule_of-requires
rule_of-requires c =
    omega (arith, left_low c.requires, c.requires.placed.sized.lent.shaped.even)

is_pair_lem : (c : In-Pair) → PairOf c.args.table.now c.args.left c.in-Pair.first c.in-Pair.second
is_pair_lem c =
    pair_read c.args.table.now c.args.left c.requires.placed.sized.lent.shaped (left_low c.requires) c.in-Pair.first c.in-Pair.second (sym c.rule_of.ensures ∙ c.in-Pair.is)

middle : (c : In-Pair) → (c.in-Pair.first < 2304) × (c.args.start + length_in c.args.work.now c.in-Pair.first < c.args.behind)
middle c =
    middle_room c.requires c.in-Pair.first c.in-Pair.second (is_pair_lem c)

pub bounds-work-first : goal.bounds-work-first
bounds-work-first c =
    omega (arith, middle (goal.at.bounds-work-first c).In-Pair, c.requires.placed.sized.lent.long)

pub overflow_add-middle : goal.overflow_add-middle
overflow_add-middle c =
    let (_, _, apart, filled, room) = order_room c.requires in
    omega (arith, middle (goal.at.overflow_add-middle c).In-Pair, room)

pub returns-in-Symbol : goal.returns-in-Symbol
returns-in-Symbol c =
    λ k. left_symbol k (is_less (goal.at.returns-in-Symbol c).After-rule_of k) c.in-Symbol.field-0 c.in-Symbol.field-1 (symbol_read c.args.table.now c.args.left c.requires.placed.sized.lent.shaped (left_low c.requires) c.in-Symbol.field-0 c.in-Symbol.field-1 (sym c.rule_of.ensures ∙ c.in-Symbol.is))

pub offset_bounds-work-first : goal.offset_bounds-work-first
offset_bounds-work-first c = omega (arith, middle (goal.at.offset_bounds-work-first c).In-Pair)

pub returns-then-second-right : goal.returns-then-second-right
returns-then-second-right c =
    λ k. eq-eqb c.in-Pair.second c.args.right c.if-second-right.true
    ∙ left_same k (is_less (goal.at.returns-then-second-right c).After-rule_of k) c.in-Pair.first c.in-Pair.second (is_pair_lem (goal.at.returns-then-second-right c).In-Pair) c.if-second-right.true

pub is_smaller-requires-else-second-right : goal.is_smaller-requires-else-second-right
is_smaller-requires-else-second-right c =
    let (_, _, apart, filled, room) = order_room c.requires in
    ((middle (goal.at.is_smaller-requires-else-second-right c).In-Pair).1, filled, room, c.requires.placed.sized.lent.long)

pub returns-else-second-right : goal.returns-else-second-right
returns-else-second-right c =
    let u = c.in-Pair.first in
    let v = c.in-Pair.second in
    let p = is_pair_lem (goal.at.returns-else-second-right c).In-Pair in
    let less = c.is_smaller-else-second-right in
    λ k. left_pair k (is_less (goal.at.returns-else-second-right c).After-rule_of k) u v p less.result (right_test k u v p less.result less.ensures)
