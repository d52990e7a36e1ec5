-- `fill_rule` stores a symbol's rank; of a pair it writes both halves, and has them compared there.
use mathlib.Core.Path.{refl, sym, ◌∙◌}
use Prim.Native.Nat.{◌+◌, ◌≤◌, ◌<◌}
use native.Mathlib.Omega.{arith}
use Rattle.lists.specs.Bools.{contra}
use Rattle.lyndon.specs.Ruled.{SymbolOf, PairOf}
use Rattle.layout.specs.Layout.{length_in, place_in}
use Rattle.decoding.proofs.Rules.{symbol_read, pair_read}
use Rattle.lengths.proofs.Sizes.{rules_few}
use Rattle.filling.proofs.Rules.{place_room, sample_number, symbol_written, left_room, left_copyable, right_copyable, pair_written, pair_judged}
use Rattle.filling.proofs.fill_rule.Goals.{In-Pair, In-Symbol}
use Rattle.filling.proofs.fill_rule.Goals as goal

pub rule_of-requires : goal.rule_of-requires
rule_of-requires c = omega (arith, c.requires.1, c.requires.0.placed.sized.lent.shaped.even)

is_symbol : (c : In-Symbol) → SymbolOf c.args.table.now c.args.r c.in-Symbol.number c.in-Symbol.field-1
is_symbol c =
    symbol_read c.args.table.now c.args.r c.requires.0.placed.sized.lent.shaped c.requires.1 c.in-Symbol.number c.in-Symbol.field-1 (sym c.rule_of.ensures ∙ c.in-Symbol.is)

pub rank_of_number-requires : goal.rank_of_number-requires
rank_of_number-requires c =
    sample_number (is_symbol (goal.at.rank_of_number-requires c).In-Symbol) c.requires.2

pub bounds-work-start : goal.bounds-work-start
bounds-work-start c =
    omega (arith, (place_room c.requires.0 c.requires.1).1, c.requires.0.placed.sized.lent.long)

pub returns-in-Symbol : goal.returns-in-Symbol
returns-in-Symbol c =
    (λ t. symbol_written c.requires.0 c.requires.1 c.in-Symbol.number c.in-Symbol.field-1 (is_symbol (goal.at.returns-in-Symbol c).In-Symbol) c.rank_of_number.result c.rank_of_number.ensures, λ t. contra refl t)

is_pair_lem : (c : In-Pair) → PairOf c.args.table.now c.args.r c.in-Pair.left c.in-Pair.right
is_pair_lem c =
    pair_read c.args.table.now c.args.r c.requires.0.placed.sized.lent.shaped c.requires.1 c.in-Pair.left c.in-Pair.right (sym c.rule_of.ensures ∙ c.in-Pair.is)

room : (c : In-Pair) → (c.in-Pair.left < 2304) × (c.in-Pair.right < 2304) × (place_in c.args.work.now c.args.r + length_in c.args.work.now c.in-Pair.left ≤ 2048)
room c =
    left_room c.requires.0 c.requires.1 c.in-Pair.left c.in-Pair.right (is_pair_lem c)

pub bounds-work-left : goal.bounds-work-left
bounds-work-left c = omega (arith, room (goal.at.bounds-work-left c).In-Pair, c.requires.0.placed.sized.lent.long)

pub write_rule-requires : goal.write_rule-requires
write_rule-requires c =
    left_copyable c.requires.0 c.requires.1 c.in-Pair.left c.in-Pair.right (is_pair_lem (goal.at.write_rule-requires c).In-Pair)

pub write_rule-requires-in-Pair : goal.write_rule-requires-in-Pair
write_rule-requires-in-Pair c =
    right_copyable c.requires.0 c.requires.1 c.in-Pair.left c.in-Pair.right (is_pair_lem (goal.at.write_rule-requires-in-Pair c).In-Pair) c.write_rule.new.work c.write_rule.ensures

pub in_order-requires : goal.in_order-requires
in_order-requires c =
    pair_written c.requires.0 c.requires.1 c.in-Pair.left c.in-Pair.right (is_pair_lem (goal.at.in_order-requires c).In-Pair) c.write_rule.new.work c.write_rule.ensures c.write_rule-in-Pair.new.work c.write_rule-in-Pair.ensures

pub returns-in-Pair : goal.returns-in-Pair
returns-in-Pair c =
    pair_judged c.requires.0 c.requires.1 c.in-Pair.left c.in-Pair.right (is_pair_lem (goal.at.returns-in-Pair c).In-Pair) c.write_rule.new.work c.write_rule.ensures c.write_rule-in-Pair.new.work c.write_rule-in-Pair.ensures
    c.in_order.result c.in_order.ensures

pub offset_bounds-work-r : goal.offset_bounds-work-r
offset_bounds-work-r c = let z = rules_few c.requires.0.placed.sized.lent in omega (arith, c.requires.1)

pub bounds-work-r : goal.bounds-work-r
bounds-work-r c = let z = rules_few c.requires.0.placed.sized.lent in omega (arith, c.requires.1, c.requires.0.placed.sized.lent.long)

pub offset_bounds-work-left : goal.offset_bounds-work-left
offset_bounds-work-left c = omega (arith, room (goal.at.offset_bounds-work-left c).In-Pair)

pub overflow_add-behind : goal.overflow_add-behind
overflow_add-behind c = omega (arith, room (goal.at.overflow_add-behind c).In-Pair)
