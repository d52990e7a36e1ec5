-- `length_of` answers 1 for a symbol. The halves of a pair are rules before it, whose lengths are stored and not above 2,048.
use mathlib.Core.Path.{sym, ◌∙◌}
use Prim.Native.Nat.{◌+◌, ◌≤◌, ◌<◌}
use native.Mathlib.Omega.{arith}
use Rattle.lyndon.specs.Ruled.{PairOf}
use Rattle.layout.specs.Layout.{length_in}
use Rattle.decoding.proofs.Rules.{symbol_read, pair_read}
use Rattle.lengths.proofs.Sizes.{rules_few, symbol_length, pair_length, pair_fits}
use Rattle.lengths.proofs.length_of.Goals.{In-Pair}
use Rattle.lengths.proofs.length_of.Goals as goal

pub rule_of-requires : goal.rule_of-requires
rule_of-requires c = omega (arith, c.requires.1, c.requires.0.lent.shaped.even)

pub returns-in-Symbol : goal.returns-in-Symbol
returns-in-Symbol c =
    symbol_length c.requires.0 c.in-Symbol.field-0 c.in-Symbol.field-1 (symbol_read c.args.table.now c.args.r c.requires.0.lent.shaped c.requires.1 c.in-Symbol.field-0 c.in-Symbol.field-1 (sym c.rule_of.ensures ∙ c.in-Symbol.is))

is_pair_lem : (c : In-Pair) → let a = c.args in PairOf a.table.now a.r c.in-Pair.left c.in-Pair.right
is_pair_lem c =
    pair_read c.args.table.now c.args.r c.requires.0.lent.shaped c.requires.1 c.in-Pair.left c.in-Pair.right (sym c.rule_of.ensures ∙ c.in-Pair.is)

room : (c : In-Pair) → let a = c.args in
    (c.in-Pair.left < 2304) × (c.in-Pair.right < 2304) × (length_in a.work.now c.in-Pair.left + length_in a.work.now c.in-Pair.right ≤ 4096)
room c =
    let (left, right, sum) = pair_fits c.requires.0 c.in-Pair.left c.in-Pair.right (is_pair_lem c) in
    let few = rules_few c.requires.0.lent in
    (omega (arith, c.requires.1), omega (arith, c.requires.1), sum)

pub bounds-work-left : goal.bounds-work-left
bounds-work-left c = omega (arith, room (goal.at.bounds-work-left c).In-Pair, c.requires.0.lent.long)

pub bounds-work-right : goal.bounds-work-right
bounds-work-right c = omega (arith, room (goal.at.bounds-work-right c).In-Pair, c.requires.0.lent.long)

pub returns-in-Pair : goal.returns-in-Pair
returns-in-Pair c =
    pair_length c.requires.0 c.in-Pair.left c.in-Pair.right (is_pair_lem (goal.at.returns-in-Pair c).In-Pair)

pub overflow_add-result : goal.overflow_add-result
overflow_add-result c = omega (arith, room (goal.at.overflow_add-result c).In-Pair)

pub offset_bounds-work-left : goal.offset_bounds-work-left
offset_bounds-work-left c = omega (arith, room (goal.at.offset_bounds-work-left c).In-Pair)

pub overflow_add-result-in-Pair : goal.overflow_add-result-in-Pair
overflow_add-result-in-Pair c = omega (arith, room (goal.at.overflow_add-result-in-Pair c).In-Pair)

pub offset_bounds-work-right : goal.offset_bounds-work-right
offset_bounds-work-right c = omega (arith, room (goal.at.offset_bounds-work-right c).In-Pair)

pub overflow_add-result-in-Pair-2 : goal.overflow_add-result-in-Pair-2
overflow_add-result-in-Pair-2 c = omega (arith, room (goal.at.overflow_add-result-in-Pair-2 c).In-Pair)
