-- `enter_halves` judges a symbol by its entry, and a pair by the number that are met once both halves are entered.
use mathlib.Core.Path.{◌≡◌, sym, ◌∙◌, ap}
use Prim.Native.Nat.{ℕ, ◌+◌, ◌≤◌, ◌<◌}
use native.Mathlib.Omega.{arith}
use lib.Dec.{eqb}
use Rattle.lyndon.specs.Meeting.{after}
use Rattle.lyndon.specs.Ruled.{PairOf}
use Rattle.layout.specs.Layout.{length_in, entry_in, place_in}
use Rattle.decoding.proofs.Rules.{symbol_read, pair_read}
use Rattle.lengths.proofs.Sizes.{rules_few}
use Rattle.entries.specs.Entries.{entered}
use Rattle.entries.proofs.Steps.{entry_low, symbol_judged, pair_room, after_room, pair_judged}
use Rattle.entries.proofs.enter_halves.Goals.{In-Pair}
use Rattle.entries.proofs.enter_halves.Goals as goal

pub rule_of-requires : goal.rule_of-requires
rule_of-requires c = omega (arith, c.requires.1, c.requires.0.sized.lent.shaped.even)

pub bounds-work-r : goal.bounds-work-r
bounds-work-r c = let few = rules_few c.requires.0.sized.lent in omega (arith, c.requires.1, c.requires.0.sized.lent.long)

pub returns-in-Symbol : goal.returns-in-Symbol
returns-in-Symbol c =
    symbol_judged c.requires.0 c.requires.1 c.in-Symbol.field-0 c.in-Symbol.field-1
    (symbol_read c.args.table.now c.args.r c.requires.0.sized.lent.shaped c.requires.1 c.in-Symbol.field-0 c.in-Symbol.field-1 (sym c.rule_of.ensures ∙ c.in-Symbol.is))

-- the rule is a pair
is_pair_lem : (c : In-Pair) → PairOf c.args.table.now c.args.r c.in-Pair.left c.in-Pair.right
is_pair_lem c =
    pair_read c.args.table.now c.args.r c.requires.0.sized.lent.shaped c.requires.1 c.in-Pair.left c.in-Pair.right (sym c.rule_of.ensures ∙ c.in-Pair.is)

room : (c : In-Pair) → let w = c.args.work.now in
    (c.in-Pair.left < c.args.r) × (c.in-Pair.right < c.args.r) × (c.args.r < 2304) × (place_in w c.args.r + length_in w c.in-Pair.left ≤ 2048)
room c =
    pair_room c.requires.0 c.requires.1 c.in-Pair.left c.in-Pair.right (is_pair_lem c)

pub bounds-work-left : goal.bounds-work-left
bounds-work-left c = omega (arith, room (goal.at.bounds-work-left c).In-Pair, c.requires.0.sized.lent.long)

pub enter-d-requires : goal.enter-d-requires
enter-d-requires c =
    (omega (arith, room (goal.at.enter-d-requires c).In-Pair), omega (arith, room (goal.at.enter-d-requires c).In-Pair, entry_low c.requires.0 c.requires.1), c.requires.0.sized.lent.long)

pub enter-requires : goal.enter-requires
enter-requires c =
    let low = after_room c.requires.0 c.requires.1 c.in-Pair.left c.in-Pair.right (is_pair_lem (goal.at.enter-requires c).In-Pair) in
    (omega (arith, room (goal.at.enter-requires c).In-Pair), omega (arith, room (goal.at.enter-requires c).In-Pair, c.enter-d.ensures.0, low.0), omega (arith, c.enter-d.auto.work, c.requires.0.sized.lent.long))

pub returns-in-Pair : goal.returns-in-Pair
returns-in-Pair c =
    let w = c.args.work.now in
    let u = c.in-Pair.left in
    let v = c.in-Pair.right in
    let d = after (entry_in w c.args.r) u in
    let behind = place_in w c.args.r + length_in w u in
    let (met-so, met-not) = pair_judged c.requires.0 c.requires.1 u v (is_pair_lem (goal.at.returns-in-Pair c).In-Pair) c.enter-d.new.work c.enter.new.work c.enter-d.ensures.1
    (c.enter.ensures.1 ∙ ap (λ (n : ℕ). entered c.enter-d.new.work n v behind) c.enter-d.ensures.0) in
    let same : eqb (after d v) c.args.r ≡ eqb c.enter.result c.args.r = ap (λ (n : ℕ). eqb n c.args.r) (sym (c.enter.ensures.0 ∙ ap (λ (n : ℕ). after n v) c.enter-d.ensures.0)) in
    (λ t. met-so (same ∙ t), λ t. met-not (same ∙ t))

pub overflow_add-e : goal.overflow_add-e
overflow_add-e c = let few = rules_few c.requires.0.sized.lent in omega (arith, c.requires.1)

pub offset_bounds-work-r : goal.offset_bounds-work-r
offset_bounds-work-r c = let few = rules_few c.requires.0.sized.lent in omega (arith, c.requires.1)

pub overflow_add-start : goal.overflow_add-start
overflow_add-start c = omega (arith, room (goal.at.overflow_add-start c).In-Pair)

pub offset_bounds-work-r-in-Pair : goal.offset_bounds-work-r-in-Pair
offset_bounds-work-r-in-Pair c = omega (arith, room (goal.at.offset_bounds-work-r-in-Pair c).In-Pair)

pub bounds-work-r-in-Pair : goal.bounds-work-r-in-Pair
bounds-work-r-in-Pair c = omega (arith, room (goal.at.bounds-work-r-in-Pair c).In-Pair, c.requires.0.sized.lent.long)

pub overflow_add-behind : goal.overflow_add-behind
overflow_add-behind c = omega (arith, room (goal.at.overflow_add-behind c).In-Pair)

pub offset_bounds-work-left : goal.offset_bounds-work-left
offset_bounds-work-left c = omega (arith, room (goal.at.offset_bounds-work-left c).In-Pair)

pub overflow_add-behind-in-Pair : goal.overflow_add-behind-in-Pair
overflow_add-behind-in-Pair c = omega (arith, room (goal.at.overflow_add-behind-in-Pair c).In-Pair)
