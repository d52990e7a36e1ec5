-- `found_of_one` compares a symbol rule's rank, or adds what both halves of a pair have: one sample has no cut.
use mathlib.Core.Path.{◌≡◌, refl, sym, ◌∙◌}
use native.Mathlib.Omega.{arith}
use Rattle.layout.specs.Layout.{place_in, length_in}
use Rattle.decoding.specs.declared.Rule.TheVariants.{Pair}
use Rattle.decoding.specs.Decoding.{rule_in}
use Rattle.joins.proofs.Joining.{join_one}
use Rattle.rule_finds.proofs.Counting.{PairKnown, turn_known, pair_known, pair_found}
use Rattle.rule_finds.proofs.found_of_one.Goals.{In-Pair}
use Rattle.rule_finds.proofs.found_of_one.Goals as goal

pub found_in_symbol-requires : goal.found_in_symbol-requires
found_in_symbol-requires c =
    record { one = c.requires; number = c.in-Symbol.field-0; beside = c.in-Symbol.field-1; rule = sym c.rule_in.ensures ∙ c.in-Symbol.is }

pub returns-in-Symbol : goal.returns-in-Symbol
returns-in-Symbol c h =
    c.found_in_symbol.ensures record { one = h; number = c.in-Symbol.field-0; beside = c.in-Symbol.field-1; rule = sym c.rule_in.ensures ∙ c.in-Symbol.is }

-- the rule is read as a pair
is_pair_lem : (c : In-Pair) → let a = c.args in rule_in a.work.now a.r ≡ Pair c.in-Pair.u c.in-Pair.v
is_pair_lem c = sym c.rule_in.ensures ∙ c.in-Pair.is

known : (c : In-Pair) → let a = c.args in
    PairKnown c.in-Pair.u c.in-Pair.v (place_in a.work.now a.r) a.work.now
known c = pair_known c.requires.turn c.in-Pair.u c.in-Pair.v (is_pair_lem c)

pub found-requires : goal.found-requires
found-requires c =
    let k = known (goal.at.found-requires c).In-Pair in
    (k.left, k.right, k.most, k.apart, omega arith)

pub returns-in-Pair : goal.returns-in-Pair
returns-in-Pair c h =
    let a = c.args in
    let w = a.work.now in
    let u = c.in-Pair.u in
    let v = c.in-Pair.v in
    let t = h.turn in
    pair_found t u v (is_pair_lem (goal.at.returns-in-Pair c).In-Pair) (place_in w a.r) (length_in w u) (length_in w v) 0 c.found.result refl refl refl
    (join_one w h.size h.cuts (place_in w a.r) (length_in w u) (length_in w v) t.counting.tried (known (goal.at.returns-in-Pair c).In-Pair).inside (turn_known t).long h.short)
    (omega (arith, c.found.ensures.0)) (omega (arith, c.found.ensures.1))

pub rule_in-requires : goal.rule_in-requires
rule_in-requires c = turn_known c.requires.turn
