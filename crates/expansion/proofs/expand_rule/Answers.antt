-- `expand_rule` goes on with what the rule is read as: a symbol's rank is written, of a pair the right half is left pending.
use mathlib.Core.Path.{◌≡◌, refl, sym, ◌∙◌}
use native.Mathlib.Omega.{arith}
use Rattle.decoding.specs.declared.Rule.TheVariants.{Symbol, Pair}
use Rattle.decoding.specs.Decoding.{rule_at}
use Rattle.expansion.proofs.Walking.{symbol_here, pair_here, symbol_last, symbol_next, pair_stepped}
use Rattle.expansion.proofs.expand_rule.Goals.{In-Pair, In-Symbol}
use Rattle.expansion.proofs.expand_rule.Goals as goal

is_symbol : (c : In-Symbol) → let a = c.args in rule_at a.table.now a.p.rule ≡ Symbol c.in-Symbol.number c.in-Symbol.field-1
is_symbol c = sym c.rule_of.ensures ∙ c.in-Symbol.is

pub symbol_rank-requires : goal.symbol_rank-requires
symbol_rank-requires c =
    (symbol_here c.requires c.in-Symbol.number c.in-Symbol.field-1 (is_symbol (goal.at.symbol_rank-requires c).In-Symbol)).number

pub returns-then-pending-eq0 : goal.returns-then-pending-eq0
returns-then-pending-eq0 c =
    symbol_last c.requires _ c.in-Symbol.number c.in-Symbol.field-1 c.symbol_rank.result (is_symbol (goal.at.returns-then-pending-eq0 c).In-Symbol)
    c.symbol_rank.ensures refl c.if-pending-eq0.true

pub returns-else-pending-eq0 : goal.returns-else-pending-eq0
returns-else-pending-eq0 c =
    symbol_next c.requires _ c.in-Symbol.number c.in-Symbol.field-1 c.symbol_rank.result (is_symbol (goal.at.returns-else-pending-eq0 c).In-Symbol)
    c.symbol_rank.ensures refl _ c.if-pending-eq0.false refl

is_pair_lem : (c : In-Pair) → let a = c.args in rule_at a.table.now a.p.rule ≡ Pair c.in-Pair.left c.in-Pair.right
is_pair_lem c = sym c.rule_of.ensures ∙ c.in-Pair.is

pub overflow_cast-work : goal.overflow_cast-work
overflow_cast-work c =
    let h = c.requires in
    omega (arith, (pair_here h c.in-Pair.left c.in-Pair.right (is_pair_lem (goal.at.overflow_cast-work c).In-Pair)).right, h.expanding.low, h.most)

pub returns-in-Pair : goal.returns-in-Pair
returns-in-Pair c =
    pair_stepped c.requires _ c.in-Pair.left c.in-Pair.right (is_pair_lem (goal.at.returns-in-Pair c).In-Pair) refl
