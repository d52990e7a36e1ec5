-- `chair_of` answers what stands beside the symbol of rule 0, which cannot be a pair.
use mathlib.Core.Path.{sym, ◌∙◌}
use native.Mathlib.Omega.{arith}
use Rattle.lyndon.specs.Encoding.{beside}
use Rattle.lyndon.specs.Ruled.{SymbolOf}
use Rattle.decoding.proofs.Rules.{symbol_read, pair_read}
use Rattle.decoding.proofs.chair_of.Goals.{In-Symbol}
use Rattle.decoding.proofs.chair_of.Goals as goal

-- rule 0 is read as a symbol
symbol : (c : In-Symbol) → SymbolOf c.args.table.now 0 c.in-Symbol.field-0 c.in-Symbol.beside
symbol c =
    symbol_read c.args.table.now 0 c.requires (omega (arith, c.requires.even, c.requires.filled)) c.in-Symbol.field-0 c.in-Symbol.beside (sym c.rule_of.ensures ∙ c.in-Symbol.is)

pub returns-in-Symbol : goal.returns-in-Symbol
unfolding beside
returns-in-Symbol c = (symbol (goal.at.returns-in-Symbol c).In-Symbol).beside

pub returns-in-Pair : goal.returns-in-Pair
returns-in-Pair c =
    absurd (omega (arith, (pair_read c.args.table.now 0 c.requires (omega (arith, c.requires.even, c.requires.filled)) c.in-Pair.field-0 c.in-Pair.field-1 (sym c.rule_of.ensures ∙ c.in-Pair.is)).left))

pub rule_of-requires : goal.rule_of-requires
rule_of-requires c = omega (arith, c.requires.even, c.requires.filled)

pub overflow_cast-result : goal.overflow_cast-result
overflow_cast-result c = omega (arith, (symbol (goal.at.overflow_cast-result c).In-Symbol).small)
