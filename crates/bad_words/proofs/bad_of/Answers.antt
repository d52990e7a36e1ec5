-- `bad_of` tests for a left half first, then for a symbol.
use Rattle.std.proofs.Common.{Option, Some, None, ◌≡◌, ℕ, cond, sym, ◌∙◌, arith}
use Rattle.lists.specs.Bools.{cond_true, cond_false}
use Rattle.bad_words.proofs.Words.{bad_of, left_bad, other_bad, symbol_bad}
use Rattle.bad_words.proofs.bad_of.Goals.{After-is_beside_symbol, After-is_half-then-is_half}
use Rattle.bad_words.proofs.bad_of.Goals as goal

-- behind a left half, and behind a symbol
left : (c : After-is_half-then-is_half) → let a = c.args in ◌≡◌ {A = Option ℕ} (bad_of a.r a.x a.y) (cond c.is_half-then-is_half.result None (Some 1))
left c =
    let a = c.args in
    rw c.is_half-then-is_half.ensures (left_bad a.r a.x a.y c.requires (sym c.is_half.ensures ∙ c.if-is_half.true))

symbol : (c : After-is_beside_symbol) → let a = c.args in ◌≡◌ {A = Option ℕ} (bad_of a.r a.x a.y) (cond c.is_beside_symbol.result None (Some 1))
symbol c =
    let a = c.args in
    rw c.is_beside_symbol.ensures (symbol_bad a.r a.x a.y c.requires (sym c.is_half.ensures ∙ c.if-is_half.false) (omega (arith, c.if-x-gt256.false)))

pub returns-then-x-gt256 : goal.returns-then-x-gt256
returns-then-x-gt256 c =
    let a = c.args in
    sym (other_bad a.r a.x a.y c.requires (sym c.is_half.ensures ∙ c.if-is_half.false) c.if-x-gt256.true)

pub is_half-requires : goal.is_half-requires
is_half-requires c = omega (arith, c.requires)

pub is_half-requires-then-is_half : goal.is_half-requires-then-is_half
is_half-requires-then-is_half c = omega (arith, c.requires)

pub returns-then-is_half-2 : goal.returns-then-is_half-2
returns-then-is_half-2 c = sym (left (goal.at.returns-then-is_half-2 c).After-is_half-then-is_half ∙ cond_true _ None (Some 1) c.if-is_half-2.true)

pub returns-else-is_half-2 : goal.returns-else-is_half-2
returns-else-is_half-2 c = sym (left (goal.at.returns-else-is_half-2 c).After-is_half-then-is_half ∙ cond_false _ None (Some 1) c.if-is_half-2.false)

pub returns-then-is_beside_symbol : goal.returns-then-is_beside_symbol
returns-then-is_beside_symbol c = sym (symbol (goal.at.returns-then-is_beside_symbol c).After-is_beside_symbol ∙ cond_true _ None (Some 1) c.if-is_beside_symbol.true)

pub returns-else-is_beside_symbol : goal.returns-else-is_beside_symbol
returns-else-is_beside_symbol c = sym (symbol (goal.at.returns-else-is_beside_symbol c).After-is_beside_symbol ∙ cond_false _ None (Some 1) c.if-is_beside_symbol.false)
