-- `rule_of` tells a symbol from a pair by the first word.
use mathlib.Core.Path.{refl}
use Rattle.decoding.proofs.Rules.{read_symbol, read_pair}
use Rattle.decoding.proofs.rule_of.Goals as goal

pub returns-then-x-lt-KIND : goal.returns-then-x-lt-KIND
returns-then-x-lt-KIND c = let a = c.args in read_symbol a.words.now a.r c.if-x-lt-KIND.true

pub returns : goal.returns
returns c = let a = c.args in read_pair a.words.now a.r _ _ c.if-x-lt-KIND.false refl refl
