-- `length_at` reads the length of a rule that is measured; a word that names none of them stands for no symbols.
use Rattle.naive_tests.proofs.Testing.{named, none_named}
use Rattle.naive_tests.proofs.length_at.Goals as goal

pub returns-then-q-n : goal.returns-then-q-n
returns-then-q-n c = let a = c.args in λ t s o. named t a.n a.x a.lengths.now c.if-q-n.true s o

pub returns-else-q-n : goal.returns-else-q-n
returns-else-q-n c = let a = c.args in λ t s o. none_named t a.n a.x c.if-q-n.false o
