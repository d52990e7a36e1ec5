-- The answer to reading a table back, from an answer and the chair number; and to a search, from an answer and the number of its tests.
use Rattle.std.specs.Prelude.{ℕ, Ok, Err}
use Rattle.definitions.specs.declared.Search.{Search}
use Rattle.definitions.specs.Services.{Answer, ReadAnswer}

unfoldable pub with_chair : Answer → ℕ → ReadAnswer
with_chair (Ok n) chair = Ok (record { samples = n; chair = chair })
with_chair (Err r) chair = Err r

unfoldable pub with_tests : Answer → ℕ → Search
with_tests (Ok n) tests = record { answer = Ok n; tests = tests }
with_tests (Err r) tests = record { answer = Err r; tests = 0 }
