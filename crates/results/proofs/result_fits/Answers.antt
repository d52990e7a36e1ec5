-- `result_fits` answers its check.
use native.Mathlib.Omega.{arith}
use borrow.Author.Tests.{lt-ltb, le-ltb}
use Rattle.definitions.specs.Services.{outcome_of, refusal_number, refusal_place}
use Rattle.results.proofs.result_fits.Goals as goal

pub returns-then-n-needed : goal.returns-then-n-needed
unfolding outcome_of refusal_number refusal_place
returns-then-n-needed c = let a = c.args in simp (lt-ltb a.n a.needed (omega arith))

pub returns-else-n-needed : goal.returns-else-n-needed
unfolding outcome_of refusal_number refusal_place
returns-else-n-needed c = let a = c.args in simp (le-ltb a.n a.needed (omega arith))
