-- `work_fits` answers its check.
use native.Mathlib.Omega.{arith}
use borrow.Author.Tests.{lt-ltb, le-ltb}
use Rattle.layout.specs.Layout.{WORK}
use Rattle.definitions.specs.Services.{outcome_of, refusal_number, refusal_place}
use Rattle.checks.proofs.work_fits.Goals as goal

pub returns-then-n-lt-WORK : goal.returns-then-n-lt-WORK
unfolding outcome_of refusal_number refusal_place
returns-then-n-lt-WORK c = simp (lt-ltb c.args.n WORK (omega arith))

pub returns-else-n-lt-WORK : goal.returns-else-n-lt-WORK
unfolding outcome_of refusal_number refusal_place
returns-else-n-lt-WORK c = simp (le-ltb c.args.n WORK (omega arith))
