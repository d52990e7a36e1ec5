-- `size_fits` answers its check.
use native.Mathlib.Omega.{arith}
use lib.ListN.{length}
use borrow.Author.Tests.{lt-ltb, le-ltb}
use Rattle.definitions.specs.Services.{outcome_of, refusal_number, refusal_place}
use Rattle.checks.proofs.size_fits.Goals as goal

pub returns-then-pattern-gt2047 : goal.returns-then-pattern-gt2047
unfolding outcome_of refusal_number refusal_place
returns-then-pattern-gt2047 c = simp (lt-ltb 2047 (length c.args.pattern.now) (omega arith))

pub returns-else-pattern-gt2047 : goal.returns-else-pattern-gt2047
unfolding outcome_of refusal_number refusal_place
returns-else-pattern-gt2047 c = simp (le-ltb 2047 (length c.args.pattern.now) (omega arith))
