-- `text_fits` answers its check.
use native.Mathlib.Omega.{arith}
use lib.ListN.{length}
use borrow.Author.Tests.{lt-ltb, le-ltb}
use Rattle.definitions.specs.Services.{outcome_of, refusal_number, refusal_place}
use Rattle.checks.proofs.text_fits.Goals as goal

pub returns-then-text-gt2047 : goal.returns-then-text-gt2047
unfolding outcome_of refusal_number refusal_place
returns-then-text-gt2047 c = simp (lt-ltb 2047 (length c.args.text.now) (omega arith))

pub returns-else-text-gt2047 : goal.returns-else-text-gt2047
unfolding outcome_of refusal_number refusal_place
returns-else-text-gt2047 c = simp (le-ltb 2047 (length c.args.text.now) (omega arith))
