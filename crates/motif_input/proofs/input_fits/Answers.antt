-- `input_fits` answers its check.
use native.Mathlib.Omega.{arith}
use lib.ListN.{length}
use borrow.Author.Tests.{lt-ltb, le-ltb}
use Rattle.definitions.specs.Services.{outcome_of, refusal_number, refusal_place}
use Rattle.motif_input.proofs.input_fits.Goals as goal

pub returns-then-input-gt4095 : goal.returns-then-input-gt4095
unfolding outcome_of refusal_number refusal_place
returns-then-input-gt4095 c = simp (lt-ltb 4095 (length c.args.input.now) (omega arith))

pub returns-else-input-gt4095 : goal.returns-else-input-gt4095
unfolding outcome_of refusal_number refusal_place
returns-else-input-gt4095 c = simp (le-ltb 4095 (length c.args.input.now) (omega arith))
