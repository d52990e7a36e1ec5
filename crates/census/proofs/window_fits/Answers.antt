-- `window_fits` answers its check.
use native.Mathlib.Omega.{arith}
use borrow.Author.Tests.{lt-ltb, le-ltb}
use Rattle.definitions.specs.Services.{outcome_of, refusal_number, refusal_place}
use Rattle.census.proofs.window_fits.Goals.{then-q-lt1-via-then-q-lt1, then-q-lt1-via-else-q-lt1+then-q-gt8}
use Rattle.census.proofs.window_fits.Goals as goal

pub returns-then-q-lt1 : goal.returns-then-q-lt1
unfolding outcome_of refusal_number refusal_place
returns-then-q-lt1 c =
    let q = c.args.q in
    elim c.then-q-lt1.branch [
      | then-q-lt1-via-then-q-lt1 w ↦ simp (lt-ltb q 1 (omega arith))
      | then-q-lt1-via-else-q-lt1+then-q-gt8 w ↦ simp (le-ltb q 1 (omega arith), lt-ltb 8 q (omega arith))
    ]

pub returns : goal.returns
unfolding outcome_of refusal_number refusal_place
returns c = let q = c.args.q in simp (le-ltb q 1 (omega arith), le-ltb 8 q (omega arith))
