-- `range_fits` answers its check: no sum is formed, so none wraps.
use Prim.Native.Nat.{◌+◌}
use native.Mathlib.Omega.{arith}
use borrow.Author.Tests.{lt-ltb, le-ltb}
use Rattle.definitions.specs.Services.{outcome_of, refusal_number, refusal_place}
use Rattle.results.proofs.range_fits.Goals.{then-n-start-via-then-n-start, then-n-start-via-else-n-start+then-n-start-2}
use Rattle.results.proofs.range_fits.Goals as goal

pub returns-then-n-start : goal.returns-then-n-start
unfolding outcome_of refusal_number refusal_place
returns-then-n-start c =
    let a = c.args in
    elim c.then-n-start.branch [
      | then-n-start-via-then-n-start w ↦ simp (lt-ltb a.n (a.start + a.count) (omega arith))
      | then-n-start-via-else-n-start+then-n-start-2 w ↦ simp (lt-ltb a.n (a.start + a.count) (omega arith))
    ]

pub returns : goal.returns
unfolding outcome_of refusal_number refusal_place
returns c =
    let a = c.args in
    simp (le-ltb a.n (a.start + a.count) (omega arith))
