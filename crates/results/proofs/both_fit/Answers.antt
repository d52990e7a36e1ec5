-- `both_fit` answers its check: both slices are looked at.
use native.Mathlib.Omega.{arith}
use borrow.Author.Tests.{lt-ltb, le-ltb}
use Rattle.definitions.specs.Services.{outcome_of, refusal_number, refusal_place}
use Rattle.results.proofs.both_fit.Goals.{else-first-n-via-then-first-n+else-second-m, else-first-n-via-else-first-n}
use Rattle.results.proofs.both_fit.Goals as goal

pub returns-then-second-m : goal.returns-then-second-m
unfolding outcome_of refusal_number refusal_place
returns-then-second-m c =
    let a = c.args in
    simp (le-ltb a.n a.first (omega arith), le-ltb a.m a.second (omega arith))

pub returns-else-first-n : goal.returns-else-first-n
unfolding outcome_of refusal_number refusal_place
returns-else-first-n c =
    let a = c.args in
    elim c.else-first-n.branch [
      | else-first-n-via-then-first-n+else-second-m w ↦ simp (le-ltb a.n a.first (omega arith), lt-ltb a.m a.second (omega arith))
      | else-first-n-via-else-first-n w ↦ simp (lt-ltb a.n a.first (omega arith))
    ]
