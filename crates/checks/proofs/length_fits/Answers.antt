-- `length_fits` answers its check.
use Prim.Native.Nat.{◌%◌}
use native.Mathlib.Omega.{arith}
use borrow.Author.Tests.{eq-eqb, ne_eqb, lt-ltb, le-ltb}
use Rattle.definitions.specs.Services.{outcome_of, refusal_number, refusal_place}
use Rattle.checks.proofs.length_fits.Goals.{then-n-eq0-via-then-n-eq0, then-n-eq0-via-else-n-eq0+then-n-eq1, then-n-eq0-via-else-n-eq0+else-n-eq1+then-n-gt4608}
use Rattle.checks.proofs.length_fits.Goals as goal

pub returns-then-n-eq0 : goal.returns-then-n-eq0
unfolding outcome_of refusal_number refusal_place
returns-then-n-eq0 c =
    let n = c.args.n in
    elim c.then-n-eq0.branch [
      | then-n-eq0-via-then-n-eq0 w ↦ simp (eq-eqb n 0 (omega arith))
      | then-n-eq0-via-else-n-eq0+then-n-eq1 w ↦ simp (ne_eqb n 0 (λ e. omega arith), eq-eqb (n % 2) 1 (omega arith))
      | then-n-eq0-via-else-n-eq0+else-n-eq1+then-n-gt4608 w ↦ simp (ne_eqb n 0 (λ e. omega arith), ne_eqb (n % 2) 1 (λ e. omega arith), lt-ltb 4608 n (omega arith))
    ]

pub returns : goal.returns
unfolding outcome_of refusal_number refusal_place
returns c =
    let n = c.args.n in
    simp (ne_eqb n 0 (λ e. omega arith), ne_eqb (n % 2) 1 (λ e. omega arith), le-ltb 4608 n (omega arith))
