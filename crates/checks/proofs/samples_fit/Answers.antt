-- `samples_fit` answers its check.
use native.Mathlib.Omega.{arith}
use lib.ListN.{length}
use borrow.Author.Tests.{eq-eqb, ne_eqb}
use Rattle.definitions.specs.Services.{outcome_of, refusal_number, refusal_place}
use Rattle.checks.proofs.samples_fit.Goals as goal

pub returns-then-pattern-eq0 : goal.returns-then-pattern-eq0
unfolding outcome_of refusal_number refusal_place
returns-then-pattern-eq0 c = simp (eq-eqb (length c.args.pattern.now) 0 (omega arith))

pub returns-else-pattern-eq0 : goal.returns-else-pattern-eq0
unfolding outcome_of refusal_number refusal_place
returns-else-pattern-eq0 c = simp (ne_eqb (length c.args.pattern.now) 0 (λ e. omega arith))
