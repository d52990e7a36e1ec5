-- `headings_fit` answers its check, by the lowest byte off heading.
use mathlib.Core.Path.{◌∙◌, ap}
use Prim.Native.Nat.{ℕ}
use native.Mathlib.Omega.{arith}
use Rattle.definitions.specs.Services.{refused, outcome_of, refusal_number, refusal_place}
use Rattle.profile.proofs.Headings.{off_refused, none_off}
use Rattle.profile.proofs.headings_fit.Goals as goal

pub returns-in-Some : goal.returns-in-Some
unfolding outcome_of refusal_number refusal_place
returns-in-Some c = ap (λ (n : ℕ). refused 11 n) c.in-Some.ensures.0 ∙ off_refused c.args.text.now (omega (arith, c.in-Some.ensures))

pub returns : goal.returns
unfolding outcome_of
returns c = none_off c.args.text.now (omega (arith, c.in_default.ensures))
