-- `ends_fit` answers its check, by whether the drive is at rest at both ends.
use mathlib.Core.Path.{sym, ◌∙◌}
use Rattle.definitions.specs.Services.{outcome_of, refusal_number, refusal_place}
use Rattle.profile.proofs.Headings.{rest_refused, at_rest_fits}
use Rattle.profile.proofs.ends_fit.Goals as goal

pub returns-then-not-at_rest : goal.returns-then-not-at_rest
unfolding outcome_of refusal_number refusal_place
returns-then-not-at_rest c =
    rest_refused c.args.text.now (sym c.at_rest.ensures ∙ c.if-not-at_rest.true)

pub returns : goal.returns
unfolding outcome_of
returns c =
    at_rest_fits c.args.text.now (sym c.at_rest.ensures ∙ c.if-not-at_rest.false)
