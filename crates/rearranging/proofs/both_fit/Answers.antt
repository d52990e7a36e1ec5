-- `both_fit` answers its two checks.
use mathlib.Core.Path.{refl, ◌∙◌, ap}
use mathlib.Core.List.{[], ◌∷◌}
use Prim.Native.Nat.{ℕ}
use lib.ListN.{length}
use Rattle.definitions.specs.Services.{first_met, text_too_long, result_too_short}
use Rattle.lists.specs.Decisions.{checked, refused_already, done_met}
use Rattle.rearranging.proofs.both_fit.Goals as goal

pub returns-in_default : goal.returns-in_default
unfolding first_met
returns-in_default c =
    let a = c.args in
    let text = a.text.now in
    refused_already (text_too_long text ∷ []) (length text) c.text_fits-a.ensures c.in_default.is (result_too_short (length text) a.n ∷ [])

pub returns : goal.returns
unfolding first_met
returns c =
    let a = c.args in
    let text = a.text.now in
    let (q, g) = done_met (text_too_long text) (length text) c.text_fits-a.ensures c.in-Ok.is in
    c.result_fits.ensures ∙ ap (λ (m : ℕ). checked (result_too_short m a.n) m) g ∙ rw q refl
