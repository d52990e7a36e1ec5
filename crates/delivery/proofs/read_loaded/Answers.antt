-- `read_loaded` delivers the text, and answers with the chair number.
use mathlib.Core.Path.{◌∙◌, ap}
use Prim.Native.Nat.{ℕ}
use lib.ListN.{length}
use Rattle.definitions.specs.Services.{done, read_outcome}
use Rattle.lists.specs.Serving.{restated}
use Rattle.results.proofs.Answers.{chair_refused, chair_done}
use Rattle.delivery.proofs.read_loaded.Goals as goal

pub returns : goal.returns
returns c =
    let r = c.deliver_text-a.result in
    let size = length c.args.loaded.now.held.text in
    restated (λ i j q. ap read_outcome c.with_chair.ensures ∙ chair_refused r c.chair.result i j q)
    (λ q. ap read_outcome c.with_chair.ensures ∙ chair_done r c.chair.result size q ∙ ap (λ (n : ℕ). done size n) c.chair.ensures) c.deliver_text-a.ensures
