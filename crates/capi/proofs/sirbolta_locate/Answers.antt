-- `sirbolta_locate` is `locate`, of what the form says.
use mathlib.Core.Path.{subst}
use mathlib.Core.List.{[], ◌∷◌}
use Rattle.definitions.specs.declared.Content.{Content}
use Rattle.definitions.specs.Services.{Serves, sample_order, locate_service}
use Rattle.definitions.specs.Replies.{SearchReplies}
use Rattle.lists.specs.Serving.{said}
use Rattle.replies.proofs.Outcomes.{search_replies}
use Rattle.capi.proofs.sirbolta_locate.Goals as goal

pub returns : goal.returns
returns c =
    let a = c.args in
    subst (λ (x : Content). Serves (locate_service sample_order a.table.now x a.pattern.now a.work.now a.res.now) (SearchReplies c.replied_search.result) (c.locate.new.work ∷ c.locate.new.res ∷ []))
    c.content_of.ensures (said (search_replies _ _ c.replied_search.ensures) c.locate.ensures)
