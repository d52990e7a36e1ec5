-- `sirbolta_count` is `count`, of what the form says.
use mathlib.Core.Path.{subst}
use mathlib.Core.List.{[], ◌∷◌}
use Rattle.definitions.specs.declared.Content.{Content}
use Rattle.definitions.specs.Services.{Serves, sample_order, count_service}
use Rattle.definitions.specs.Replies.{SearchReplies}
use Rattle.lists.specs.Serving.{said}
use Rattle.replies.proofs.Outcomes.{search_replies}
use Rattle.capi.proofs.sirbolta_count.Goals as goal

pub returns : goal.returns
returns c =
    let a = c.args in
    subst (λ (x : Content). Serves (count_service sample_order a.table.now x a.pattern.now a.work.now) (SearchReplies c.replied_search.result) (c.count.new.work ∷ []))
    c.content_of.ensures (said (search_replies _ _ c.replied_search.ensures) c.count.ensures)
