-- `sirbolta_to_steps` is `to_steps`.
use mathlib.Core.Path.{◌∙◌, ap}
use Rattle.definitions.specs.Replies.{reply_of}
use Rattle.lists.specs.Serving.{said}
use Rattle.capi.proofs.sirbolta_to_steps.Goals as goal

pub returns : goal.returns
returns c = said (λ o e. c.replied.ensures ∙ ap reply_of e) c.to_steps.ensures
