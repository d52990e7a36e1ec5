-- `sirbolta_read` is `read`.
use mathlib.Core.Path.{◌∙◌, ap}
use Rattle.definitions.specs.Replies.{reply_of}
use Rattle.lists.specs.Serving.{said}
use Rattle.capi.proofs.sirbolta_read.Goals as goal

pub returns : goal.returns
returns c = said (λ o e. c.replied_read.ensures ∙ ap reply_of e) c.read.ensures
