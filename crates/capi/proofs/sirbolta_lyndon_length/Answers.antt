-- `sirbolta_lyndon_length` is `lyndon_length`.
use mathlib.Core.Path.{◌∙◌, ap}
use Rattle.definitions.specs.Replies.{reply_of}
use Rattle.lists.specs.Serving.{said}
use Rattle.capi.proofs.sirbolta_lyndon_length.Goals as goal

pub returns : goal.returns
returns c = said (λ o e. c.replied.ensures ∙ ap reply_of e) c.lyndon_length.ensures
