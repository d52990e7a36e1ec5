-- `sirbolta_build_profile` is `build_profile`.
use mathlib.Core.Path.{◌∙◌, ap}
use Rattle.definitions.specs.Replies.{reply_of}
use Rattle.lists.specs.Serving.{said}
use Rattle.capi.proofs.sirbolta_build_profile.Goals as goal

pub returns : goal.returns
returns c = said (λ o e. c.replied.ensures ∙ ap reply_of e) c.build_profile.ensures
