-- `new` holds what it is given: no other text and chair number are held there.
use borrow.Author.Rules.{rules}
use Rattle.state.specs.One.{same_text, same_chair}
use Rattle.state.proofs.LoadedText.new.Goals as goal

pub returns : goal.returns
returns c h = search (same_text, same_chair, rules)
