-- `len` is the length of the text that is held.
use Rattle.definitions.specs.Services.{sample_order}
use Rattle.state.proofs.LoadedText.len.Goals as goal

pub returns : goal.returns
returns c = c.text_length.ensures sample_order c.args.self.now.held
