-- `chair` is the chair number of the text that is held.
use Rattle.definitions.specs.Services.{sample_order}
use Rattle.state.proofs.LoadedText.chair.Goals as goal

pub returns : goal.returns
returns c = c.chair_number.ensures sample_order c.args.self.now.held
