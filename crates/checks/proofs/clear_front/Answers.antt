-- `clear_front` clears the front of the work slice and leaves the rest.
use Rattle.checks.proofs.Fronts.{front_cleared}
use Rattle.checks.proofs.clear_front.Goals as goal

pub returns : goal.returns
returns c =
    front_cleared c.args.work.now c.clear.new.s c.requires c.clear.ensures
