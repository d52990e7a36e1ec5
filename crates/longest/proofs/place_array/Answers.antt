-- `place_array` leaves what `ends` leaves behind the mark's length.
use Rattle.longest.proofs.Placing.{array_stands}
use Rattle.longest.proofs.place_array.Goals as goal

pub returns : goal.returns
returns c o rules h e =
    array_stands h c.args.n e c.ends.new.work c.ends.ensures c.ends.auto.work
