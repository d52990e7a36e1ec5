-- `deliver` copies where the result slice is long enough, and else refuses.
use mathlib.Core.Path.{refl}
use lib.ListN.{length}
use Rattle.results.proofs.Writing.{list_refused, list_fits, list_written}
use Rattle.delivery.proofs.deliver.Goals as goal

pub returns-in_default : goal.returns-in_default
returns-in_default c =
    let a = c.args in
    list_refused a.words.now a.res.now (length a.words.now) refl c.result_fits-a.result c.result_fits-a.ensures c.in_default.is

pub copy-requires : goal.copy-requires
copy-requires c =
    let a = c.args in
    list_fits a.words.now a.res.now (length a.words.now) refl c.result_fits-a.result c.result_fits-a.ensures c.in-Ok.is

pub returns : goal.returns
returns c =
    let a = c.args in
    list_written a.words.now a.res.now (length a.words.now) refl c.result_fits-a.result c.result_fits-a.ensures c.copy.new.to c.in-Ok.is c.copy.ensures
