-- `deliver_text` spells where the result slice is long enough, and else refuses.
use Rattle.results.proofs.Writing.{list_refused, list_fits, list_written}
use Rattle.delivery.proofs.deliver_text.Goals as goal

pub returns-in_default : goal.returns-in_default
returns-in_default c =
    let a = c.args in
    list_refused a.loaded.now.held.text a.res.now c.len.result c.len.ensures c.result_fits-a.result c.result_fits-a.ensures c.in_default.is

pub spell_text-requires : goal.spell_text-requires
spell_text-requires c =
    let a = c.args in
    list_fits a.loaded.now.held.text a.res.now c.len.result c.len.ensures c.result_fits-a.result c.result_fits-a.ensures c.in-Ok.is

pub returns : goal.returns
returns c =
    let a = c.args in
    list_written a.loaded.now.held.text a.res.now c.len.result c.len.ensures c.result_fits-a.result c.result_fits-a.ensures c.spell_text.new.res c.in-Ok.is c.spell_text.ensures
