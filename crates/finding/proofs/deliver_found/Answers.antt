-- `deliver_found` lists where the result slice is long enough, and else refuses.
use lib.ListN.{drop}
use Rattle.definitions.specs.Occurrences.{occurrences}
use Rattle.results.proofs.Writing.{list_refused, list_fits, list_written}
use Rattle.finding.proofs.deliver_found.Goals as goal

pub returns-in_default : goal.returns-in_default
returns-in_default c h e q =
    let a = c.args in
    list_refused (occurrences h.pattern (drop a.from h.text)) a.res.now a.n q c.result_fits-fits.result c.result_fits-fits.ensures c.in_default.is

pub list-requires : goal.list-requires
list-requires c =
    let a = c.args in
    let h = c.requires.0 in (
      h,
      c.requires.1,
      c.requires.2,
      list_fits (occurrences h.pattern (drop a.from h.text)) a.res.now a.n c.requires.3 c.result_fits-fits.result c.result_fits-fits.ensures c.in-Ok.is,
    )

pub returns : goal.returns
returns c h e q =
    let a = c.args in
    list_written (occurrences h.pattern (drop a.from h.text)) a.res.now a.n q c.result_fits-fits.result c.result_fits-fits.ensures c.list.new.res
    c.in-Ok.is (c.list.ensures h e).1
