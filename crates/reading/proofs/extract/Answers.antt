-- `extract` is refused where the table is not opened; else it is decided by delivering the part of the text that is loaded, and the work slice is cleared.
use mathlib.Core.Path.{refl}
use native.Mathlib.Omega.{arith}
use Rattle.definitions.specs.Services.{sample_order, table_checks, extract_service}
use Rattle.lists.specs.Serving.{answer_refuses}
use Rattle.opening.proofs.Services.{opening_refused, Succeeded, opening_done, opened_held, opening_served}
use Rattle.reading.proofs.extract.Goals.{In-Ok}
use Rattle.reading.proofs.extract.Goals as goal

pub returns-in_default : goal.returns-in_default
unfolding extract_service table_checks
returns-in_default c =
    opening_refused _ c.admit-a.ensures c.in_default.is (answer_refuses c.admit-a.result) (λ d. refl)

-- the table is opened
succeeded : (k : In-Ok) → let a = k.args in
    Succeeded sample_order a.table.now a.work.now k.admit-a.new.work k.in-Ok.rules
succeeded k = opening_done k.admit-a.ensures k.in-Ok.is

pub slice_bounds-new-end : goal.slice_bounds-new-end
slice_bounds-new-end c = omega (arith, (succeeded (goal.at.slice_bounds-new-end c).In-Ok).loads.long)

pub new-loaded-requires : goal.new-loaded-requires
new-loaded-requires c = opened_held (succeeded (goal.at.new-loaded-requires c).In-Ok)

pub clear_front-requires : goal.clear_front-requires
clear_front-requires c = (succeeded (goal.at.clear_front-requires c).In-Ok).loads.long

pub returns : goal.returns
unfolding extract_service table_checks opened_held
returns c =
    let x = succeeded (goal.at.returns c).In-Ok in
    opening_served x (refl, (refl, refl)) c.clear_front.ensures (rw (← (c.new-loaded.ensures (opened_held x)).0) c.deliver_part-b.ensures)
