-- `read` is refused where the table is not opened; else it is decided by reading what is loaded, and the work slice is cleared.
use mathlib.Core.Path.{refl, ◌∙◌, ap}
use native.Mathlib.Omega.{arith}
use Rattle.definitions.specs.Services.{read_outcome, sample_order, read_service}
use Rattle.opening.proofs.Services.{opening_refused, Succeeded, opening_done, opened_held, opening_served}
use Rattle.results.proofs.Answers.{chair_refused}
use Rattle.reading.proofs.read.Goals.{In-Ok}
use Rattle.reading.proofs.read.Goals as goal

pub returns-in_default : goal.returns-in_default
unfolding read_service
returns-in_default c =
    opening_refused _ c.admit-a.ensures c.in_default.is
    (λ x y e. ap read_outcome c.with_chair.ensures ∙ chair_refused c.admit-a.result 0 x y e) (λ d. refl)

-- the table is opened
succeeded : (k : In-Ok) → let a = k.args in
    Succeeded sample_order a.table.now a.work.now k.admit-a.new.work k.in-Ok.rules
succeeded k = opening_done k.admit-a.ensures k.in-Ok.is

pub slice_bounds-new-end : goal.slice_bounds-new-end
slice_bounds-new-end c = omega (arith, (succeeded (goal.at.slice_bounds-new-end c).In-Ok).loads.long)

pub new-loaded-requires : goal.new-loaded-requires
new-loaded-requires c = opened_held (succeeded (goal.at.new-loaded-requires c).In-Ok)

pub clear_front-requires : goal.clear_front-requires
clear_front-requires c = (succeeded (goal.at.clear_front-requires c).In-Ok).loads.long

pub returns : goal.returns
unfolding read_service opened_held
returns c =
    let x = succeeded (goal.at.returns c).In-Ok in
    let (text, chair, _, _) = c.new-loaded.ensures (opened_held x) in
    opening_served x (refl, refl) c.clear_front.ensures (rw (← text, ← chair) c.read_loaded-r.ensures)
