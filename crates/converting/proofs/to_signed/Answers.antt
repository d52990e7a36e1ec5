-- `to_signed` is refused where the table is not opened by the former order; else it is decided by delivering the new one, and the work slice is cleared.
use mathlib.Core.Path.{refl}
use native.Mathlib.Omega.{arith}
use Rattle.definitions.specs.Services.{former_order, convert_order_service}
use Rattle.lists.specs.Serving.{answer_refuses}
use Rattle.opening.proofs.Services.{opening_refused, Succeeded, opening_done, opened_held, opening_lent}
use Rattle.converting.proofs.to_signed.Goals.{In-Ok}
use Rattle.converting.proofs.to_signed.Goals as goal

pub returns-in_default : goal.returns-in_default
unfolding convert_order_service
returns-in_default c =
    opening_refused _ c.admit-a.ensures c.in_default.is (answer_refuses c.admit-a.result) (λ d. refl)

-- the table is opened
succeeded : (k : In-Ok) → let a = k.args in
    Succeeded former_order a.table.now a.work.now k.admit-a.new.work k.in-Ok.rules
succeeded k = opening_done k.admit-a.ensures k.in-Ok.is

pub slice_bounds-reorder_loaded-end : goal.slice_bounds-reorder_loaded-end
slice_bounds-reorder_loaded-end c = omega (arith, (succeeded (goal.at.slice_bounds-reorder_loaded-end c).In-Ok).loads.long)

pub reorder_loaded-b-requires : goal.reorder_loaded-b-requires
reorder_loaded-b-requires c = opened_held (succeeded (goal.at.reorder_loaded-b-requires c).In-Ok)

pub clear_front-requires : goal.clear_front-requires
clear_front-requires c = omega (arith, (succeeded (goal.at.clear_front-requires c).In-Ok).loads.long)

pub returns : goal.returns
unfolding convert_order_service opened_held
returns c =
    let x = succeeded (goal.at.returns c).In-Ok in
    opening_lent x (refl, refl) c.reorder_loaded-b.new.work c.reorder_loaded-b.auto.work c.clear_front.ensures (c.reorder_loaded-b.ensures (opened_held x))
