-- `lyndon_array` is refused where the table is not opened; else it is decided by delivering the array, and the work slice is cleared.
use mathlib.Core.Path.{refl}
use native.Mathlib.Omega.{arith}
use Rattle.definitions.specs.Services.{sample_order, lyndon_array_service}
use Rattle.lists.specs.Serving.{answer_refuses}
use Rattle.opening.proofs.Services.{opening_refused, Succeeded, opening_done, opened_held, opening_lent}
use Rattle.lyndon_words.proofs.lyndon_array.Goals.{In-Ok}
use Rattle.lyndon_words.proofs.lyndon_array.Goals as goal

pub returns-in_default : goal.returns-in_default
unfolding lyndon_array_service
returns-in_default c =
    opening_refused _ c.admit-a.ensures c.in_default.is (answer_refuses c.admit-a.result) (λ d. refl)

-- the table is opened
succeeded : (k : In-Ok) → let a = k.args in
    Succeeded sample_order a.table.now a.work.now k.admit-a.new.work k.in-Ok.rules
succeeded k = opening_done k.admit-a.ensures k.in-Ok.is

pub slice_bounds-array_loaded-end : goal.slice_bounds-array_loaded-end
slice_bounds-array_loaded-end c = omega (arith, (succeeded (goal.at.slice_bounds-array_loaded-end c).In-Ok).loads.long)

pub array_loaded-written-requires : goal.array_loaded-written-requires
array_loaded-written-requires c = (sample_order, opened_held (succeeded (goal.at.array_loaded-written-requires c).In-Ok))

pub clear_front-requires : goal.clear_front-requires
clear_front-requires c = omega (arith, (succeeded (goal.at.clear_front-requires c).In-Ok).loads.long)

pub returns : goal.returns
unfolding lyndon_array_service opened_held
returns c =
    let x = succeeded (goal.at.returns c).In-Ok in
    opening_lent x (refl, refl) c.array_loaded-written.new.work c.array_loaded-written.auto.work c.clear_front.ensures (c.array_loaded-written.ensures sample_order (opened_held x))
