-- `check` is refused where the table is not opened; else it is done, and the work slice is cleared.
use mathlib.Core.Path.{refl, ap}
use mathlib.Core.List.{[]}
use Prim.Native.Nat.{ℕ}
use Rattle.definitions.specs.Services.{done, outcome_of, sample_order, table_checks, check_service}
use Rattle.lists.specs.Decisions.{none}
use Rattle.lists.specs.Serving.{answer_refuses, served}
use Rattle.opening.proofs.Services.{opening_refused, Succeeded, opening_done, opening_served}
use Rattle.checking.proofs.check.Goals.{In-Ok}
use Rattle.checking.proofs.check.Goals as goal

pub returns-in_default : goal.returns-in_default
unfolding check_service table_checks
returns-in_default c =
    opening_refused [] c.admit-a.ensures c.in_default.is (answer_refuses c.admit-a.result) (λ d. refl)

-- the table is opened
succeeded : (k : In-Ok) → let a = k.args in
    Succeeded sample_order a.table.now a.work.now k.admit-a.new.work k.in-Ok.field-0
succeeded k = opening_done k.admit-a.ensures k.in-Ok.is

pub clear_front-requires : goal.clear_front-requires
clear_front-requires c = (succeeded (goal.at.clear_front-requires c).In-Ok).loads.long

pub returns : goal.returns
unfolding check_service outcome_of table_checks
returns c =
    opening_served (succeeded (goal.at.returns c).In-Ok) refl c.clear_front.ensures (served none (ap (λ (n : ℕ). done n 0) c.rule_count.ensures) refl)
