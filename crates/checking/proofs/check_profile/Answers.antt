-- `check_profile` is refused where the table is not opened; else it is decided by judging the text that is loaded, and the work slice is cleared.
use mathlib.Core.Path.{◌≡◌, refl, ap}
use mathlib.Core.Bool.{true}
use Prim.Native.Nat.{ℕ}
use native.Mathlib.Omega.{arith}
use lib.ListN.{length}
use Rattle.definitions.specs.Table.{text_of}
use Rattle.definitions.specs.Services.{done, outcome_of, sample_order, profile_checks, check_profile_service}
use Rattle.lists.specs.Decisions.{answered, refused_some, done_all}
use Rattle.lists.specs.Serving.{answer_refuses, refused_by, served}
use Rattle.opening.proofs.Services.{opening_refused, Succeeded, opening_done, opened_held, opening_served}
use Rattle.checking.proofs.check_profile.Goals.{After-profile_loaded-p, In-Ok}
use Rattle.checking.proofs.check_profile.Goals as goal

pub returns-in_default : goal.returns-in_default
unfolding check_profile_service
returns-in_default c =
    opening_refused _ c.admit-opened.ensures c.in_default.is (answer_refuses c.admit-opened.result) (λ d. refl)

-- the table is opened
succeeded : (k : In-Ok) → let a = k.args in
    Succeeded sample_order a.table.now a.work.now k.admit-opened.new.work k.in-Ok.rules
succeeded k = opening_done k.admit-opened.ensures k.in-Ok.is

pub slice_bounds-new-end : goal.slice_bounds-new-end
slice_bounds-new-end c = omega (arith, (succeeded (goal.at.slice_bounds-new-end c).In-Ok).loads.long)

pub new-loaded-requires : goal.new-loaded-requires
new-loaded-requires c = opened_held (succeeded (goal.at.new-loaded-requires c).In-Ok)

pub clear_front-requires : goal.clear_front-requires
clear_front-requires c = (succeeded (goal.at.clear_front-requires c).In-Ok).loads.long

-- and its text judged
judged : (q : After-profile_loaded-p) → let text = text_of sample_order q.args.table.now in
    outcome_of q.profile_loaded-p.result ≡ answered (profile_checks true text) (length text)
unfolding opened_held
judged q =
    let a = q.args in
    let x : Succeeded sample_order a.table.now a.work.now q.admit-opened.new.work q.in-Ok.rules = opening_done q.admit-opened.ensures q.in-Ok.is in
    rw (← (q.new-loaded.ensures (opened_held x)).0) q.profile_loaded-p.ensures

pub returns-in_default-p : goal.returns-in_default-p
unfolding check_profile_service profile_checks outcome_of
returns-in_default-p c =
    let (d, first, g) = refused_some _ _ (judged (goal.at.returns-in_default-p c).After-profile_loaded-p) c.in_default-p.is in
    opening_served (succeeded (goal.at.returns-in_default-p c).In-Ok) (refl, (refl, refl)) c.clear_front.ensures (refused_by d first g refl)

pub returns : goal.returns
unfolding check_profile_service profile_checks outcome_of
returns c =
    let all = (done_all _ _ (judged (goal.at.returns c).After-profile_loaded-p) c.in-Ok-p.is).0 in
    opening_served (succeeded (goal.at.returns c).In-Ok) (refl, (refl, refl)) c.clear_front.ensures (served all (ap (λ (n : ℕ). done n 0) c.rule_count.ensures) refl)
