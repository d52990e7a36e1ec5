-- `locate` is refused by the pattern, or where the table is not opened; else it is decided by delivering what is found, and the work slice is cleared.
use mathlib.Core.Path.{refl, subst}
use mathlib.Core.List.{List, [], ◌∷◌}
use Prim.Native.Nat.{ℕ}
use native.Mathlib.Omega.{arith}
use lib.ListN.{length}
use Rattle.definitions.specs.Table.{text_of}
use Rattle.definitions.specs.Occurrences.{tests}
use Rattle.definitions.specs.Steps.{searched, finds}
use Rattle.definitions.specs.Services.{sample_order, search_checks, writes, Serves, Searches, locate_service}
use Rattle.lists.specs.Decisions.{Passed, done_all}
use Rattle.lists.specs.Serving.{grouped, refused_front, passed}
use Rattle.checks.proofs.Patterns.{search_keeps, passed_search}
use Rattle.results.proofs.Answers.{search_refuses}
use Rattle.opening.proofs.Services.{opened_table, opening_refused, Succeeded, opening_done, opened_held, opening_lent}
use Rattle.searching.proofs.locate.Goals.{After-admit-a, In-Ok-a}
use Rattle.searching.proofs.locate.Goals as goal

pub returns-in_default : goal.returns-in_default
unfolding locate_service
returns-in_default c =
    let a = c.args in
    let p = a.pattern.now in
    grouped (search_checks a.content p) _ _
    (refused_front (search_checks a.content p) _ (length p) (search_keeps a.content p) c.search_fits-p.ensures c.in_default.is (search_refuses c.search_fits-p.result c.with_tests.result c.with_tests.ensures) (λ d e. rw e))

-- the pattern is accepted
accepted : (m : After-admit-a) → let a = m.args in Passed (search_checks a.content a.pattern.now)
accepted m =
    let a = m.args in
    (done_all (search_checks a.content a.pattern.now) (length a.pattern.now) m.search_fits-p.ensures m.in-Ok.is).0

pub returns-in_default-a : goal.returns-in_default-a
unfolding locate_service
returns-in_default-a c =
    let a = c.args in
    grouped (search_checks a.content a.pattern.now) _ _
    (passed (accepted (goal.at.returns-in_default-a c).After-admit-a) (opening_refused _ c.admit-a.ensures c.in_default-a.is (search_refuses c.admit-a.result c.with_tests-in_default-a.result c.with_tests-in_default-a.ensures) (λ d. refl)))

-- and the table opened
succeeded : (k : In-Ok-a) → let a = k.args in
    Succeeded sample_order a.table.now a.work.now k.admit-a.new.work k.in-Ok-a.rules
succeeded k = opening_done k.admit-a.ensures k.in-Ok-a.is

pub slice_bounds-locate_loaded-end : goal.slice_bounds-locate_loaded-end
slice_bounds-locate_loaded-end c = omega (arith, (succeeded (goal.at.slice_bounds-locate_loaded-end c).In-Ok-a).loads.long)

pub locate_loaded-b-requires : goal.locate_loaded-b-requires
locate_loaded-b-requires c =
    let a = c.args in
    let (some, short) = passed_search a.content a.pattern.now (accepted (goal.at.locate_loaded-b-requires c).After-admit-a) in
    record { held = opened_held (succeeded (goal.at.locate_loaded-b-requires c).In-Ok-a); filled = some; short = short }

pub clear_front-requires : goal.clear_front-requires
clear_front-requires c = omega (arith, (succeeded (goal.at.clear_front-requires c).In-Ok-a).loads.long)

pub returns : goal.returns
unfolding locate_service opened_held
returns c =
    let a = c.args in
    let p = a.pattern.now in
    let x = succeeded (goal.at.returns c).In-Ok-a in
    grouped (search_checks a.content p) _ _
    (passed (accepted (goal.at.returns c).After-admit-a)
    (opening_lent x (refl, refl) c.locate_loaded-b.new.work c.locate_loaded-b.auto.work c.clear_front.ensures
    (subst (λ (t : List ℕ). Serves (writes [] (finds a.content p (text_of sample_order a.table.now)) (length (tests sample_order t (searched a.content p))) a.res.now) (Searches c.locate_loaded-b.result) (c.locate_loaded-b.new.res ∷ []))
    (opened_table x.loads) (c.locate_loaded-b.ensures (opened_held x)))))
