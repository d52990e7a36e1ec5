-- `count` is refused by the pattern, or where the table is not opened; else it is done, and the work slice is cleared.
use mathlib.Core.Path.{refl, ◌∙◌, ap, subst}
use mathlib.Core.List.{List, []}
use Prim.Native.Nat.{ℕ}
use native.Mathlib.Omega.{arith}
use lib.ListN.{length}
use Rattle.std.specs.declared.result.Result.TheVariants.{Ok}
use Rattle.definitions.specs.Table.{text_of}
use Rattle.definitions.specs.Occurrences.{tests}
use Rattle.definitions.specs.Steps.{searched, finds}
use Rattle.definitions.specs.Services.{done, outcome_of, Searches, sample_order, search_checks, table_checks, count_service}
use Rattle.lists.specs.Decisions.{Passed, none, done_all}
use Rattle.lists.specs.Serving.{refused_front, served, passed}
use Rattle.checks.proofs.Patterns.{search_keeps, passed_search}
use Rattle.results.specs.Results.{with_tests}
use Rattle.results.proofs.Answers.{tests_done, search_refuses}
use Rattle.opening.proofs.Services.{opened_table, opening_refused, Succeeded, opening_done, opened_held, opening_lent}
use Rattle.searching.proofs.count.Goals.{After-admit-a, In-Ok-a}
use Rattle.searching.proofs.count.Goals as goal

pub returns-in_default : goal.returns-in_default
unfolding count_service
returns-in_default c =
    let a = c.args in
    let p = a.pattern.now in
    refused_front (search_checks a.content p) _ (length p) (search_keeps a.content p) c.search_fits-p.ensures c.in_default.is (search_refuses c.search_fits-p.result c.with_tests.result c.with_tests.ensures) (λ d e. rw e)

-- the pattern is accepted
accepted : (m : After-admit-a) → let a = m.args in Passed (search_checks a.content a.pattern.now)
accepted m =
    let a = m.args in
    (done_all (search_checks a.content a.pattern.now) (length a.pattern.now) m.search_fits-p.ensures m.in-Ok.is).0

pub returns-in_default-a : goal.returns-in_default-a
unfolding count_service table_checks
returns-in_default-a c =
    passed (accepted (goal.at.returns-in_default-a c).After-admit-a) (opening_refused _ {others = []} c.admit-a.ensures c.in_default-a.is (search_refuses c.admit-a.result c.with_tests-in_default-a.result c.with_tests-in_default-a.ensures) (λ d. refl))

-- and the table opened
succeeded : (k : In-Ok-a) → let a = k.args in
    Succeeded sample_order a.table.now a.work.now k.admit-a.new.work k.in-Ok-a.rules
succeeded k = opening_done k.admit-a.ensures k.in-Ok-a.is

pub slice_bounds-count_loaded-end : goal.slice_bounds-count_loaded-end
slice_bounds-count_loaded-end c = omega (arith, (succeeded (goal.at.slice_bounds-count_loaded-end c).In-Ok-a).loads.long)

pub count_loaded-n-requires : goal.count_loaded-n-requires
count_loaded-n-requires c =
    let a = c.args in
    let (some, short) = passed_search a.content a.pattern.now (accepted (goal.at.count_loaded-n-requires c).After-admit-a) in
    record { held = opened_held (succeeded (goal.at.count_loaded-n-requires c).In-Ok-a); filled = some; short = short }

pub clear_front-requires : goal.clear_front-requires
clear_front-requires c = omega (arith, (succeeded (goal.at.clear_front-requires c).In-Ok-a).loads.long)

pub returns : goal.returns
unfolding count_service outcome_of table_checks opened_held
returns c =
    let a = c.args in
    let x = succeeded (goal.at.returns c).In-Ok-a in
    let n = c.count_loaded-n.result in
    let found = c.count_loaded-n.ensures (opened_held x) in
    let number = length (finds a.content a.pattern.now (text_of sample_order a.table.now)) in
    passed (accepted (goal.at.returns c).After-admit-a)
    (opening_lent x {others = []} refl c.count_loaded-n.new.work c.count_loaded-n.auto.work c.clear_front.ensures
    (served none
    (rw c.with_tests-2.ensures (subst (λ (i : ℕ). Searches (with_tests (Ok n.occurrences) n.tests) (done number i))
    (found.made ∙ ap (λ (t : List ℕ). length (tests sample_order t (searched a.content a.pattern.now))) (opened_table x.loads))
    (tests_done (Ok n.occurrences) n.tests number (ap (λ (i : ℕ). done i 0) found.number)))) refl))
