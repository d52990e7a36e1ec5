-- Each count of a census is what `count` answers for that run in the same table (`census_count`).
use Rattle.std.specs.Prelude.{◌≡◌, ℕ, ◌≤◌, ◌<◌, length}
use mathlib.Core.List.{List, ◌∷◌, Memᴰ as In}
use Rattle.std.proofs.Common.{arith, le-ltb, ne_eqb}
use Rattle.definitions.specs.declared.Order.{Order}
use Rattle.definitions.specs.declared.Content.TheVariants.{Samples}
use Rattle.definitions.specs.Table.{text_of}
use Rattle.definitions.specs.Occurrences.{tests}
use Rattle.definitions.specs.Steps.{searched, finds}
use Rattle.definitions.specs.Services.{done, refused, outcome, odd_window, pattern_empty, pattern_too_long, pattern_checks, search_checks, table_checks, count_service, census_service}
use Rattle.definitions.specs.Census.{census_runs, count_in}
use Rattle.lists.specs.Decisions.{Passed, more, passed_all, passed_parts}
use Rattle.lists.specs.Serving.{done_passed}
use Rattle.run_counts.specs.Census.{census_run}
use Rattle.census.specs.Accepted.{accepted, window_range}

module _ (o : Order) (t work runs counts : List ℕ) (q : ℕ) {k b : ℕ} (served : outcome (census_service o t q work runs counts) ≡ done k b) where
  -- q and the table are accepted
  passes : Passed (odd_window q ∷ table_checks o t (length work))
  unfolding census_service
  passes = (passed_parts (odd_window q ∷ table_checks o t (length work)) (done_passed (census_service o t q work runs counts) served)).0

  window : Passed (odd_window q ∷ table_checks o t (length work)) → (0 < q) × (q ≤ 8) × Passed (table_checks o t (length work))
  window (more _ e p) = let (low, high) = window_range q e in (low, high, p)

  pub census_count : (x : List ℕ) → In x (census_runs o q (text_of o t)) → outcome (count_service o t Samples x work) ≡ done (count_in (text_of o t) x) (length (tests o t x))
  unfolding outcome count_service search_checks pattern_checks finds searched count_in
  census_count x m =
      let (low, high, p) = window passes in
      let size = (census_run o q (text_of o t) (accepted o t (length work) p).1 x m).1 in
      passed_all (λ c. refused c.number c.place) (done (count_in (text_of o t) x) (length (tests o t x)))
      (more (pattern_empty x) (ne_eqb (length x) 0 (λ e. omega arith)) (more (pattern_too_long x) (le-ltb 2047 (length x) (omega arith)) p))
