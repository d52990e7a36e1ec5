-- The checks of a pattern: none clears the work slice, and where none is met the pattern has 1 to 2,047 samples; so where it is searched for, and then something is
-- searched for (`passed_search`).
use mathlib.Core.Path.{◌≡◌, refl, sym, ◌∙◌}
use mathlib.Core.Bool.{false}
use mathlib.Core.List.{List, [], ◌∷◌}
use Prim.Native.Nat.{ℕ, ◌≤◌, ◌<◌}
use native.Mathlib.Omega.{arith}
use lib.ListN.{length}
use borrow.Author.Tests.{ltb-false, eqb-false}
use Rattle.definitions.specs.declared.Refusal.{Refusal}
use Rattle.definitions.specs.declared.Content.{Content}
use Rattle.definitions.specs.declared.Content.TheVariants.{Samples, Steps}
use Rattle.std.specs.declared.result.Result.TheVariants.{Ok, Err}
use Rattle.definitions.specs.Steps.{searched}
use Rattle.definitions.specs.Services.{Answer, done, refused, outcome_of, first_met, no_step, pattern_checks, search_checks}
use Rattle.lists.specs.Decisions.{Passed, none, more, checked, answered, refused_already, done_all, passed_front}
use Rattle.lists.specs.Serving.{Clear}
use Rattle.lyndon.specs.Steps.{steps_some}

pub pattern_keeps : (p : List ℕ) → Clear false (pattern_checks p)
unfolding pattern_checks
pattern_keeps p = (refl, (refl, refl))

pub passed_pattern : (p : List ℕ) → Passed (pattern_checks p) → (0 < length p) × (length p ≤ 2047)
unfolding pattern_checks
passed_pattern p (more a e (more b f none)) =
    let some : length p ≡ 0 → ⊥ = eqb-false (length p) 0 e in
    (omega arith, ltb-false 2047 (length p) f)

pub search_keeps : (c : Content) (p : List ℕ) → Clear false (search_checks c p)
unfolding search_checks pattern_checks
search_keeps Samples p = (refl, (refl, refl))
search_keeps Steps p = (refl, (refl, (refl, refl)))

pub passed_search : (c : Content) (p : List ℕ) → Passed (search_checks c p) → (0 < length (searched c p)) × (length p ≤ 2047)
unfolding search_checks pattern_checks searched
passed_search Samples p q = passed_pattern p q
passed_search Steps p (more a e (more b f (more c g none))) =
    let some : length p ≡ 0 → ⊥ = eqb-false (length p) 0 e in
    let more-than-one : length p ≡ 1 → ⊥ = eqb-false (length p) 1 g in
    (steps_some p (omega arith), ltb-false 2047 (length p) f)

-- ---- what `search_fits` answers, by what the checks of the pattern answer

module _ (p : List ℕ) {r : Answer} (e : outcome_of r ≡ answered (pattern_checks p) (length p)) where
  pub search_refused : (c : Content) {f : Refusal} → r ≡ Err f → outcome_of r ≡ answered (search_checks c p) (length p)
  unfolding search_checks
  search_refused Samples h = e
  search_refused Steps h = refused_already (pattern_checks p) (length p) e h (no_step p ∷ [])

  -- where the table holds steps the last check decides
  pub search_steps : {m : ℕ} → r ≡ Ok m → (s : Answer) → outcome_of s ≡ checked (no_step p) (length p) → outcome_of s ≡ answered (search_checks Steps p) (length p)
  unfolding search_checks first_met
  search_steps h s f = f ∙ sym (passed_front (no_step p ∷ []) (λ c. refused c.number c.place) (done (length p) 0) (done_all (pattern_checks p) (length p) e h).0)
