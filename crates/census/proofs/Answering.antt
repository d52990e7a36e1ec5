-- What the service answers: refused by 13 (`window_refused`), refused with the table (`table_refused`), or decided by what is delivered (`census_served`).
use mathlib.Core.Path.{◌≡◌, refl, sym, ◌∙◌, ap, subst}
use mathlib.Core.Bool.{false}
use mathlib.Core.List.{List, [], ◌∷◌}
use Prim.Native.Nat.{ℕ, ◌≤◌, ◌<◌}
use native.Mathlib.Omega.{arith}
use lib.ListN.{length}
use Rattle.definitions.specs.declared.Refusal.{Refusal}
use Rattle.definitions.specs.declared.Order.{Order}
use Rattle.std.specs.declared.result.Result.TheVariants.{Ok, Err}
use Rattle.definitions.specs.Table.{text_of}
use Rattle.definitions.specs.Services.{Answer, Outcome, Check, outcome_of, cleared, odd_window, either_too_short, table_checks, writes_both, census_service, Serves, Answers}
use Rattle.definitions.specs.Census.{census_runs, census_counts, joined}
use Rattle.lists.specs.Decisions.{met, later, Passed, more, first_before, checked, refused_met, done_met}
use Rattle.lists.specs.Serving.{refused_by, passed, worked}
use Rattle.census.specs.Accepted.{window_range}
use Rattle.census.specs.Samples.{Tried, turned_down, done}

module _ (q : ℕ) {r : Answer} (e : outcome_of r ≡ checked (odd_window q) q) where
  -- a window that fits
  pub window_fits : {k : ℕ} → r ≡ Ok k → ((odd_window q).met ≡ false) × (0 < q) × (q ≤ 8)
  window_fits g =
      let f = (done_met (odd_window q) q e g).0 in
      let (low, high) = window_range q f in
      (f, low, high)

  pub window_refused : (o : Order) (t work runs counts : List ℕ) {f : Refusal} → r ≡ Err f → Serves (census_service o t q work runs counts) (Answers r) (work ∷ runs ∷ counts ∷ [])
  unfolding census_service outcome_of
  window_refused o t work runs counts g = let (f, h) = refused_met (odd_window q) q e g in refused_by (odd_window q) (met f) h refl

module _ (o : Order) (t work runs counts : List ℕ) (q : ℕ) (fits : (odd_window q).met ≡ false) where
  abbrev short : Check
  short = either_too_short (length (joined (census_runs o q (text_of o t)))) (length runs) (length (census_counts o q (text_of o t))) (length counts)

  pub table_refused : {after : List ℕ} {n : ℕ} {holds : Type 0} {r : Answer} {f : Refusal} → Tried o t work after n holds r → r ≡ Err f
      → Serves (census_service o t q work runs counts) (Answers r) (after ∷ runs ∷ counts ∷ [])
  unfolding census_service outcome_of
  table_refused (turned_down d f e a) g = refused_by d (later (odd_window q) fits (first_before (short ∷ []) f)) a (ap (λ (w : List ℕ). w ∷ runs ∷ counts ∷ []) e)
  table_refused {n = n} {f = x} (done p e h a) g =
      let b : Ok n ≡ Err x = sym a ∙ g in
      let z : ◌≡◌ {A = ℕ} 0 1 = cc in
      absurd (omega arith)

  -- what is delivered of the text that was read
  pub census_served : {after text : List ℕ} {A : Outcome → Type 0} {held : List (List ℕ)} → Passed (table_checks o t (length work)) → after ≡ cleared work → text ≡ text_of o t
      → Serves (writes_both [] (joined (census_runs o q text)) (census_counts o q text) runs counts) A held → Serves (census_service o t q work runs counts) A (after ∷ held)
  unfolding census_service
  census_served {after} {text} {A} {held} p e f v =
      passed (more (odd_window q) fits p)
      (worked work after (refl, refl) e (subst (λ (x : List ℕ). Serves (writes_both [] (joined (census_runs o q x)) (census_counts o q x) runs counts) A held) f v))
