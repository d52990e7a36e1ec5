-- What the services answer on the input's drive and motif is what the steps of the program say.
use mathlib.Core.Path.{◌≡◌, refl, ◌∙◌, ap, ap₂, subst}
use mathlib.Core.Bool.{Bool, true, false}
use mathlib.Core.List.{List, [], ◌∷◌}
use Prim.Native.Nat.{ℕ, ◌≤◌}
use native.Mathlib.Omega.{arith}
use lib.ListN.{length, get_or}
use lib.Dec.{ltb, eqb}
use borrow.Author.Tests.{le-ltb, eqb-false}
use Rattle.definitions.specs.declared.Refusal.{Refusal}
use Rattle.definitions.specs.declared.Order.{Order}
use Rattle.definitions.specs.declared.Content.TheVariants.{Samples}
use Rattle.std.specs.declared.result.Result.TheVariants.{Err}
use Rattle.definitions.specs.declared.Search.{Search}
use Rattle.definitions.specs.Table.{table_of}
use Rattle.definitions.specs.Occurrences.{occurrences}
use Rattle.definitions.specs.Steps.{finds}
use Rattle.definitions.specs.Services.{alone, Answer, Outcome, first_met, outcome_of, outcome, slices_after, Serves, Answers, Searches, search_checks, pattern_checks, table_checks, build_service, locate_service}
use Rattle.definitions.specs.Programs.{motif_of, drive_of, input_too_long}
use Rattle.lists.specs.Decisions.{met, none, more, checked, refused_met}
use Rattle.lists.specs.Serving.{refused_by, passed, search_alone}
use Rattle.lyndon.specs.Ranks.{Bytes}
use Rattle.lyndon.specs.Occurrences.{occurrences_fewer}
use Rattle.lyndon.specs.Stored.{Stored, Acceptable, passes, table_text}
use Rattle.lyndon.specs.Sufficing.{build_suffices}
use Rattle.motif_output.specs.Steps.{drive_step, motif_step}

-- ---- the drive

module _ (o : Order) (input : List ℕ) where
  pub drive_long : (old : List ℕ) {f : Refusal} (r : Answer) → outcome_of r ≡ checked (input_too_long input) (length input) → r ≡ Err f
      → Serves (drive_step o input old) (Answers r) (old ∷ [])
  unfolding outcome_of drive_step
  drive_long old r e f = let (q, h) = refused_met (input_too_long input) (length input) e f in refused_by (input_too_long input) (met q) h refl

  module _ (old work : List ℕ) (long : 16384 ≤ length work) (room : 4608 ≤ length old) (h : length input ≤ 4095) (b : Bytes (drive_of input)) where
    pub drive_built : (text work' new : List ℕ) (r : Answer) → text ≡ drive_of input
        → Serves (build_service o text 0 work old) (Answers r) (work' ∷ new ∷ []) → Serves (drive_step o input old) (Answers r) (new ∷ [])
    unfolding drive_step
    drive_built text work' new r e v =
        passed (more (input_too_long input) (le-ltb 4095 (length input) h) none)
        (build_suffices o (drive_of input) old work long room b r (subst (λ (x : List ℕ). Serves (build_service o x 0 work old) (Answers r) (work' ∷ new ∷ [])) e v))

-- ---- the motif

module _ (o : Order) (input old work : List ℕ) (long : 16384 ≤ length work) (room : 2047 ≤ length old) (ok : Stored (drive_of input) 0) where
  located : (a b : Bool) → eqb (length (motif_of input)) 0 ≡ a → ltb 2047 (length (motif_of input)) ≡ b
      → (alone (outcome (locate_service o (table_of o (drive_of input) 0) Samples (motif_of input) work old)) ≡ outcome (motif_step input old))
      × (get_or (slices_after (locate_service o (table_of o (drive_of input) 0) Samples (motif_of input) work old)) 1 [] ∷ [] ≡ slices_after (motif_step input old))
  unfolding outcome slices_after locate_service motif_step finds search_checks pattern_checks table_checks first_met alone
  located true b q r = (rw q, rw q)
  located false true q r = (rw (q, r), rw (q, r))
  located false false q r =
      let t = table_of o (drive_of input) 0 in
      let all = occurrences (motif_of input) (drive_of input) in
      let some : length (motif_of input) ≡ 0 → ⊥ = eqb-false (length (motif_of input)) 0 q in
      let fits : length all ≤ length old = omega (arith, occurrences_fewer (motif_of input) (drive_of input) (omega arith), ok.short) in
      let accepted : Acceptable o t = (passes o t).1 (drive_of input, 0, ok, refl) in (
        rw (q, r, le-ltb (length work) 16384 long, accepted.0, accepted.1, accepted.2, table_text o (drive_of input) 0 ok, le-ltb (length old) (length all) fits),
        rw (q, r, le-ltb (length work) 16384 long, accepted.0, accepted.1, accepted.2, table_text o (drive_of input) 0 ok, le-ltb (length old) (length all) fits),
      )

  pub motif_located : (t p work' new : List ℕ) (r : Search) → t ≡ table_of o (drive_of input) 0 → p ≡ motif_of input
      → Serves (locate_service o t Samples p work old) (Searches r) (work' ∷ new ∷ []) → Serves (motif_step input old) (Answers r.answer) (new ∷ [])
  motif_located t p work' new r d e v =
      let (answer, positions) = located (eqb (length (motif_of input)) 0) (ltb 2047 (length (motif_of input))) refl refl in
      record {
        answer = search_alone r _ v.answer ∙ ap₂ {C = Outcome} (λ x y. alone (outcome (locate_service o x Samples y work old))) d e ∙ answer;
        slices = ap (λ (l : List (List ℕ)). get_or l 1 [] ∷ []) (v.slices ∙ ap₂ {C = List (List ℕ)} (λ x y. slices_after (locate_service o x Samples y work old)) d e) ∙ positions;
      }
