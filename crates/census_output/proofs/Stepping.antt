-- What the services answer on the input's drive and window is what the steps of the program say.
use mathlib.Core.Path.{◌≡◌, refl, ◌∙◌, ap, ap₂, subst}
use mathlib.Core.Bool.{Bool, true, false, ◌||◌, true≢false}
use mathlib.Core.List.{List, [], ◌∷◌}
use Prim.Native.Nat.{ℕ, ◌≤◌, ◌<◌}
use native.Mathlib.Omega.{arith}
use lib.ListN.{length, get_or}
use lib.Dec.{ltb}
use borrow.Author.Tests.{le-ltb, ltb-false}
use Rattle.definitions.specs.declared.Order.{Order}
use Rattle.definitions.specs.Table.{table_of}
use Rattle.definitions.specs.Census.{census_runs, census_counts, joined}
use Rattle.definitions.specs.Services.{Answer, Outcome, Service, first_met, outcome, slices_after, Serves, Answers, table_checks, build_service, census_service}
use Rattle.definitions.specs.Programs.{window_of, census_drive}
use Rattle.lists.specs.Members.{in_drop}
use Rattle.lyndon.specs.Ranks.{Bytes, slice_bytes}
use Rattle.lyndon.specs.Stored.{Stored, Acceptable, passes, table_text}
use Rattle.lyndon.specs.Sufficing.{build_suffices}
use Rattle.census_output.specs.Steps.{drive_step, window_step}
use Rattle.census_output.proofs.Listed.{listed_fits}

-- a window that is not odd
pub window_inside : (q : ℕ) → ltb q 1 || ltb 8 q ≡ false → (0 < q) × (q ≤ 8)
window_inside q e = go (ltb q 1) refl (ltb 8 q) refl e
  where
    go : (a : Bool) → ltb q 1 ≡ a → (b : Bool) → ltb 8 q ≡ b → a || b ≡ false → (0 < q) × (q ≤ 8)
    go true d b f h = absurd (true≢false h)
    go false d true f h = absurd (true≢false h)
    go false d false f h = (omega (arith, ltb-false q 1 d), ltb-false 8 q f)

-- ---- the drive

pub drive_bytes : (input : List ℕ) → ((i : ℕ) → i < length input → get_or input i 0 < 256) → Bytes (census_drive input)
unfolding census_drive
drive_bytes input h b m = slice_bytes input h b (in_drop 1 input b m)

pub drive_built : (o : Order) (input old work : List ℕ) → 16384 ≤ length work → 4608 ≤ length old → Bytes (census_drive input)
    → (text work' new : List ℕ) (r : Answer) → text ≡ census_drive input
    → Serves (build_service o text 0 work old) (Answers r) (work' ∷ new ∷ []) → Serves (drive_step o input old) (Answers r) (new ∷ [])
unfolding drive_step
drive_built o input old work long room b text work' new r e v =
    build_suffices o (census_drive input) old work long room b r (subst (λ (x : List ℕ). Serves (build_service o x 0 work old) (Answers r) (work' ∷ new ∷ [])) e v)

-- ---- the census

module _ (o : Order) (input runs counts work : List ℕ) (long : 16384 ≤ length work) (bytesFit : 16376 ≤ length runs) (entriesFit : 2047 ≤ length counts) (ok : Stored (census_drive input) 0) where
  abbrev asked : List ℕ → ℕ → Service
  asked t q = census_service o t q work runs counts

  counted : (m : Bool) → ltb (window_of input) 1 || ltb 8 (window_of input) ≡ m
      → let s = asked (table_of o (census_drive input) 0) (window_of input) in
      (outcome s ≡ outcome (window_step o input runs counts))
      × (get_or (slices_after s) 1 [] ∷ get_or (slices_after s) 2 [] ∷ [] ≡ slices_after (window_step o input runs counts))
  unfolding outcome slices_after census_service window_step table_checks first_met
  counted true e = (rw e, rw e)
  counted false e =
      let drive = census_drive input in
      let q = window_of input in
      let t = table_of o drive 0 in
      let inside = window_inside q e in
      let fits = listed_fits o q drive ok.bytes inside.0 ok.short inside.1 in
      let l = joined (census_runs o q drive) in
      let m = census_counts o q drive in
      let first : length l ≤ length runs = omega (arith, fits.0) in
      let second : length m ≤ length counts = omega (arith, fits.1) in
      let accepted : Acceptable o t = (passes o t).1 (drive, 0, ok, refl) in (
        rw (e, le-ltb (length work) 16384 long, accepted.0, accepted.1, accepted.2, table_text o drive 0 ok, le-ltb (length runs) (length l) first, le-ltb (length counts) (length m) second),
        rw (e, le-ltb (length work) 16384 long, accepted.0, accepted.1, accepted.2, table_text o drive 0 ok, le-ltb (length runs) (length l) first, le-ltb (length counts) (length m) second),
      )

  pub window_counted : (t : List ℕ) (q : ℕ) (work' runs' counts' : List ℕ) (r : Answer) → t ≡ table_of o (census_drive input) 0 → q ≡ window_of input
      → Serves (census_service o t q work runs counts) (Answers r) (work' ∷ runs' ∷ counts' ∷ []) → Serves (window_step o input runs counts) (Answers r) (runs' ∷ counts' ∷ [])
  window_counted t q work' runs' counts' r d e v =
      let (answer, slices) = counted (ltb (window_of input) 1 || ltb 8 (window_of input)) refl in
      record {
        answer = v.answer ∙ ap₂ {C = Outcome} (λ x y. outcome (asked x y)) d e ∙ answer;
        slices = ap (λ (l : List (List ℕ)). get_or l 1 [] ∷ get_or l 2 [] ∷ []) (v.slices ∙ ap₂ {C = List (List ℕ)} (λ x y. slices_after (asked x y)) d e) ∙ slices;
      }
