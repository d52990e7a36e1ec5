-- What is printed, from the answers of the two steps: the line of a refusal, or the output of what comes next. Of an input of 2,049 bytes or more so many are read, and the
-- same is printed (`read_enough`).
use mathlib.Core.Path.{◌≡◌, refl, sym, ◌∙◌, ap, ap₂, subst}
use mathlib.Core.List.{List, [], ◌∷◌, ◌++◌}
use Prim.Native.Nat.{ℕ, ◌-◌, ◌*◌, ◌+◌, ◌≤◌, ◌<◌}
use native.Mathlib.Omega.{arith}
use native.Mathlib.Nat.{le_trans, le_of_eq}
use lib.ListN.{length, take, drop, get_or, length-take, length-drop}
use borrow.Author.Tests.{lt-ltb, ltb-false}
use Rattle.definitions.specs.declared.Refusal.{Refusal}
use Rattle.definitions.specs.declared.Order.{Order}
use Rattle.std.specs.declared.result.Result.TheVariants.{Ok, Err}
use Rattle.definitions.specs.Words.{placed}
use Rattle.definitions.specs.Table.{table_of}
use Rattle.definitions.specs.Census.{census_runs, census_counts, joined, total}
use Rattle.definitions.specs.Services.{Answer, Check, first_met, result_slice, Serves, Answers, text_too_long, odd_window, sample_order}
use Rattle.definitions.specs.Programs.{decimal, line, refused_line, printed, window_of, census_drive, census_lines, census_output}
use Rattle.lists.specs.Decisions.{Passed, more}
use Rattle.lyndon.specs.Ranks.{Bytes}
use Rattle.lines.specs.Lines.{refusal}
use Rattle.lines.proofs.Deciding.{front_taken, refusal_printed, success_printed, success_left, success_written}
use Rattle.census_output.specs.Steps.{drive_step, window_step, window_output, Built}
use Rattle.census_output.specs.Reports.{report, Tallied}
use Rattle.census_output.proofs.Stepping.{window_inside}
use Rattle.census_output.proofs.Listed.{listed_lines, listed_tallied, listed_room}

pub read_enough : (o : Order) (input : List ℕ) → 2048 < length input → census_output o (take 2049 input) ≡ census_output o input
unfolding census_output printed first_met refused_line census_drive
read_enough o input h =
    rw (
      lt-ltb 2047 (length (drop 1 input)) (simp length-drop (omega arith)),
      lt-ltb 2047 (length (drop 1 (take 2049 input))) (simp (length-drop, length-take) (omega arith)),
    )

-- what a census of window w left in two slices, k runs: how much of them is taken, and that its report is what is printed
pub record Listed (input runs counts : List ℕ) (w k : ℕ) : Type 0 where
  pub small : (w ≤ 8) × (k ≤ 2047)
  pub runs_fit : w * k ≤ length runs
  pub counts_fit : k ≤ length counts
  pub tallied : Tallied w (take (w * k - 0) runs) (take (k - 0) counts)
  pub out_fits : (4 * w + 5) * length (take (k - 0) counts) + 11 ≤ 75744
  pub output : report w (take (w * k - 0) runs) (take (k - 0) counts) ≡ window_output sample_order input

-- ---- the drive

module _ (input old table : List ℕ) (r : Answer) (v : Serves (drive_step sample_order input old) (Answers r) (table ∷ [])) where
  abbrev t : List ℕ
  t = table_of sample_order (census_drive input) 0

  abbrev drive_checks : List Check
  drive_checks = text_too_long (census_drive input) ∷ []

  output : census_output sample_order input ≡ printed drive_checks (window_output sample_order input)
  unfolding census_output window_output printed first_met
  output = refl

  pub drive_refused : {f : Refusal} → r ≡ Err f → refusal r ≡ census_output sample_order input
  unfolding drive_step
  drive_refused q = refusal_printed drive_checks (length t) (result_slice t old ∷ []) v q (window_output sample_order input) (census_output sample_order input) output

  pub drive_done : {k : ℕ} → r ≡ Ok k
      → (k ≤ length table) × Built input (take (k - 0) table) × (window_output sample_order input ≡ census_output sample_order input)
  unfolding drive_step
  drive_done q =
      let (fits, front) = success_written drive_checks t old v q in (
        fits,
        record { short = short (success_left drive_checks (length t) (result_slice t old ∷ []) v q).0; table = front },
        success_printed drive_checks (length t) (result_slice t old ∷ []) v q (window_output sample_order input) (census_output sample_order input) output,
      )
    where
      short : Passed drive_checks → length (census_drive input) ≤ 2047
      short (more _ h _) = ltb-false 2047 (length (census_drive input)) h

-- ---- the census

module _ (input oldRuns oldCounts runs counts : List ℕ) (r : Answer) (v : Serves (window_step sample_order input oldRuns oldCounts) (Answers r) (runs ∷ counts ∷ [])) where
  abbrev q : ℕ
  q = window_of input

  abbrev listed : List ℕ
  listed = joined (census_runs sample_order (window_of input) (census_drive input))

  abbrev often : List ℕ
  often = census_counts sample_order (window_of input) (census_drive input)

  abbrev l : List ℕ
  l = census_lines (census_drive input) (census_runs sample_order (window_of input) (census_drive input)) ++ line (decimal (total often))

  census_output_lem : window_output sample_order input ≡ printed (odd_window q ∷ []) l
  unfolding window_output
  census_output_lem = refl

  pub census_refused : {f : Refusal} → r ≡ Err f → refusal r ≡ window_output sample_order input
  unfolding window_step
  census_refused e = refusal_printed (odd_window q ∷ []) (length often) (result_slice listed oldRuns ∷ result_slice often oldCounts ∷ []) v e l (window_output sample_order input) census_output_lem

  module _ {k : ℕ} (e : r ≡ Ok k) (bytes : Bytes (census_drive input)) (short : length (census_drive input) ≤ 2047) where
    left : Passed (odd_window q ∷ []) × (k ≡ length often) × (runs ∷ counts ∷ [] ≡ placed listed oldRuns ∷ placed often oldCounts ∷ [])
    unfolding window_step
    left = success_left (odd_window q ∷ []) (length often) (result_slice listed oldRuns ∷ result_slice often oldCounts ∷ []) v e

    inside : (0 < q) × (q ≤ 8)
    inside = go left.0
      where
        go : Passed (odd_window q ∷ []) → (0 < q) × (q ≤ 8)
        go (more _ h _) = window_inside q h

    tallied : Tallied q listed often
    tallied = listed_tallied sample_order q (census_drive input) bytes inside.0 short

    counts_taken : (k ≤ length counts) × (take (k - 0) counts ≡ often)
    counts_taken = front_taken often oldCounts counts k left.1 (ap (λ (s : List (List ℕ)). get_or s 1 []) left.2)

    runs_taken : (w : ℕ) → w ≡ q → (w * k ≤ length runs) × (take (w * k - 0) runs ≡ listed)
    runs_taken w d =
        front_taken listed oldRuns runs (w * k) (ap₂ {C = ℕ} (λ x y. x * y) d left.1 ∙ sym tallied.size) (ap (λ (s : List (List ℕ)). get_or s 0 []) left.2)

    report_output : report q listed often ≡ window_output sample_order input
    unfolding report window_step
    report_output =
        ap (λ (x : List ℕ). x ++ line (decimal (total often))) (listed_lines sample_order q (census_drive input) bytes)
        ∙ success_printed (odd_window q ∷ []) (length often) (result_slice listed oldRuns ∷ result_slice often oldCounts ∷ []) v e l (window_output sample_order input) census_output_lem

    pub census_done : (w : ℕ) → w ≡ q → Listed input runs counts w k
    census_done w d =
        let (fits, front) = runs_taken w d in
        let (room, counted) = counts_taken in
        record {
          small = (omega (arith, inside.1), omega (arith, left.1, tallied.few));
          runs_fit = fits;
          counts_fit = room;
          tallied = subst (λ (y : List ℕ). Tallied w y (take (k - 0) counts)) (sym front)
              (subst (λ (y : List ℕ). Tallied w listed y) (sym counted) (subst (λ (x : ℕ). Tallied x listed often) (sym d) tallied));
          out_fits = le_trans (le_of_eq (ap₂ {C = ℕ} (λ x y. (4 * x + 5) * length y + 11) d counted)) (listed_room sample_order q (census_drive input) bytes inside.0 short inside.1);
          output = ap₂ {C = List ℕ} (λ x y. report w x y) front counted ∙ ap (λ (x : ℕ). report x listed often) d ∙ report_output;
        }
