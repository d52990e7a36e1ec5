-- What is printed, from the answers of the two steps: the line of a refusal, or the output of what comes next.
use mathlib.Core.Path.{◌≡◌, refl}
use mathlib.Core.Bool.{Bool, true, false, cond, true≢false}
use mathlib.Core.List.{List, [], ◌∷◌, ◌++◌}
use Prim.Native.Nat.{ℕ, ◌+◌, ◌-◌, ◌*◌, ◌≤◌, ◌<◌}
use native.Mathlib.Omega.{arith}
use lib.ListN.{length, take, length-take, length-append}
use lib.Dec.{ltb}
use borrow.Author.Tests.{lt-ltb, ltb-false}
use Rattle.definitions.specs.declared.Refusal.{Refusal}
use Rattle.definitions.specs.declared.Order.{Order}
use Rattle.std.specs.declared.result.Result.TheVariants.{Ok, Err}
use Rattle.definitions.specs.Table.{table_of, rule_count}
use Rattle.definitions.specs.Occurrences.{occurrences}
use Rattle.definitions.specs.Services.{Answer, Check, first_met, result_slice, Serves, Answers, text_too_long, sample_order, pattern_checks}
use Rattle.definitions.specs.Programs.{decimal, named, lines_of, refused_line, printed, motif_of, drive_of, input_too_long, rules_name, found_name, found_lines, motif_output}
use Rattle.lines.specs.Lines.{refusal}
use Rattle.lines.proofs.Lines.{named_most, decimals_most}
use Rattle.motif_output.specs.Steps.{drive_step, motif_step, search_output, Built}
use Rattle.lines.proofs.Deciding.{refusal_printed, success_printed, success_written, success_passed}

-- of a longer input 4,096 bytes are read, and the same is printed
pub read_enough : (o : Order) (input : List ℕ) → 4095 < length input → motif_output o (take 4096 input) ≡ motif_output o input
unfolding motif_output printed first_met refused_line
read_enough o input h =
    rw (lt-ltb 4095 (length input) h, lt-ltb 4095 (length (take 4096 input)) (simp length-take (omega arith)))

pub found_most : (l : List ℕ) → length (found_lines l) ≤ 17 + 11 * length l
unfolding found_lines
found_most l = omega (arith, length-append (named found_name (length l)) (lines_of decimal l), named_most found_name (length l), decimals_most l)

-- ---- the drive

module _ (input : List ℕ) (r : Answer) (old table : List ℕ) (v : Serves (drive_step sample_order input old) (Answers r) (table ∷ [])) where
  abbrev t : List ℕ
  t = table_of sample_order (drive_of input) 0

  abbrev drive_checks : List Check
  drive_checks = input_too_long input ∷ text_too_long (drive_of input) ∷ []

  output : motif_output sample_order input ≡ printed drive_checks (search_output sample_order input)
  unfolding motif_output search_output printed first_met
  output = refl

  pub drive_refused : {f : Refusal} → r ≡ Err f → refusal r ≡ motif_output sample_order input
  unfolding drive_step first_met
  drive_refused q =
      refusal_printed drive_checks (length t) (result_slice t old ∷ []) v q (search_output sample_order input) (motif_output sample_order input) output

  short : (a b : Bool) → cond a true (cond b true false) ≡ false → b ≡ false
  short true b e = absurd (true≢false e)
  short false true e = e
  short false false e = refl

  pub drive_done : (k : ℕ) → r ≡ Ok k
      → (k ≤ length table) × Built input (take (k - 0) table) × (search_output sample_order input ≡ motif_output sample_order input)
  unfolding drive_step first_met
  drive_done k q =
      let (fits, front) = success_written drive_checks t old v q in
      let passed = success_passed drive_checks (length t) (result_slice t old ∷ []) v q in (
        fits,
        record { short = ltb-false 2047 (length (drive_of input)) (short (ltb 4095 (length input)) (ltb 2047 (length (drive_of input))) passed); table = front },
        success_printed drive_checks (length t) (result_slice t old ∷ []) v q (search_output sample_order input) (motif_output sample_order input) output,
      )

-- ---- the motif

module _ (input : List ℕ) (r : Answer) (old positions : List ℕ) (v : Serves (motif_step input old) (Answers r) (positions ∷ [])) where
  abbrev finds : List ℕ
  finds = occurrences (motif_of input) (drive_of input)

  abbrev l : List ℕ
  l = named rules_name (rule_count (table_of sample_order (drive_of input) 0)) ++ found_lines (occurrences (motif_of input) (drive_of input))

  found_output : search_output sample_order input ≡ printed (pattern_checks (motif_of input)) l
  unfolding search_output
  found_output = refl

  pub motif_refused : {f : Refusal} → r ≡ Err f → refusal r ≡ search_output sample_order input
  unfolding motif_step pattern_checks first_met
  motif_refused q =
      refusal_printed (pattern_checks (motif_of input)) (length finds) (result_slice finds old ∷ []) v q l (search_output sample_order input) found_output

  pub motif_done : (k : ℕ) → r ≡ Ok k
      → (k ≤ length positions) × (take (k - 0) positions ≡ occurrences (motif_of input) (drive_of input)) × (l ≡ search_output sample_order input)
  unfolding motif_step
  motif_done k q =
      let (fits, front) = success_written (pattern_checks (motif_of input)) finds old v q in
      (fits, front, success_printed (pattern_checks (motif_of input)) (length finds) (result_slice finds old ∷ []) v q l (search_output sample_order input) found_output)
