-- `answer` prints the refusal of the drive, or the names of its headings.
use mathlib.Core.Path.{◌≡◌, ◌∙◌, ap}
use mathlib.Core.List.{List}
use Prim.Native.Nat.{ℕ, ◌≤◌}
use native.Mathlib.Omega.{arith}
use lib.ListN.{length}
use borrow.Author.Tests.{ltb-false}
use Rattle.std.specs.declared.result.Result.TheVariants.{Ok, Err}
use Rattle.definitions.specs.declared.Refusal.{Refusal}
use Rattle.definitions.specs.Words.{placed}
use Rattle.definitions.specs.Services.{outcome_of, Answer, drive_checks}
use Rattle.definitions.specs.Programs.{lines_of, heading_name, desk_output}
use Rattle.lists.specs.Decisions.{Passed, more, answered, done_all}
use Rattle.lines.specs.Lines.{refusal}
use Rattle.lines.proofs.Deciding.{checks_refused, checks_passed}
use Rattle.desk_output.proofs.answer.Goals as goal

module _ (x : List ℕ) {r : Answer} (e : outcome_of r ≡ answered (drive_checks x) (length x)) where
  refused : {f : Refusal} → r ≡ Err f → refusal r ≡ desk_output x
  unfolding desk_output
  refused q = checks_refused (drive_checks x) (length x) e (lines_of heading_name x) q

  named : {k : ℕ} → r ≡ Ok k → lines_of heading_name x ≡ desk_output x
  unfolding desk_output
  named q = checks_passed (drive_checks x) (length x) e (lines_of heading_name x) q

  short : {k : ℕ} → r ≡ Ok k → length x ≤ 2047
  unfolding drive_checks
  short q = go (done_all (drive_checks x) (length x) e q).0
    where
      go : Passed (drive_checks x) → length x ≤ 2047
      go (more _ h _) = ltb-false 2047 (length x) h

pub returns-in_default : goal.returns-in_default
returns-in_default c =
    let a = c.args in
    let e = refused a.drive.now c.drive_fits-a.ensures c.in_default.is in
    record {
      value = c.put_refusal.ensures.value ∙ ap length e;
      out_after = c.put_refusal.ensures.out_after ∙ ap (λ (l : List ℕ). placed l a.out.now) e;
    }

pub put_headings-requires : goal.put_headings-requires
put_headings-requires c =
    omega (arith, c.requires, short c.args.drive.now c.drive_fits-a.ensures c.in-Ok.is)

pub returns : goal.returns
returns c =
    let a = c.args in
    let e = named a.drive.now c.drive_fits-a.ensures c.in-Ok.is in
    record {
      value = c.put_headings.ensures.value ∙ ap length e;
      out_after = c.put_headings.ensures.out_after ∙ ap (λ (l : List ℕ). placed l a.out.now) e;
    }
