-- The last check in the front of the work slice: y stands there once the table is judged. What it loads is opened (`settled_done`), and where it refuses the front is
-- cleared (`settled_refused`).
use mathlib.Core.Path.{◌≡◌, refl, sym, ◌∙◌, ap, subst}
use mathlib.Core.Bool.{Bool, true, false, cond}
use mathlib.Core.List.{List, ◌++◌}
use Prim.Native.Nat.{ℕ, ◌≤◌}
use native.Mathlib.Omega.{arith}
use lib.ListN.{length, take, drop, length-append}
use lib.Seq.{take_at, drop_at, length-take-le}
use borrow.Author.Tests.{not-false}
use Rattle.definitions.specs.declared.Refusal.{Refusal}
use Rattle.definitions.specs.declared.Order.{Order}
use Rattle.std.specs.declared.result.Result.TheVariants.{Ok, Err}
use Rattle.definitions.specs.Table.{text_of, chair_of, is_table, rule_count}
use Rattle.definitions.specs.Services.{Answer, done, refused, cleared, work_too_short, table_length, has_bad_word, not_a_table, table_checks}
use Rattle.lists.specs.Bools.{contra}
use Rattle.lists.specs.Decisions.{met, later, none, more, refused_met, done_met}
use Rattle.lyndon.specs.Stored.{accepted_table}
use Rattle.layout.specs.Layout.{WORK}
use Rattle.state.specs.State.{Loaded}
use Rattle.tables.specs.Loading.{Judged}
use Rattle.checks.proofs.Fronts.{work_cleared}
use Rattle.opening.specs.Opening.{Settled, Admitted, turned_down, opened}

module _ (o : Order) (t work y : List ℕ) (r : Answer) (long : WORK ≤ length work) (size : length y ≡ length (take WORK work)) (j : Judged o t y r) where
  pub settled_refused : {f : Refusal} (z : List ℕ) → r ≡ Err f → z ≡ cleared (y ++ drop WORK work) → Settled o t work z r
  settled_refused z e f = record {
    answer = j.answer;
    foreign = λ q. work_cleared work y z long size f;
    accepted = λ q. contra (refused_met (not_a_table o t) (rule_count t) j.answer e).0 q;
  }

  pub settled_done : {a : ℕ} → r ≡ Ok a → Settled o t work (y ++ drop WORK work) r
  settled_done e =
      let accepted = not-false (is_table o t) (done_met (not_a_table o t) (rule_count t) j.answer e).0 in
      let front : length y ≡ WORK = size ∙ length-take-le WORK work long in
      record {
        answer = j.answer;
        foreign = λ q. contra q (done_met (not_a_table o t) (rule_count t) j.answer e).0;
        accepted = λ q. record {
          accepted = accepted;
          long = omega (arith, length-append y (drop WORK work));
          loaded = subst (Loaded o (text_of o t) (chair_of t)) (sym (take_at y (drop WORK work) WORK front)) (j.loaded accepted);
          rest = drop_at y (drop WORK work) WORK front;
        };
      }

-- with the checks before it, none of which is met
pub settled_admitted : (o : Order) (t work held : List ℕ) (r : Answer) → (work_too_short (length work)).met ≡ false → (table_length (length t)).met ≡ false → (has_bad_word t).met ≡ false
    → Settled o t work held r → Admitted o t work held r
unfolding table_checks
settled_admitted o t work held r room size words s = go (not_a_table o t).met refl
  where
    go : (b : Bool) → (not_a_table o t).met ≡ b → Admitted o t work held r
    go true q =
        turned_down (not_a_table o t) (later (work_too_short (length work)) room (later (table_length (length t)) size (later (has_bad_word t) words (met q)))) (s.foreign q)
        (s.answer ∙ ap (λ (m : Bool). cond m (refused 7 0) (done (rule_count t) 0)) q)
    go false q =
        let x = s.accepted q in
        opened (more (work_too_short (length work)) room (more (table_length (length t)) size (more (has_bad_word t) words (more (not_a_table o t) q none)))) x
        (s.answer ∙ ap (λ (m : Bool). cond m (refused 7 0) (done (rule_count t) 0)) q ∙ ap (λ (l : List ℕ). done (rule_count l) 0) (sym (accepted_table o t x.accepted)))
