-- A list as long as the text that is handed over, written where both checks are passed: the text's and that of the result slice.
use mathlib.Core.Path.{◌≡◌, refl, sym, ◌∙◌, ap}
use mathlib.Core.List.{List, [], ◌∷◌}
use Prim.Native.Nat.{ℕ, ◌≤◌}
use lib.ListN.{length}
use borrow.Author.Tests.{ltb-false}
use Rattle.std.specs.declared.result.Result.TheVariants.{Ok, Err}
use Rattle.definitions.specs.declared.Refusal.{Refusal}
use Rattle.definitions.specs.Words.{placed}
use Rattle.definitions.specs.Services.{Answer, done, outcome_of, Check, text_too_long, result_too_short, Serves, Answers, writes}
use Rattle.lists.specs.Decisions.{Passed, none, more, answered, refused_some, done_all}
use Rattle.lists.specs.Serving.{answer_refuses, refused_by, served}

abbrev both_checks : List ℕ → ℕ → ℕ → List Check
both_checks text needed n = text_too_long text ∷ result_too_short needed n ∷ []

-- r answers both checks, and l is as long as the text
pub record Judged (text l result : List ℕ) (r : Answer) : Type 0 where
  pub size : length l ≡ length text
  pub answer : outcome_of r ≡ answered (both_checks text (length text) (length result)) (length text)

module _ {text l result : List ℕ} {r : Answer} (j : Judged text l result r) where
  said : outcome_of r ≡ answered (both_checks text (length l) (length result)) (length l)
  said = j.answer ∙ ap (λ (n : ℕ). answered (both_checks text n (length result)) n) (sym j.size)

  pub both_refused : {f : Refusal} → r ≡ Err f → Serves (writes (text_too_long text ∷ []) l 0 result) (Answers r) (result ∷ [])
  both_refused f =
      let (d, first, g) = refused_some (both_checks text (length l) (length result)) (length l) said f in
      refused_by d first (answer_refuses r d.number d.place g) refl

  module _ {m : ℕ} (f : r ≡ Ok m) where
    passes : Passed (both_checks text (length l) (length result))
    passes = (done_all (both_checks text (length l) (length result)) (length l) said f).0

    pub both_fit : length text ≤ length result
    both_fit = go passes
      where
        go : Passed (both_checks text (length l) (length result)) → length text ≤ length result
        go (more a p (more b q none)) = rw (← j.size) (ltb-false (length result) (length l) q)

    pub both_written : {after : List ℕ} → after ≡ placed l result → Serves (writes (text_too_long text ∷ []) l 0 result) (Answers r) (after ∷ [])
    unfolding outcome_of
    both_written g =
        let n = (done_all (both_checks text (length l) (length result)) (length l) said f).1 in
        served passes (ap outcome_of f ∙ ap (λ (k : ℕ). done k 0) n) (ap (λ (x : List ℕ). x ∷ []) g)
