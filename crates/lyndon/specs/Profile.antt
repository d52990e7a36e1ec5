-- The nine-heading profile, of the services' definitions alone: its checks are passed exactly by profile drives (`passed_profile`, `profile_passed`). On a profile drive building in
-- the profile is building (`profile_built`), so where it is done it serves `build` (`built_profile`); checking in the profile accepts the table of every profile drive
-- (`profile_checked`) and nothing else (`checked_profile`).
use Rattle.std.specs.Prelude.{◌≡◌, refl, Bool, ℕ, ◌≤◌, length}
use Rattle.std.proofs.Common.{◌∙◌, subst, ⊎_elim, le-ltb}
use Rattle.std.proofs.Math.Path.{ap, ap₂}
use Rattle.std.proofs.Math.Bool.{true, false, cond}
use mathlib.Core.List.{List, [], ◌∷◌, ◌++◌}
use Rattle.std.proofs.lemmas.Bool.{not-false}
use Rattle.definitions.specs.declared.Order.{Order}
use Rattle.definitions.specs.Words.{every}
use Rattle.definitions.specs.Profile.{on_heading, first_off, at_rest, is_profile}
use Rattle.definitions.specs.Table.{table_of, text_of, rule_count}
use Rattle.definitions.specs.Services.{Outcome, done, refused, Check, first_met, outcome, slices_after, Serves, text_too_long, work_too_short, table_length, has_bad_word, not_a_table, result_too_short, off_heading, not_at_rest, table_checks, profile_checks, drive_checks, build_service, build_profile_service, check_profile_service}
use Rattle.lists.specs.Bools.{either, contra, and_left, and_right, and_intro}
use Rattle.lists.specs.Numbers.{every_least}
use Rattle.lists.specs.Decisions.{Passed, none, more, passed_all, passed_front, both_passed, passed_parts}
use Rattle.lists.specs.Serving.{done_passed}
use Rattle.lyndon.specs.Stored.{Stored, passes, table_text}
use Rattle.lyndon.specs.Back.{passed_acceptable}

-- ---- which drives pass

module _ (clears : Bool) (x : List ℕ) where
  pub passed_profile : Passed (profile_checks clears x) → is_profile x ≡ true
  unfolding profile_checks is_profile first_off
  passed_profile (more _ e (more _ f none)) =
      and_intro (every (on_heading x) (length x)) (at_rest x)
      (⊎_elim (λ a. a) (λ a. contra (every_least (on_heading x) (length x) false a) e) (either (every (on_heading x) (length x))))
      (not-false (at_rest x) f)

  pub profile_passed : is_profile x ≡ true → Passed (profile_checks clears x)
  unfolding profile_checks is_profile first_off
  profile_passed h =
      more (off_heading clears x) (every_least (on_heading x) (length x) true (and_left (every (on_heading x) (length x)) (at_rest x) h))
      (more (not_at_rest clears x) (rw (and_right (every (on_heading x) (length x)) (at_rest x) h)) none)

-- ---- building

module _ (o : Order) (text : List ℕ) (chair : ℕ) (work result : List ℕ) where
  abbrev behind : List Check
  behind = work_too_short (length work) ∷ result_too_short (length (table_of o text chair)) (length result) ∷ []

  -- the checks of a profile drive decide as those of building do
  same_first {ℓ} : {A : Type ℓ} (f : Check → A) (s : A) → is_profile text ≡ true
      → first_met (drive_checks text ++ behind) f s ≡ first_met (text_too_long text ∷ behind) f s
  unfolding first_met drive_checks
  same_first f s h = ap (λ a. cond (text_too_long text).met (f (text_too_long text)) a) (passed_front behind f s (profile_passed false text h))

  pub profile_built : is_profile text ≡ true
      → (outcome (build_profile_service o text chair work result) ≡ outcome (build_service o text chair work result))
      × (slices_after (build_profile_service o text chair work result) ≡ slices_after (build_service o text chair work result))
  unfolding outcome slices_after build_profile_service build_service drive_checks profile_checks
  profile_built h = (same_first _ _ h, ap₂ {C = List (List ℕ)} (λ u v. u ∷ v ∷ []) (same_first _ _ h) (same_first _ _ h))

  passed_text : Passed (build_profile_service o text chair work result).checks → is_profile text ≡ true
  unfolding build_profile_service drive_checks profile_checks
  passed_text (more _ _ p) = passed_profile false text (passed_parts (profile_checks false text) p).0

  -- a call that serves and is done: the drive is a profile drive, and the call serves `build` too
  pub built_profile : {A : Outcome → Type 0} {held : List (List ℕ)} {k c : ℕ} → Serves (build_profile_service o text chair work result) A held
      → outcome (build_profile_service o text chair work result) ≡ done k c → (is_profile text ≡ true) × Serves (build_service o text chair work result) A held
  built_profile {A} v e =
      let h = passed_text (done_passed (build_profile_service o text chair work result) e) in
      let (a, b) = profile_built h in
      (h, record { answer = subst A a v.answer; slices = v.slices ∙ b })

-- ---- checking

pub profile_checked : (o : Order) (text : List ℕ) (chair : ℕ) (work : List ℕ) → Stored text chair → is_profile text ≡ true → 16384 ≤ length work
    → outcome (check_profile_service o (table_of o text chair) work) ≡ done (rule_count (table_of o text chair)) 0
unfolding outcome check_profile_service table_checks
profile_checked o text chair work ok h long =
    let t = table_of o text chair in
    let (a, b, c) = (passes o t).1 (text, chair, ok, refl) in
    passed_all (λ d. refused d.number d.place) (done (rule_count t) 0)
    (both_passed
    (more (work_too_short (length work)) (le-ltb (length work) 16384 long) (more (table_length (length t)) a (more (has_bad_word t) b (more (not_a_table o t) c none))))
    (profile_passed true (text_of o t) (rw (table_text o text chair ok) h)))

pub checked_profile : (o : Order) (t work : List ℕ) (k c : ℕ) → outcome (check_profile_service o t work) ≡ done k c
    → (text : List ℕ) × (chair : ℕ) × Stored text chair × (is_profile text ≡ true) × (t ≡ table_of o text chair)
unfolding check_profile_service
checked_profile o t work k c e =
    let p = done_passed (check_profile_service o t work) e in
    let (text, chair, ok, q) = (passes o t).0 (passed_acceptable o t (length work) (profile_checks true (text_of o t)) p) in
    let same = ap (text_of o) q ∙ table_text o text chair ok in
    (text, chair, ok, subst (λ (x : List ℕ). is_profile x ≡ true) same (passed_profile true (text_of o t) (passed_parts (table_checks o t (length work)) p).1), q)
