-- Calls that serve, by the check that decides: refused by one of the checks (`refused_by`, `refused_front`), or decided by those behind them (`passed`; back: `passed_over`),
-- in the end by none (`served`; back: `done_passed`, `done_served`). A work slice that is cleared can be lent besides (`worked`), and an answer stated otherwise (`restated`, `said`),
-- or without the number beside the one that success gives (`search_alone`, `alone_alike`).
use Rattle.std.specs.Prelude.{◌≡◌, refl, Err, Bool, true, false, cond, ◌⊎◌, List, [], ◌∷◌, ◌++◌, map, ℕ}
use Rattle.std.proofs.Math.Path.{sym, subst}
use Rattle.std.proofs.Common.{◌∙◌, ap₂, inl, inr, append_assoc, arith}
use Rattle.definitions.specs.declared.Refusal.{Refusal}
use Rattle.definitions.specs.declared.Search.{Search}
use Rattle.definitions.specs.Services.{Answer, Outcome, done, refused, outcome_of, alone, Searches, Check, Lent, work_slice, Service, first_met, outcome, slices_after, cleared, Serves, Answers}
use Rattle.lists.specs.Decisions.{First, met, later, Passed, decide, first_decides, passed_all, passed_front, first_before, answered, refused_some}

abbrev pub by : List Check → Outcome → List Lent → Service
by checks success lent = record { checks = checks; success = success; lent = lent }

-- an answer that refuses stands for a refusal, whatever the kind of answer
abbrev pub Refuses : (Outcome → Type 0) → Answer → Type 0
Refuses A r = (x y : ℕ) → outcome_of r ≡ refused x y → A (refused x y)

pub answer_refuses : (r : Answer) → Refuses (Answers r) r
answer_refuses r x y e = e

same_map : (f g : Lent → List ℕ) → ((x : Lent) → f x ≡ g x) → (l : List Lent) → map f l ≡ map g l
same_map f g h [] = refl
same_map f g h (x ∷ l) = ap₂ {C = List (List ℕ)} (λ y m. y ∷ m) (h x) (same_map f g h l)

module _ {checks : List Check} {success : Outcome} {lent : List Lent} {A : Outcome → Type 0} {held : List (List ℕ)} where
  -- refused by d
  pub refused_by : (d : Check) → First d checks → A (refused d.number d.place) → held ≡ map (λ x. x.if_refused d) lent → Serves (by checks success lent) A held
  unfolding outcome slices_after
  refused_by d f a e = record {
    answer = subst A (sym (first_decides d (λ c. refused c.number c.place) success f)) a;
    slices = e ∙ sym (same_map (λ x. first_met checks x.if_refused x.if_done) (λ x. x.if_refused d) (λ x. first_decides d x.if_refused x.if_done f) lent);
  }

  -- refused by none
  pub served : Passed checks → A success → held ≡ map (λ x. x.if_done) lent → Serves (by checks success lent) A held
  unfolding outcome slices_after
  served p a e = record {
    answer = subst A (sym (passed_all (λ c. refused c.number c.place) success p)) a;
    slices = e ∙ sym (same_map (λ x. first_met checks x.if_refused x.if_done) (λ x. x.if_done) (λ x. passed_all x.if_refused x.if_done p) lent);
  }

  -- the first checks are not met: those behind decide
  pub passed : {front : List Check} → Passed front → Serves (by checks success lent) A held → Serves (by (front ++ checks) success lent) A held
  unfolding outcome slices_after
  passed {front} p v = record {
    answer = subst A (sym (passed_front checks (λ c. refused c.number c.place) success p)) v.answer;
    slices = v.slices
        ∙ sym (same_map (λ x. first_met (front ++ checks) x.if_refused x.if_done) (λ x. first_met checks x.if_refused x.if_done) (λ x. passed_front checks x.if_refused x.if_done p) lent);
  }

  -- and back
  pub passed_over : {front : List Check} → Passed front → Serves (by (front ++ checks) success lent) A held → Serves (by checks success lent) A held
  unfolding outcome slices_after
  passed_over {front} p v = record {
    answer = subst A (passed_front checks (λ c. refused c.number c.place) success p) v.answer;
    slices = v.slices
        ∙ same_map (λ x. first_met (front ++ checks) x.if_refused x.if_done) (λ x. first_met checks x.if_refused x.if_done) (λ x. passed_front checks x.if_refused x.if_done p) lent;
  }

-- the checks may be grouped otherwise
pub grouped : (a b c : List Check) {success : Outcome} {lent : List Lent} {A : Outcome → Type 0} {held : List (List ℕ)}
    → Serves (by (a ++ (b ++ c)) success lent) A held → Serves (by ((a ++ b) ++ c) success lent) A held
grouped a b c {success} {lent} {A} {held} v = subst (λ (checks : List Check). Serves (by checks success lent) A held) (sym (append_assoc a b c)) v

-- and back: a service that is done has met none of its checks
pub done_passed : (s : Service) {k c : ℕ} → outcome s ≡ done k c → Passed s.checks
unfolding outcome
done_passed s {k} {c} e = go (decide s.checks)
  where
    go : ((d : Check) × First d s.checks) ⊎ Passed s.checks → Passed s.checks
    go (inl (d, f)) =
        let g : refused d.number d.place ≡ done k c = sym (first_decides d (λ x. refused x.number x.place) s.success f) ∙ e in
        let z : ◌≡◌ {A = ℕ} 0 1 = cc in
        absurd (omega arith)
    go (inr p) = p

-- a call that serves and is done answers the service's success, and the lent slices hold what success leaves there
pub done_served : {s : Service} (r : Answer) {held : List (List ℕ)} {k c : ℕ} → Serves s (Answers r) held → outcome_of r ≡ done k c
    → Passed s.checks × (s.success ≡ done k c) × (held ≡ map (λ x. x.if_done) s.lent)
unfolding outcome slices_after
done_served {s} r v e =
    let p = done_passed s (sym v.answer ∙ e) in (
      p,
      sym (v.answer ∙ passed_all (λ x. refused x.number x.place) s.success p) ∙ e,
      v.slices ∙ same_map (λ x. first_met s.checks x.if_refused x.if_done) (λ x. x.if_done) (λ x. passed_all x.if_refused x.if_done p) s.lent,
    )

-- the same service answered in other words
pub said : {s : Service} {A B : Outcome → Type 0} {held : List (List ℕ)} → ((o : Outcome) → A o → B o) → Serves s A held → Serves s B held
said {s} f v = record { answer = f (outcome s) v.answer; slices = v.slices }

-- with another success
pub restated : {checks : List Check} {success other : Outcome} {lent : List Lent} {A B : Outcome → Type 0} {held : List (List ℕ)}
    → ((x y : ℕ) → A (refused x y) → B (refused x y)) → (A success → B other) → Serves (by checks success lent) A held → Serves (by checks other lent) B held
unfolding outcome slices_after
restated {checks} {success} {other} {lent} {A} {B} {held} f g v = record { answer = go (decide checks); slices = v.slices }
  where
    go : ((d : Check) × First d checks) ⊎ Passed checks → B (first_met checks (λ c. refused c.number c.place) other)
    go (inl (d, x)) =
        subst B (sym (first_decides d (λ c. refused c.number c.place) other x))
        (f d.number d.place (subst A (first_decides d (λ c. refused c.number c.place) success x) v.answer))
    go (inr p) =
        subst B (sym (passed_all (λ c. refused c.number c.place) other p))
        (g (subst A (passed_all (λ c. refused c.number c.place) success p) v.answer))

-- ---- the number beside the one that success gives, left out

-- what the answer of a search stands for
pub search_alone : (s : Search) (o : Outcome) → Searches s o → outcome_of s.answer ≡ alone o
search_alone s o e = e.answer

abbrev refusal : Check → Outcome
refusal c = refused c.number c.place

alone_first : (checks : List Check) (success : Outcome) → alone (first_met checks refusal success) ≡ first_met checks refusal (alone success)
unfolding alone first_met
alone_first [] success = refl
alone_first (c ∷ checks) success = go c.met (alone_first checks success)
  where
    go : (b : Bool) → alone (first_met checks refusal success) ≡ first_met checks refusal (alone success)
        → alone (cond b (refusal c) (first_met checks refusal success)) ≡ cond b (refusal c) (first_met checks refusal (alone success))
    go true e = refl
    go false e = e

pub alone_alike : (s z : Service) → first_met s.checks refusal (alone s.success) ≡ first_met z.checks refusal (alone z.success)
    → alone (outcome s) ≡ alone (outcome z)
unfolding outcome
alone_alike s z e = alone_first s.checks s.success ∙ e ∙ sym (alone_first z.checks z.success)

-- ---- which checks clear the work slice: all of them, or none

abbrev pub Clear : Bool → List Check → Type 0
Clear b [] = ◌≡◌ {A = ℕ} 0 0
Clear b (c ∷ checks) = (c.clears ≡ b) × Clear b checks

first_clear : (d : Check) (b : Bool) {checks : List Check} → First d checks → Clear b checks → d.clears ≡ b
first_clear d b (met e) k = k.0
first_clear d b (later c e f) k = first_clear d b f k.1

all_cleared : (checks : List Check) (work : List ℕ) → Clear true checks → first_met checks (work_slice work).if_refused (cleared work) ≡ cleared work
unfolding first_met
all_cleared [] work k = refl
all_cleared (c ∷ checks) work k = go c.met (all_cleared checks work k.1)
  where
    go : (b : Bool) → first_met checks (work_slice work).if_refused (cleared work) ≡ cleared work
        → cond b (cond c.clears (cleared work) work) (first_met checks (work_slice work).if_refused (cleared work)) ≡ cleared work
    go true e = rw k.0
    go false e = e

-- a work slice besides, where every check that is left clears it
pub worked : {checks : List Check} {success : Outcome} {lent : List Lent} {A : Outcome → Type 0} {held : List (List ℕ)} (work after : List ℕ)
    → Clear true checks → after ≡ cleared work → Serves (by checks success lent) A held → Serves (by checks success (work_slice work ∷ lent)) A (after ∷ held)
unfolding outcome slices_after
worked {checks} work after k e v =
    record { answer = v.answer; slices = ap₂ {C = List (List ℕ)} (λ x l. x ∷ l) (e ∙ sym (all_cleared checks work k)) v.slices }

-- refused by one of the first checks, none of which clears: every lent slice is as it was
pub refused_front : (front rest : List Check) {success : Outcome} {lent : List Lent} {A : Outcome → Type 0} {held : List (List ℕ)} (n : ℕ) {f : Refusal} {r : Answer}
    → Clear false front → outcome_of r ≡ answered front n → r ≡ Err f → Refuses A r → ((d : Check) → d.clears ≡ false → held ≡ map (λ x. x.if_refused d) lent)
    → Serves (by (front ++ rest) success lent) A held
refused_front front rest n k e f refuses same =
    let (d, first, g) = refused_some front n e f in
    refused_by d (first_before rest first) (refuses d.number d.place g) (same d (first_clear d false first k))
