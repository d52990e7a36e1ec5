-- Which of several checks decides: one of them is the first that is met (`First`), or none is (`Passed`), and `first_met` then gives what that
-- check refuses with (`first_decides`), or success (`passed_all`). What the answer of a check (`checked`) or of several (`answered`) tells of them.
use Rattle.std.specs.Prelude.{◌≡◌, refl, Ok, Err, Bool, true, false, cond, ◌⊎◌, List, [], ◌∷◌, ◌++◌, ℕ}
use Rattle.std.proofs.Common.{sym, ◌∙◌, ap, inl, inr, arith}
use Rattle.definitions.specs.declared.Refusal.{Refusal}
use Rattle.definitions.specs.Services.{Answer, Outcome, done, refused, outcome_of, Check, first_met}

-- d is the first of the checks that is met
pub data First (d : Check) : List Check → Type 0 where
  met : {checks : List Check} → d.met ≡ true → First d (d ∷ checks)
  later : (c : Check) {checks : List Check} → c.met ≡ false → First d checks → First d (c ∷ checks)

-- none of the checks is met
pub data Passed : List Check → Type 0 where
  none : Passed []
  more : (c : Check) {checks : List Check} → c.met ≡ false → Passed checks → Passed (c ∷ checks)

-- one or the other
pub decide : (checks : List Check) → ((d : Check) × First d checks) ⊎ Passed checks
decide [] = inr none
decide (c ∷ checks) = go (decide checks) c.met refl
  where
    go : ((d : Check) × First d checks) ⊎ Passed checks → (m : Bool) → c.met ≡ m → ((d : Check) × First d (c ∷ checks)) ⊎ Passed (c ∷ checks)
    go ih true q = inl (c, met q)
    go (inl (d, f)) false q = inl (d, later c q f)
    go (inr p) false q = inr (more c q p)

pub first_decides {ℓ} : {A : Type ℓ} (d : Check) {checks : List Check} (f : Check → A) (x : A) → First d checks → first_met checks f x ≡ f d
unfolding first_met
first_decides d f x (met e) = rw e
first_decides d f x (later c e r) = rw e (first_decides d f x r)

pub passed_all {ℓ} : {A : Type ℓ} {checks : List Check} (f : Check → A) (x : A) → Passed checks → first_met checks f x ≡ x
unfolding first_met
passed_all f x none = refl
passed_all f x (more c e r) = rw e (passed_all f x r)

-- ---- more checks behind

pub first_before : {d : Check} {a : List Check} (b : List Check) → First d a → First d (a ++ b)
first_before b (met e) = met e
first_before b (later c e f) = later c e (first_before b f)

-- where none of the first is met, those behind decide
pub passed_front {ℓ} : {A : Type ℓ} {a : List Check} (b : List Check) (f : Check → A) (x : A) → Passed a → first_met (a ++ b) f x ≡ first_met b f x
unfolding first_met
passed_front b f x none = refl
passed_front b f x (more c e p) = rw e (passed_front b f x p)

pub both_passed : {a b : List Check} → Passed a → Passed b → Passed (a ++ b)
both_passed none q = q
both_passed (more c e p) q = more c e (both_passed p q)

-- and back
pub passed_parts : (a : List Check) {b : List Check} → Passed (a ++ b) → Passed a × Passed b
passed_parts [] p = (none, p)
passed_parts (c ∷ a) (more _ e p) = let (q, r) = passed_parts a p in (more c e q, r)

-- ---- answers

-- what one check decides: the refusal where it is met, else the number that goes on; and several in order
abbrev pub checked : Check → ℕ → Outcome
checked c n = cond c.met (refused c.number c.place) (done n 0)

abbrev pub answered : List Check → ℕ → Outcome
answered checks n = first_met checks (λ c. refused c.number c.place) (done n 0)

module _ (checks : List Check) (n : ℕ) {r : Answer} (e : outcome_of r ≡ answered checks n) where
  -- an answer that refuses is that of one of them
  pub refused_some : {f : Refusal} → r ≡ Err f → (d : Check) × First d checks × (outcome_of r ≡ refused d.number d.place)
  unfolding outcome_of
  refused_some {f} h = go (decide checks)
    where
      go : ((d : Check) × First d checks) ⊎ Passed checks → (d : Check) × First d checks × (outcome_of r ≡ refused d.number d.place)
      go (inl (d, x)) = (d, x, e ∙ first_decides d (λ c. refused c.number c.place) (done n 0) x)
      go (inr p) =
          let g : outcome_of (Err f) ≡ done n 0 = sym (ap outcome_of h) ∙ e ∙ passed_all (λ c. refused c.number c.place) (done n 0) p in
          let z : ◌≡◌ {A = ℕ} 0 1 = cc in
          absurd (omega arith)

  -- whatever checks follow
  pub refused_already : {f : Refusal} → r ≡ Err f → (rest : List Check) → outcome_of r ≡ answered (checks ++ rest) n
  refused_already h rest =
      let (d, x, g) = refused_some h in
      g ∙ sym (first_decides d (λ c. refused c.number c.place) (done n 0) (first_before rest x))

  -- one that goes on has met none, and hands on what was to be handed on
  pub done_all : {a : ℕ} → r ≡ Ok a → Passed checks × (a ≡ n)
  unfolding outcome_of
  done_all {a} h = go (decide checks)
    where
      go : ((d : Check) × First d checks) ⊎ Passed checks → Passed checks × (a ≡ n)
      go (inl (d, x)) =
          let g : refused d.number d.place ≡ outcome_of (Ok a) = sym (e ∙ first_decides d (λ c. refused c.number c.place) (done n 0) x) ∙ ap outcome_of h in
          let z : ◌≡◌ {A = ℕ} 0 1 = cc in
          absurd (omega arith)
      go (inr p) =
          let g : outcome_of (Ok a) ≡ done n 0 = sym (ap outcome_of h) ∙ e ∙ passed_all (λ c. refused c.number c.place) (done n 0) p in
          (p, cc)

-- the same of one check
module _ (c : Check) (n : ℕ) {r : Answer} (e : outcome_of r ≡ checked c n) where
  pub refused_met : {f : Refusal} → r ≡ Err f → (c.met ≡ true) × (outcome_of r ≡ refused c.number c.place)
  unfolding first_met
  refused_met h = go (refused_some (c ∷ []) n e h)
    where
      go : (d : Check) × First d (c ∷ []) × (outcome_of r ≡ refused d.number d.place) → (c.met ≡ true) × (outcome_of r ≡ refused c.number c.place)
      go (d, met q, g) = (q, g)
      go (d, later _ _ x8, g) = elim x8 [ ]

  pub done_met : {a : ℕ} → r ≡ Ok a → (c.met ≡ false) × (a ≡ n)
  unfolding first_met
  done_met {a} h = go (done_all (c ∷ []) n e h)
    where
      go : Passed (c ∷ []) × (a ≡ n) → (c.met ≡ false) × (a ≡ n)
      go (more _ q none, g) = (q, g)
