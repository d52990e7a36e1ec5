-- A refusal is known by its number and place (`same_refusal`): so an outcome has one answer (`same_answer`), one answer to reading (`same_reading`) and one record of a search
-- (`same_search`), and a promise about an outcome is one about the whole answer.
use Rattle.std.specs.Prelude.{◌≡◌, refl, Ok, Err, ℕ, cond, eqb}
use Rattle.std.proofs.Common.{sym, ◌∙◌, ap, ap₂, arith}
use Rattle.definitions.specs.declared.Refusal.{Refusal}
use Rattle.definitions.specs.declared.Refusal.TheVariants.{TextTooLong, PatternEmpty, PatternTooLong, WorkTooShort, TableLength, BadWord, NotATable, RangePastEnd, ResultTooShort, NoStep, OffHeading, NotAtRest, OddWindow}
use Rattle.definitions.specs.declared.Search.{Search}
use Rattle.definitions.specs.Services.{Answer, ReadAnswer, Outcome, refusal_number, refusal_place, outcome_of, read_outcome, Searches}

-- the refusal of a number and a place
unfoldable refusal_of : ℕ → ℕ → Refusal
refusal_of number place =
    cond (eqb number 1) TextTooLong (cond (eqb number 2) PatternEmpty (cond (eqb number 3) PatternTooLong (
    cond (eqb number 4) WorkTooShort (cond (eqb number 5) TableLength (cond (eqb number 6) (BadWord place) (
    cond (eqb number 7) NotATable (cond (eqb number 8) RangePastEnd (cond (eqb number 9) (ResultTooShort place) (
    cond (eqb number 10) NoStep (cond (eqb number 11) (OffHeading place) (cond (eqb number 12) NotAtRest (
    OddWindow))))))))))))

back : (r : Refusal) → refusal_of (refusal_number r) (refusal_place r) ≡ r
unfolding refusal_of refusal_number refusal_place
back TextTooLong = refl
back PatternEmpty = refl
back PatternTooLong = refl
back WorkTooShort = refl
back TableLength = refl
back (BadWord at) = refl
back NotATable = refl
back RangePastEnd = refl
back (ResultTooShort needed) = refl
back NoStep = refl
back (OffHeading at) = refl
back NotAtRest = refl
back OddWindow = refl

pub same_refusal : (r s : Refusal) → refusal_number r ≡ refusal_number s → refusal_place r ≡ refusal_place s → r ≡ s
same_refusal r s n p = sym (back r) ∙ ap₂ {C = Refusal} refusal_of n p ∙ back s

pub same_answer : (r s : Answer) → outcome_of r ≡ outcome_of s → r ≡ s
unfolding outcome_of
same_answer (Ok n) (Ok m) e = let q : n ≡ m = cc in ap Ok q
same_answer (Ok n) (Err s) e = absurd (let z : ◌≡◌ {A = ℕ} 0 1 = cc in omega arith)
same_answer (Err r) (Ok m) e = absurd (let z : ◌≡◌ {A = ℕ} 0 1 = cc in omega arith)
same_answer (Err r) (Err s) e = let n : refusal_number r ≡ refusal_number s = cc in let p : refusal_place r ≡ refusal_place s = cc in ap Err (same_refusal r s n p)

pub same_reading : (r s : ReadAnswer) → read_outcome r ≡ read_outcome s → r ≡ s
unfolding read_outcome
same_reading (Ok b) (Ok c) e =
    let n : b.samples ≡ c.samples = cc in
    let m : b.chair ≡ c.chair = cc in
    ap₂ {C = ReadAnswer} (λ (x y : ℕ). Ok (record { samples = x; chair = y })) n m
same_reading (Ok b) (Err s) e = absurd (let z : ◌≡◌ {A = ℕ} 0 1 = cc in omega arith)
same_reading (Err r) (Ok c) e = absurd (let z : ◌≡◌ {A = ℕ} 0 1 = cc in omega arith)
same_reading (Err r) (Err s) e = let n : refusal_number r ≡ refusal_number s = cc in let p : refusal_place r ≡ refusal_place s = cc in ap Err (same_refusal r s n p)

pub same_search : (r s : Search) (o : Outcome) → Searches r o → Searches s o → r ≡ s
same_search r s o x y =
    ap₂ {C = Search} (λ (a : Answer) (n : ℕ). record { answer = a; tests = n }) (same_answer r.answer s.answer (x.answer ∙ sym y.answer)) (x.tests ∙ sym y.tests)
