-- What the answer of a step tells: the check that refuses, whose line is printed; or that none does.
use mathlib.Core.Path.{◌≡◌, sym, ◌∙◌, ap}
use mathlib.Core.Bool.{true, false}
use mathlib.Core.Logic.{◌⊎◌, inl, inr}
use mathlib.Core.List.{List, [], ◌∷◌, map}
use Prim.Native.Nat.{ℕ, ◌-◌, ◌≤◌}
use native.Mathlib.Omega.{arith}
use lib.ListN.{length, take, drop, get_or, length-append}
use lib.Seq.{take_at}
use Rattle.definitions.specs.declared.Refusal.{Refusal}
use Rattle.std.specs.declared.result.Result.TheVariants.{Ok, Err}
use Rattle.definitions.specs.Words.{placed}
use Rattle.definitions.specs.Services.{Answer, done, refused, refusal_number, Check, Lent, first_met, outcome_of, outcome, result_slice, Serves, Answers}
use Rattle.definitions.specs.Programs.{named, refused_name, refused_line, printed}
use Rattle.lists.specs.Decisions.{First, Passed, decide, first_decides, passed_all, answered, refused_some, done_all}
use Rattle.lists.specs.Serving.{by, done_served}
use Rattle.lines.specs.Lines.{refusal}

-- what stands at the front of a slice fits in it, and is what is taken there
pub front_fits : (l old new : List ℕ) → new ≡ placed l old → length l ≤ length new
unfolding placed
front_fits l old new e = omega (arith, length-append l (drop (length l) old), ap length e)

pub front_taken : (l old new : List ℕ) (k : ℕ) → k ≡ length l → new ≡ placed l old → (k ≤ length new) × (take (k - 0) new ≡ l)
unfolding placed
front_taken l old new k e f = (omega (arith, front_fits l old new f), ap (take (k - 0)) f ∙ take_at l (drop (length l) old) (k - 0) (omega arith))

-- the line of an answer that stands for a refusal
refusal_line : (r : Answer) (x y : ℕ) → outcome_of r ≡ refused x y → refusal r ≡ named refused_name x
unfolding refusal outcome_of
refusal_line (Ok n) x y e = absurd (let z : ◌≡◌ {A = ℕ} 0 1 = cc in omega arith)
refusal_line (Err f) x y e = let q : refusal_number f ≡ x = cc in ap (λ (k : ℕ). named refused_name k) q

-- a step that ends in r, with these checks, and gives n
module _ (checks : List Check) (n : ℕ) (lent : List Lent) {r : Answer} {held : List (List ℕ)} (v : Serves (by checks (done n 0) lent) (Answers r) held) where
  -- with what is printed where none refuses
  pub refusal_printed : {f : Refusal} → r ≡ Err f → (m output : List ℕ) → output ≡ printed checks m → refusal r ≡ output
  unfolding outcome outcome_of printed refused_line
  refusal_printed {f} q m output g = go (decide checks)
    where
      go : ((c : Check) × First c checks) ⊎ Passed checks → refusal r ≡ output
      go (inl (c, d)) =
          refusal_line r c.number c.place (v.answer ∙ first_decides c (λ c. refused c.number c.place) (done n 0) d) ∙ sym (g ∙ first_decides c refused_line m d)
      go (inr p) =
          let z : outcome_of (Err f) ≡ done n 0 = sym (ap outcome_of q) ∙ v.answer ∙ passed_all (λ c. refused c.number c.place) (done n 0) p in
          let no : ◌≡◌ {A = ℕ} 0 1 = cc in
          absurd (omega arith)

  module _ {k : ℕ} (q : r ≡ Ok k) where
    -- what each lent slice holds then
    pub success_left : Passed checks × (k ≡ n) × (held ≡ map (λ x. x.if_done) lent)
    unfolding outcome_of
    success_left = let (p, e, h) = done_served r v (ap outcome_of q) in (p, cc, h)

    pub success_printed : (m output : List ℕ) → output ≡ printed checks m → m ≡ output
    unfolding printed
    success_printed m output g = sym (g ∙ passed_all refused_line m success_left.0)

    pub success_passed : first_met checks (λ c. true) false ≡ false
    success_passed = passed_all (λ c. true) false success_left.0

-- and writes l, at the front of its result slice
pub success_written : (checks : List Check) (l old : List ℕ) {new : List ℕ} {r : Answer} → Serves (by checks (done (length l) 0) (result_slice l old ∷ [])) (Answers r) (new ∷ [])
    → {k : ℕ} → r ≡ Ok k → (k ≤ length new) × (take (k - 0) new ≡ l)
success_written checks l old {new} v {k} q =
    let (p, e, h) = success_left checks (length l) (result_slice l old ∷ []) v q in
    front_taken l old new k e (ap (λ (s : List (List ℕ)). get_or s 0 []) h)

-- an answer of checks alone, with what is printed where none refuses
module _ (checks : List Check) (n : ℕ) {r : Answer} (e : outcome_of r ≡ answered checks n) (m : List ℕ) where
  pub checks_refused : {f : Refusal} → r ≡ Err f → refusal r ≡ printed checks m
  unfolding printed refused_line
  checks_refused q = let (c, d, f) = refused_some checks n e q in refusal_line r c.number c.place f ∙ sym (first_decides c refused_line m d)

  pub checks_passed : {k : ℕ} → r ≡ Ok k → m ≡ printed checks m
  unfolding printed
  checks_passed q = sym (passed_all refused_line m (done_all checks n e q).0)
