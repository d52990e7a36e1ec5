-- One entry more of the drive rearranged (`step_more`) or restored (`sample_more`), by the sample before it; and all of them (`steps_all`, `samples_all`).
use Rattle.std.proofs.Common.{◌≡◌, ℕ, ◌+◌, ◌-◌, ◌%◌, ◌<◌, ◌≤◌, List, ◌∷◌, length, get_or, take, set, sym, ap, ◌∙◌, add-one, arith}
use Rattle.definitions.specs.Words.{placed}
use Rattle.definitions.specs.Steps.{step, steps_of, to_steps, samples_from, from_steps}
use Rattle.lyndon.specs.Ranks.{slice_bytes}
use Rattle.lyndon.specs.Steps.{steps_at, steps_length, steps_from_zero, samples_at, samples_length, samples_from_zero}
use Rattle.slices.proofs.Fronts.{taken_more, taken_all}

-- entry i of a list behind a first entry
pub next : (a : ℕ) (l : List ℕ) (i : ℕ) → get_or l i 0 ≡ get_or (a ∷ l) (i + 1) 0
next a l i = ap (λ (n : ℕ). get_or (a ∷ l) n 0) (sym (add-one i))

module _ (x old w : List ℕ) (i : ℕ) where
  pub step_more : (a : ℕ) → i < length x → length x ≤ length old → a ≡ get_or (0 ∷ x) i 0 → w ≡ placed (take i (steps_of (0 ∷ x))) old
      → set w i ((get_or x i 0 + (256 - a)) % 256) ≡ placed (take (i + 1) (steps_of (0 ∷ x))) old
  unfolding step
  step_more a h k e g =
      let s = steps_length 0 x in
      ap (λ (b : ℕ). set w i (step b (get_or x i 0))) e ∙ ap (λ (b : ℕ). set w i b) (sym (steps_at 0 x i h)) ∙ taken_more (steps_of (0 ∷ x)) old w i (omega arith) (omega arith) g

  pub sample_more : (a : ℕ) → i < length x → length x ≤ length old → a ≡ get_or (0 ∷ samples_from 0 x) i 0 → w ≡ placed (take i (samples_from 0 x)) old
      → let b = (a + get_or x i 0) % 256 in
      (b ≡ get_or (0 ∷ samples_from 0 x) (i + 1) 0) × (set w i b ≡ placed (take (i + 1) (samples_from 0 x)) old)
  sample_more a h k e g =
      let s = samples_length 0 x in
      let q : (a + get_or x i 0) % 256 ≡ get_or (samples_from 0 x) i 0 = ap (λ (c : ℕ). (c + get_or x i 0) % 256) e ∙ sym (samples_at 0 x i h) in
      (q ∙ next 0 (samples_from 0 x) i, ap (λ (c : ℕ). set w i c) q ∙ taken_more (samples_from 0 x) old w i (omega arith) (omega arith) g)

module _ (x old w : List ℕ) (i : ℕ) (bytes : (j : ℕ) → j < length x → get_or x j 0 < 256) (e : i ≡ length x) where
  pub steps_all : w ≡ placed (take i (steps_of (0 ∷ x))) old → w ≡ placed (to_steps x) old
  steps_all g =
      taken_all (steps_of (0 ∷ x)) old w i (omega (arith, steps_length 0 x)) g ∙ ap (λ (l : List ℕ). placed l old) (steps_from_zero x (slice_bytes x bytes))

  pub samples_all : w ≡ placed (take i (samples_from 0 x)) old → w ≡ placed (from_steps x) old
  samples_all g =
      taken_all (samples_from 0 x) old w i (omega (arith, samples_length 0 x)) g ∙ ap (λ (l : List ℕ). placed l old) (samples_from_zero x (slice_bytes x bytes))
