-- Following: the steps of a string begin with those of a pattern where each step of the pattern has its like there (`followed`); the positions below the one reached from
-- which they follow are the finds once all are passed (`all_noted`).
use mathlib.Core.Path.{◌≡◌, refl, sym, ◌∙◌, ap, subst}
use mathlib.Core.Bool.{Bool, true, false, ◌&&◌}
use mathlib.Core.List.{List, [], ◌∷◌}
use Prim.Native.Nat.{ℕ, zero, suc, ◌+◌, ◌-◌, ◌≤◌, ◌<◌}
use native.Mathlib.Omega.{arith}
use native.Mathlib.Numerals.{add-one}
use lib.ListN.{length, drop, get_or}
use lib.Dec.{ltb, eqb}
use borrow.Author.Tests.{lt-ltb, ltb-true, eq-eqb, eqb-true}
use Rattle.std.specs.Bool.{MatchBool}
use Rattle.std.specs.List.{list_all, range_with_len}
use Rattle.definitions.specs.Words.{below, begins}
use Rattle.definitions.specs.Steps.{step, steps_of, step_finds}
use Rattle.lists.specs.Bools.{contra, not_so, and_left, and_right, and_intro}
use Rattle.lists.specs.Numbers.{split_le, split_lt}
use Rattle.lists.specs.Strings.{begins_entries, entries_begin}
use Rattle.lyndon.specs.Steps.{steps_size}

-- the step behind each sample but the last, shown here since a naive side rests on its own laws
step_behind : (a : ℕ) (x : List ℕ) (j : ℕ) → j < length x → get_or (steps_of (a ∷ x)) j 0 ≡ step (get_or (a ∷ x) j 0) (get_or x j 0)
unfolding steps_of
step_behind a [] j h = absurd (omega arith)
step_behind a (b ∷ x) zero h = refl
step_behind a (b ∷ x) (suc j) h = step_behind b x j (omega arith)

step_after : (x : List ℕ) (j : ℕ) → j + 1 < length x → get_or (steps_of x) j 0 ≡ step (get_or x j 0) (get_or x (j + 1) 0)
step_after [] j h = absurd (omega arith)
step_after (a ∷ x) j h = rw add-one (step_behind a x j (omega arith))

step_before : (x : List ℕ) (k : ℕ) → 1 ≤ k → k < length x → get_or (steps_of x) (k - 1) 0 ≡ step (get_or x (k - 1) 0) (get_or x k 0)
step_before x k a h =
    let e : k - 1 + 1 ≡ k = omega arith in
    step_after x (k - 1) (omega arith) ∙ ap (λ (n : ℕ). step (get_or x (k - 1) 0) (get_or x n 0)) e

-- the numbers from a on, tried one by one
tried : (f : ℕ → Bool) (a n : ℕ) → MatchBool (list_all f (range_with_len a n)) ((k : ℕ) → a ≤ k → k < a + n → f k ≡ true) ((k : ℕ) × (a ≤ k) × (k < a + n) × (f k ≡ false))
tried f a zero = λ k l m. absurd (omega arith)
tried f a (suc n) = go (f a) refl (list_all f (range_with_len (a + 1) n)) (tried f (a + 1) n)
  where
    go : (b : Bool) → f a ≡ b → (c : Bool) → MatchBool c ((k : ℕ) → a + 1 ≤ k → k < a + 1 + n → f k ≡ true) ((k : ℕ) × (a + 1 ≤ k) × (k < a + 1 + n) × (f k ≡ false))
        → MatchBool (b && c) ((k : ℕ) → a ≤ k → k < a + suc n → f k ≡ true) ((k : ℕ) × (a ≤ k) × (k < a + suc n) × (f k ≡ false))
    go true e true h = λ k l m. split_lt a k (λ x. h k (omega arith) (omega arith)) (λ q. subst (λ (j : ℕ). f j ≡ true) q e) (λ x. absurd (omega arith))
    go true e false (k, l, m, q) = (k, omega arith, omega arith, q)
    go false e c h = (a, omega arith, omega arith, e)

module _ (p x : List ℕ) where
  -- x has a sample k, and the step to it is that to sample k of p
  abbrev pub same_step : ℕ → Bool
  same_step k = ltb k (length x) && eqb (step (get_or x (k - 1) 0) (get_or x k 0)) (step (get_or p (k - 1) 0) (get_or p k 0))

  pub followed : list_all same_step (range_with_len 1 (length p - 1)) ≡ begins (steps_of p) (steps_of x)
  followed = go (list_all same_step (range_with_len 1 (length p - 1))) (tried same_step 1 (length p - 1))
    where
      go : (b : Bool) → MatchBool b ((k : ℕ) → 1 ≤ k → k < 1 + (length p - 1) → same_step k ≡ true) ((k : ℕ) × (1 ≤ k) × (k < 1 + (length p - 1)) × (same_step k ≡ false))
          → b ≡ begins (steps_of p) (steps_of x)
      go true h = sym (entries_begin (steps_of p) (steps_of x) (split_le (length p) 1
          (λ l. omega (arith, steps_size p))
          (λ l. let m : length p - 1 < length x = ltb-true _ _ (and_left _ _ (h (length p - 1) (omega arith) (omega arith))) in omega (arith, steps_size p, steps_size x)))
          (λ j l.
          let m : j + 1 < length p = omega (arith, steps_size p) in
          let q = h (j + 1) (omega arith) (omega arith) in
          let o : j + 1 - 1 ≡ j = omega arith in
          step_after x j (ltb-true _ _ (and_left _ _ q))
          ∙ ap (λ (i : ℕ). step (get_or x i 0) (get_or x (j + 1) 0)) (sym o)
          ∙ eqb-true _ _ (and_right _ _ q)
          ∙ ap (λ (i : ℕ). step (get_or p i 0) (get_or p (j + 1) 0)) o
          ∙ sym (step_after p j m)))
      go false (k, a, l, n) = sym (not_so (begins (steps_of p) (steps_of x)) (λ q.
          let (m, e) = begins_entries (steps_of p) (steps_of x) q in
          let o : k < length x = omega (arith, steps_size p, steps_size x) in
          contra (and_intro _ _ (lt-ltb k (length x) o) (eq-eqb _ _ (sym (step_before x k a o) ∙ e (k - 1) (omega (arith, steps_size p)) ∙ step_before p k a (omega arith)))) n))

-- ---- the positions passed

-- whether the same steps follow from a position
abbrev pub follows_in : List ℕ → List ℕ → ℕ → Bool
follows_in p x = λ j. begins (steps_of p) (steps_of (drop j x))

pub all_noted : (p x : List ℕ) (i : ℕ) → i ≡ length x → below (follows_in p x) i ≡ step_finds p x
unfolding step_finds
all_noted p x i e = ap (below (follows_in p x)) e
