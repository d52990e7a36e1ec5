-- `sample_before` reads the entry before; before the first stands 0.
use Rattle.std.proofs.Common.{◌≡◌, ℕ, zero, suc, ◌-◌, List, ◌∷◌, get_or, refl, arith}
use Rattle.steps.proofs.sample_before.Goals as goal

first : (x : List ℕ) (i : ℕ) → i ≡ 0 → 0 ≡ get_or (0 ∷ x) i 0
first x i e = rw e refl

later : (x : List ℕ) (i : ℕ) → (i ≡ 0 → ⊥) → get_or x (i - 1) 0 ≡ get_or (0 ∷ x) i 0
later x zero h = absurd (h refl)
later x (suc i) h = let e : suc i - 1 ≡ i = omega arith in rw e refl

pub returns-then-i-eq0 : goal.returns-then-i-eq0
returns-then-i-eq0 c = first c.args.text.now c.args.i c.if-i-eq0.true

pub returns-else-i-eq0 : goal.returns-else-i-eq0
returns-else-i-eq0 c = later c.args.text.now c.args.i c.if-i-eq0.false
