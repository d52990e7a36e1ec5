-- The newest of the numbers below a bound that pass a test: `latest`, one more than it or 0, and `newest`, it or the bound. And rules
-- that stand as pairs of words in a list.
use Rattle.std.specs.Prelude.{◌≡◌, refl, Bool, true, false, cond, ◌&&◌, List, ℕ, zero, suc, ◌+◌, ◌-◌, ◌*◌, ◌≤◌, ◌<◌, get_or, eqb}
use Rattle.std.proofs.Common.{sym, ◌∙◌, ap, ap₂, subst, ⊎_elim, arith, eq-eqb, ne_eqb}
use Rattle.lists.specs.Bools.{either, contra, not_so, cond_true, cond_false}
use Rattle.lists.specs.Numbers.{split_lt}

-- one more than the greatest number below n of which f holds, 0 if there is none
unfoldable pub latest : (ℕ → Bool) → ℕ → ℕ
latest f zero = zero
latest f (suc n) = cond (f n) (suc n) (latest f n)

-- the greatest number below n of which f holds, n if there is none
unfoldable pub newest : (ℕ → Bool) → ℕ → ℕ
newest f n = let k = latest f n in cond (eqb k 0) n (k - 1)

-- the words 2r and 2r + 1 of t are x and y
unfoldable pub has_words : List ℕ → ℕ → ℕ → ℕ → Bool
has_words t x y r = eqb (get_or t (2 * r) 0) x && eqb (get_or t (2 * r + 1) 0) y

pub latest_true : (f : ℕ → Bool) (n : ℕ) → f n ≡ true → latest f (suc n) ≡ suc n
unfolding latest
latest_true f n e = rw e

pub latest_false : (f : ℕ → Bool) (n : ℕ) → f n ≡ false → latest f (suc n) ≡ latest f n
unfolding latest
latest_false f n e = rw e

pub latest_le : (f : ℕ → Bool) (n : ℕ) → latest f n ≤ n
unfolding latest
latest_le f zero = omega arith
latest_le f (suc n) = ⊎_elim
    (λ e. omega (arith, latest_true f n e))
    (λ e. omega (arith, latest_false f n e, latest_le f n))
    (either (f n))

pub latest_holds : (f : ℕ → Bool) (n r : ℕ) → latest f n ≡ suc r → f r ≡ true
unfolding latest
latest_holds f zero r e = absurd (omega arith)
latest_holds f (suc n) r e = ⊎_elim
    (λ q. let k : n ≡ r = omega (arith, latest_true f n q) in subst (λ (m : ℕ). f m ≡ true) k q)
    (λ q. latest_holds f n r (sym (latest_false f n q) ∙ e))
    (either (f n))

-- what passes f passes g: nothing that passes f stands from the latest of g on
pub latest_skip : (f g : ℕ → Bool) (n : ℕ) → ((k : ℕ) → f k ≡ true → g k ≡ true) → latest f n ≡ latest f (latest g n)
unfolding latest
latest_skip f g zero h = refl
latest_skip f g (suc n) h = ⊎_elim
    (λ e. ap (latest f) (sym (latest_true g n e)))
    (λ e. latest_false f n (not_so (f n) (λ q. contra (h n q) e)) ∙ latest_skip f g n h ∙ ap (latest f) (sym (latest_false g n e)))
    (either (g n))

pub latest_ext : (f g : ℕ → Bool) (n : ℕ) → ((k : ℕ) → k < n → f k ≡ g k) → latest f n ≡ latest g n
unfolding latest
latest_ext f g zero h = refl
latest_ext f g (suc n) h = ap₂ {C = ℕ} (λ b m. cond b (suc n) m) (h n (omega arith)) (latest_ext f g n (λ k l. h k (omega arith)))

latest_only : (f : ℕ → Bool) (n r : ℕ) → r < n → f r ≡ true → ((k : ℕ) → k < n → f k ≡ true → k ≡ r) → latest f n ≡ suc r
unfolding latest
latest_only f zero r h e only = absurd (omega arith)
latest_only f (suc n) r h e only = split_lt r n
    (λ l. latest_false f n (not_so (f n) (λ q. omega (arith, only n (omega arith) q))) ∙ latest_only f n r l e (λ k m. only k (omega arith)))
    (λ q. latest_true f n (subst (λ (k : ℕ). f k ≡ true) q e) ∙ ap suc (sym q))
    (λ l. absurd (omega arith))

latest_since : (f : ℕ → Bool) (n k : ℕ) → k < n → f k ≡ true → k < latest f n
latest_since f zero k h e = absurd (omega arith)
latest_since f (suc n) k h e = ⊎_elim
    (λ q. omega (arith, latest_true f n q))
    (λ q. split_lt k n (λ l. omega (arith, latest_false f n q, latest_since f n k l e)) (λ d. contra e (rw d q)) (λ l. absurd (omega arith)))
    (either (f n))

latest_none : (f : ℕ → Bool) (n : ℕ) → ((k : ℕ) → k < n → f k ≡ false) → latest f n ≡ 0
unfolding latest
latest_none f zero h = refl
latest_none f (suc n) h = latest_false f n (h n (omega arith)) ∙ latest_none f n (λ k l. h k (omega arith))

-- ---- newest

pub newest_found : (f : ℕ → Bool) (n r : ℕ) → latest f n ≡ suc r → newest f n ≡ r
unfolding newest
newest_found f n r e = cond_false (eqb (latest f n) 0) n (latest f n - 1) (ne_eqb (latest f n) 0 (λ z. omega arith)) ∙ omega arith

pub newest_nothing : (f : ℕ → Bool) (n : ℕ) → latest f n ≡ 0 → newest f n ≡ n
unfolding newest
newest_nothing f n e = cond_true (eqb (latest f n) 0) n (latest f n - 1) (eq-eqb (latest f n) 0 e)

-- it is the bound exactly where there is none
pub newest_bound : (f : ℕ → Bool) (n : ℕ) → eqb (newest f n) n ≡ eqb (latest f n) 0
newest_bound f n = go (latest f n) refl
  where
    go : (k : ℕ) → latest f n ≡ k → eqb (newest f n) n ≡ eqb (latest f n) 0
    go zero e = eq-eqb (newest f n) n (newest_nothing f n e) ∙ sym (eq-eqb (latest f n) 0 e)
    go (suc k) e = ne_eqb (newest f n) n (λ q. omega (arith, newest_found f n k e, latest_le f n)) ∙ sym (ne_eqb (latest f n) 0 (λ q. omega arith))

pub newest_ext : (f g : ℕ → Bool) (n : ℕ) → ((k : ℕ) → k < n → f k ≡ g k) → newest f n ≡ newest g n
unfolding newest
newest_ext f g n h = ap (λ (k : ℕ). cond (eqb k 0) n (k - 1)) (latest_ext f g n h)

-- it is the only number that passes
pub newest_only : (f : ℕ → Bool) (n r : ℕ) → r < n → f r ≡ true → ((k : ℕ) → k < n → f k ≡ true → k ≡ r) → newest f n ≡ r
newest_only f n r h e only = newest_found f n r (latest_only f n r h e only)

pub newest_none : (f : ℕ → Bool) (n : ℕ) → ((k : ℕ) → k < n → f k ≡ false) → newest f n ≡ n
newest_none f n h = newest_nothing f n (latest_none f n h)

-- none passes where it is the bound
pub newest_no : (f : ℕ → Bool) (n : ℕ) → newest f n ≡ n → (k : ℕ) → k < n → f k ≡ false
newest_no f n e k h = not_so (f k) (λ q. go (latest f n) refl (latest_since f n k h q))
  where
    go : (m : ℕ) → latest f n ≡ m → k < latest f n → ⊥
    go zero g l = omega arith
    go (suc m) g l = omega (arith, newest_found f n m g, latest_le f n)
