-- Numbers below a bound that pass a test: `every`, `some`, `below`, `least` and `greatest` of the definitions.
use Rattle.std.specs.Prelude.{◌≡◌, refl, Bool, true, false, cond, not, ◌&&◌, ◌⊎◌, ℕ, zero, suc, ◌+◌, ◌-◌, ◌*◌, ◌^◌, ◌≤◌, ◌<◌, length, get_or, ltb, eqb}
use Rattle.std.proofs.Common.{sym, ◌∙◌, ap, subst, inl, inr, ⊎_elim, add-suc, add-zero, arith, length-append, ltb-true, ltb-false, lt-ltb, le-ltb, eqb-true, eq-eqb}
use Rattle.std.proofs.lemmas.Bool.{false≢true, not-false}
use mathlib.Core.List.Memᴰ.{append_cases as in-append}
use mathlib.Core.List.Memᴰ.{append_left as in_left}
use mathlib.Core.List.Memᴰ.{append_right as in_right}
use mathlib.Core.List.Memᴰ.{eq_of_singleton as in_one}
use mathlib.Core.List.Memᴰ.{head as here}
use mathlib.Core.List.Memᴰ.{not-nil as in-nil}
use mathlib.Core.List.Memᴰ.{tail as there}
use mathlib.Core.List.{List, [], ◌∷◌, ◌++◌, map, map-append, append_assoc, append-nil, Memᴰ as In}
use Rattle.std.proofs.Math.Nat.{two-pow-succ, pow-le-pow_right}
use Rattle.std.proofs.lemmas.List.{length-map, get_or_at}
use Rattle.definitions.specs.Words.{every, some, below, least, greatest}
use Rattle.lists.specs.Bools.{either, contra, and_left, and_right, and_intro, or_left, or_right, or_cases, cond_true, cond_false}

-- ---- one order or the other

pub split_le {ℓ} : {A : Type ℓ} (m n : ℕ) → (m ≤ n → A) → (n < m → A) → A
split_le m n f g = ⊎_elim (λ e. g (ltb-true n m e)) (λ e. f (ltb-false n m e)) (either (ltb n m))

pub split_lt {ℓ} : {A : Type ℓ} (m n : ℕ) → (m < n → A) → (m ≡ n → A) → (n < m → A) → A
split_lt m n f g h = split_le n m (λ a. split_le m n (λ b. g (omega arith)) (λ b. h b)) f

-- 2 ^ j is at most m, and m below 2 ^ (k + 1)
pub power_le : (m k j : ℕ) → m < 2 ^ suc k → 2 ^ j ≤ m → j ≤ k
power_le m k j h e = split_le j k
    (λ l. l)
    (λ l. let g : suc k ≤ j = omega arith in absurd (omega (arith, pow-le-pow_right {n = 2} (omega arith) {i = suc k} {j = j} g)))

-- ---- every

pub every_at : (f : ℕ → Bool) (n : ℕ) → every f n ≡ true → (k : ℕ) → k < n → f k ≡ true
unfolding every
every_at f zero e k h = absurd (omega arith)
every_at f (suc n) e k h =
    split_lt k n (λ l. every_at f n (and_left (every f n) (f n) e) k l) (λ q. subst (λ (m : ℕ). f m ≡ true) (sym q) (and_right (every f n) (f n) e)) (λ l. absurd (omega arith))

pub every_all : (f : ℕ → Bool) (n : ℕ) → ((k : ℕ) → k < n → f k ≡ true) → every f n ≡ true
unfolding every
every_all f zero h = refl
every_all f (suc n) h = and_intro (every f n) (f n) (every_all f n (λ k l. h k (omega arith))) (h n (omega arith))

-- ---- some

pub some_at : (f : ℕ → Bool) (n k : ℕ) → k < n → f k ≡ true → some f n ≡ true
unfolding some
some_at f zero k h e = absurd (omega arith)
some_at f (suc n) k h e =
    split_lt k n (λ l. or_left (some f n) (f n) (some_at f n k l e)) (λ q. or_right (some f n) (f n) (subst (λ (m : ℕ). f m ≡ true) q e)) (λ l. absurd (omega arith))

pub some_in : (f : ℕ → Bool) (n : ℕ) → some f n ≡ true → (k : ℕ) × (k < n) × (f k ≡ true)
unfolding some
some_in f zero e = absurd (false≢true e)
some_in f (suc n) e = go (or_cases (some f n) (f n) e) (λ h. some_in f n h)
  where
    go : (some f n ≡ true) ⊎ (f n ≡ true) → (some f n ≡ true → (k : ℕ) × (k < n) × (f k ≡ true)) → (k : ℕ) × (k < suc n) × (f k ≡ true)
    go (inl h) ih = let (k, l, q) = ih h in (k, omega arith, q)
    go (inr h) ih = (n, omega arith, h)

-- ---- below: a list of numbers that pass a test

-- a number stands in the list exactly when it is below the bound and passes the test
pub below_in : (f : ℕ → Bool) (n k : ℕ) → k < n → f k ≡ true → In k (below f n)
unfolding below
below_in f zero k h e = absurd (omega arith)
below_in f (suc n) k h e =
    split_lt k n
    (λ l. in_left (cond (f n) (n ∷ []) []) (below_in f n k l e))
    (λ q. in_right (below f n) (rw (cond_true (f n) (n ∷ []) [] (subst (λ (m : ℕ). f m ≡ true) q e)) (here q)))
    (λ l. absurd (omega arith))

pub below_lt : (f : ℕ → Bool) (n k : ℕ) → In k (below f n) → (k < n) × (f k ≡ true)
unfolding below
below_lt f zero k m = absurd (in-nil m)
below_lt f (suc n) k m = go (f n) refl (in-append (below f n) m) (λ i. below_lt f n k i)
  where
    go : (b : Bool) → f n ≡ b → In k (below f n) ⊎ In k (cond (f n) (n ∷ []) []) → (In k (below f n) → (k < n) × (f k ≡ true)) → (k < suc n) × (f k ≡ true)
    go b e (inl i) ih = let h = ih i in (omega arith, h.1)
    go true e (inr i) ih =
        let q : k ≡ n = in_one (rw (cond_true (f n) (n ∷ []) [] e) at i) in (omega arith, rw q e)
    go false e (inr i) ih = absurd (in-nil (rw (cond_false (f n) (n ∷ []) [] e) at i))

-- each number of the list is smaller than those after it, so each stands once
abbrev pub Rising : List ℕ → Type 0
Rising [] = Unit {0}
Rising (k ∷ l) = ((j : ℕ) → In j l → k < j) × Rising l

rising_one_more : (l : List ℕ) (n : ℕ) → Rising l → ((j : ℕ) → In j l → j < n) → Rising (l ++ (n ∷ []))
rising_one_more [] n r h = (λ j i. absurd (in-nil i), tt)
rising_one_more (k ∷ l) n r h = (
  λ j i. ⊎_elim (λ a. r.0 j a) (λ a. subst (λ (m : ℕ). k < m) (sym (in_one a)) (h k (here refl))) (in-append l i),
  rising_one_more l n r.1 (λ j i. h j (there i)),
)

-- a rising list no two entries of which may stand has at most one
pub rising_most : (l : List ℕ) → Rising l → ((i j : ℕ) → In i l → In j l → i < j → ⊥) → length l ≤ 1
rising_most [] r h = omega arith
rising_most (k ∷ []) r h = omega arith
rising_most (k ∷ j ∷ l) r h = absurd (h k j (here refl) (there (here refl)) (r.0 j (here refl)))

-- a rising list of numbers below n, of any two of which the first is at least twice as far from n as the second
pub rising_halves : (n c : ℕ) (l : List ℕ) → Rising (c ∷ l) → ((i : ℕ) → In i (c ∷ l) → i < n)
    → ((i j : ℕ) → In i (c ∷ l) → In j (c ∷ l) → i < j → 2 * (n - j) ≤ n - i) → 2 ^ length l ≤ n - c
rising_halves n c [] r h t = omega (arith, h c (here refl))
rising_halves n c (d ∷ l) r h t =
    omega (
      arith,
      two-pow-succ (length l),
      rising_halves n d l r.1 (λ i m. h i (there m)) (λ i j m k. t i j (there m) (there k)),
      t c d (here refl) (there (here refl)) (r.0 d (here refl)),
    )

pub below_rising : (f : ℕ → Bool) (n : ℕ) → Rising (below f n)
unfolding below
below_rising f zero = tt
below_rising f (suc n) = go (f n) refl (below_rising f n)
  where
    go : (b : Bool) → f n ≡ b → Rising (below f n) → Rising (below f n ++ cond (f n) (n ∷ []) [])
    go true e r = rw e (rising_one_more (below f n) n r (λ j i. (below_lt f n j i).0))
    go false e r = rw (e, append-nil) r

-- two tests that agree below n have the same list
pub below_ext : (f g : ℕ → Bool) (n : ℕ) → ((k : ℕ) → k < n → f k ≡ g k) → below f n ≡ below g n
unfolding below
below_ext f g zero h = refl
below_ext f g (suc n) h =
    ap (λ (l : List ℕ). l ++ cond (f n) (n ∷ []) []) (below_ext f g n (λ k l. h k (omega arith)))
    ∙ ap (λ (b : Bool). below g n ++ cond b (n ∷ []) []) (h n (omega arith))

-- a test that fails from n on adds nothing
pub below_stop : (f : ℕ → Bool) (n m : ℕ) → ((k : ℕ) → n ≤ k → k < n + m → f k ≡ false) → below f (n + m) ≡ below f n
unfolding below
below_stop f n zero h = rw add-zero
below_stop f n (suc m) h =
    rw (add-suc, h (n + m) (omega arith) (omega arith), append-nil) (below_stop f n m (λ k a b. h k a (omega arith)))

pub below_none : (f : ℕ → Bool) (n : ℕ) → ((k : ℕ) → k < n → f k ≡ false) → below f n ≡ []
unfolding below
below_none f zero h = refl
below_none f (suc n) h = rw (h n (omega arith), append-nil) (below_none f n (λ k l. h k (omega arith)))

-- the list below n + m: that below n, and what passes from n on
pub below_append : (f : ℕ → Bool) (n m : ℕ) → below f (n + m) ≡ below f n ++ map (λ (k : ℕ). n + k) (below (λ k. f (n + k)) m)
unfolding below
below_append f n zero = rw (add-zero, append-nil)
below_append f n (suc m) = rw (add-suc, below_append f n m, append_assoc) (ap (λ (l : List ℕ). below f n ++ l) (sym (step (f (n + m)))))
  where
    step : (b : Bool) → map (λ (k : ℕ). n + k) (below (λ k. f (n + k)) m ++ cond b (m ∷ []) []) ≡ map (λ (k : ℕ). n + k) (below (λ k. f (n + k)) m) ++ cond b ((n + m) ∷ []) []
    step true = map-append (λ (k : ℕ). n + k) (below (λ k. f (n + k)) m) (m ∷ [])
    step false = map-append (λ (k : ℕ). n + k) (below (λ k. f (n + k)) m) []

-- the list below n + 1: 0 if it passes, and what passes from 1 on
pub below_shift : (f : ℕ → Bool) (n : ℕ) → below f (suc n) ≡ cond (f 0) (0 ∷ []) [] ++ map suc (below (λ k. f (suc k)) n)
unfolding below
below_shift f zero = sym (append-nil (cond (f 0) (0 ∷ []) []))
below_shift f (suc n) =
    rw (below_shift f n, append_assoc) (ap (λ (l : List ℕ). cond (f 0) (0 ∷ []) [] ++ l) (sym (step (f (suc n)))))
  where
    step : (b : Bool) → map suc (below (λ k. f (suc k)) n ++ cond b (n ∷ []) []) ≡ map suc (below (λ k. f (suc k)) n) ++ cond b (suc n ∷ []) []
    step true = map-append (λ (k : ℕ). suc k) (below (λ k. f (suc k)) n) (n ∷ [])
    step false = map-append (λ (k : ℕ). suc k) (below (λ k. f (suc k)) n) []

-- where g speaks of the numbers below a and h of those from a on, the list of both is the one and then the other
pub below_split : (f g h : ℕ → Bool) (a n : ℕ) → ((k : ℕ) → k < n → k < a → (f k ≡ g k) × (h k ≡ false))
    → ((k : ℕ) → k < n → a ≤ k → (f k ≡ h k) × (g k ≡ false)) → below f n ≡ below g n ++ below h n
unfolding below
below_split f g h a zero p q = refl
below_split f g h a (suc n) p q =
    split_le a n (late (below_split f g h a n (λ k m. p k (omega arith)) (λ k m. q k (omega arith)))) early
  where
    early : n < a → below f (suc n) ≡ below g (suc n) ++ below h (suc n)
    early l =
        rw (below_none h (suc n) (λ k m. (p k m (omega arith)).1), append-nil)
        (below_ext f g (suc n) (λ k m. (p k m (omega arith)).0))

    late : below f n ≡ below g n ++ below h n → a ≤ n → below f (suc n) ≡ below g (suc n) ++ below h (suc n)
    late e l =
        rw ((q n (omega arith) l).0, (q n (omega arith) l).1, append-nil, ← append_assoc)
        (ap (λ (x : List ℕ). x ++ cond (h n) (n ∷ []) []) e)

-- ---- how many numbers pass

pub below_length : (f : ℕ → Bool) (n : ℕ) → length (below f n) ≤ n
unfolding below
below_length f zero = omega arith
below_length f (suc n) = go (f n) refl (below_length f n)
  where
    go : (b : Bool) → f n ≡ b → length (below f n) ≤ n → length (below f n ++ cond (f n) (n ∷ []) []) ≤ suc n
    go true e ih = rw e (simp length-append (omega arith))
    go false e ih = rw (e, append-nil) (omega arith)

-- one more where the test holds of the bound, else as many
pub below_more : (f : ℕ → Bool) (n : ℕ) → f n ≡ true → below f (suc n) ≡ below f n ++ (n ∷ [])
unfolding below
below_more f n e = rw e

pub below_same : (f : ℕ → Bool) (n : ℕ) → f n ≡ false → below f (suc n) ≡ below f n
unfolding below
below_same f n e = rw (e, append-nil)

pub count_more : (f : ℕ → Bool) (n : ℕ) → f n ≡ true → length (below f (suc n)) ≡ suc (length (below f n))
count_more f n e = ap length (below_more f n e) ∙ length-append (below f n) (n ∷ []) ∙ omega arith

pub count_same : (f : ℕ → Bool) (n : ℕ) → f n ≡ false → length (below f (suc n)) ≡ length (below f n)
count_same f n e = ap length (below_same f n e)

pub count_rises : (f : ℕ → Bool) (m n : ℕ) → m ≤ n → length (below f m) ≤ length (below f n)
count_rises f m n h =
    let e : m + (n - m) ≡ n = omega arith in
    subst (λ (k : ℕ). length (below f m) ≤ length (below f k)) e
    (rw (below_append f m (n - m)) (simp length-append (omega arith)))

-- a number that passes stands behind as many as pass before it
pub below_place : (f : ℕ → Bool) (n k : ℕ) → k < n → f k ≡ true → (rest : List ℕ) × (below f n ≡ below f k ++ k ∷ rest)
unfolding below
below_place f zero k h e = absurd (omega arith)
below_place f (suc n) k h e =
    split_lt k n
    (λ l. let (rest, q) = below_place f n k l e in
    (rest ++ cond (f n) (n ∷ []) [], ap (λ (x : List ℕ). x ++ cond (f n) (n ∷ []) []) q ∙ append_assoc (below f k) (k ∷ rest) (cond (f n) (n ∷ []) [])))
    (λ q. ([], rw (q, cond_true (f n) (n ∷ []) [] (subst (λ (m : ℕ). f m ≡ true) q e))))
    (λ l. absurd (omega arith))

-- so the values at the numbers that pass, by how many pass before
pub mapped_place {ℓ} : {A : Type ℓ} (g : ℕ → A) (d : A) (f : ℕ → Bool) (n k : ℕ) → k < n → f k ≡ true
    → get_or (map g (below f n)) (length (below f k)) d ≡ g k
mapped_place {A = A} g d f n k h e =
    let (rest, q) = below_place f n k h e in
    ap (λ (x : List ℕ). get_or (map g x) (length (below f k)) d) q
    ∙ ap (λ (x : List A). get_or x (length (below f k)) d) (map-append g (below f k) (k ∷ rest))
    ∙ get_or_at (map g (below f k)) (g k) (map g rest) d (length (below f k)) (length-map (below f k) g)

-- and every place has its number
pub place_below : (f : ℕ → Bool) (n i : ℕ) → i < length (below f n) → (k : ℕ) × (k < n) × (f k ≡ true) × (length (below f k) ≡ i)
unfolding below
place_below f zero i h = absurd (omega arith)
place_below f (suc n) i h = go (f n) refl (λ l. place_below f n i l)
  where
    go : (b : Bool) → f n ≡ b → (i < length (below f n) → (k : ℕ) × (k < n) × (f k ≡ true) × (length (below f k) ≡ i))
        → (k : ℕ) × (k < suc n) × (f k ≡ true) × (length (below f k) ≡ i)
    go true e ih =
        split_lt i (length (below f n))
        (λ l. let (k, m, p, q) = ih l in (k, omega arith, p, q))
        (λ q. (n, omega arith, e, sym q))
        (λ l. absurd (omega (arith, count_more f n e)))
    go false e ih = let (k, m, p, q) = ih (omega (arith, count_same f n e)) in (k, omega arith, p, q)

-- all of them
pub below_all : (f : ℕ → Bool) (n : ℕ) → ((k : ℕ) → k < n → f k ≡ true) → length (below f n) ≡ n
unfolding below
below_all f zero h = refl
below_all f (suc n) h = rw (h n (omega arith)) (length-append (below f n) (n ∷ []) ∙ omega (arith, below_all f n (λ k l. h k (omega arith))))

-- what passes f passes g: there are at least as many
pub count_le : (f g : ℕ → Bool) (n : ℕ) → ((k : ℕ) → k < n → f k ≡ true → g k ≡ true) → length (below f n) ≤ length (below g n)
unfolding below
count_le f g zero h = omega arith
count_le f g (suc n) h = go (f n) refl (g n) refl (count_le f g n (λ k l. h k (omega arith)))
  where
    go : (b : Bool) → f n ≡ b → (c : Bool) → g n ≡ c → length (below f n) ≤ length (below g n)
        → length (below f n ++ cond (f n) (n ∷ []) []) ≤ length (below g n ++ cond (g n) (n ∷ []) [])
    go true e true d ih = rw (e, d) (simp length-append (omega arith))
    go true e false d ih = contra (h n (omega arith) e) d
    go false e true d ih = rw (e, d) (simp length-append (omega arith))
    go false e false d ih = rw (e, d) (simp length-append (omega arith))

-- and more, where g holds of a number of which f does not
pub count_lt : (f g : ℕ → Bool) (n a : ℕ) → a < n → f a ≡ false → g a ≡ true → ((k : ℕ) → k < n → f k ≡ true → g k ≡ true)
    → length (below f n) < length (below g n)
unfolding below
count_lt f g zero a l p q h = absurd (omega arith)
count_lt f g (suc n) a l p q h = split_lt a n
    (λ m. old (count_lt f g n a m p q (λ k j. h k (omega arith))) (f n) refl (g n) refl)
    (λ e. new (subst (λ (k : ℕ). f k ≡ false) e p) (subst (λ (k : ℕ). g k ≡ true) e q) (count_le f g n (λ k j. h k (omega arith))))
    (λ m. absurd (omega arith))
  where
    old : length (below f n) < length (below g n) → (b : Bool) → f n ≡ b → (c : Bool) → g n ≡ c
        → length (below f n ++ cond (f n) (n ∷ []) []) < length (below g n ++ cond (g n) (n ∷ []) [])
    old ih true e true d = rw (e, d) (simp length-append (omega arith))
    old ih true e false d = contra (h n (omega arith) e) d
    old ih false e true d = rw (e, d) (simp length-append (omega arith))
    old ih false e false d = rw (e, d) (simp length-append (omega arith))

    new : f n ≡ false → g n ≡ true → length (below f n) ≤ length (below g n)
        → length (below f n ++ cond (f n) (n ∷ []) []) < length (below g n ++ cond (g n) (n ∷ []) [])
    new e d ih = rw (e, d) (simp length-append (omega arith))

-- ---- least

-- the step of `least`, by its two outcomes
least_step : (f : ℕ → Bool) (n : ℕ) → (least f (suc n) ≡ least f n) ⊎ ((least f (suc n) ≡ suc n) × (least f n ≡ n) × (f n ≡ false))
unfolding least
least_step f n = go (eqb (least f n) n) refl (f n) refl
  where
    go : (b : Bool) → eqb (least f n) n ≡ b → (c : Bool) → f n ≡ c
        → (cond (eqb (least f n) n && not (f n)) (suc n) (least f n) ≡ least f n)
        ⊎ ((cond (eqb (least f n) n && not (f n)) (suc n) (least f n) ≡ suc n) × (least f n ≡ n) × (f n ≡ false))
    go false e c d = inl (rw e)
    go true e true d = inl (rw (e, d))
    go true e false d = inr (rw (e, d), eqb-true (least f n) n e, d)

pub least_le : (f : ℕ → Bool) (n : ℕ) → least f n ≤ n
unfolding least
least_le f zero = omega arith
least_le f (suc n) = let h = least_le f n in ⊎_elim (λ e. omega arith) (λ e. omega (arith, e.0)) (least_step f n)

-- below the least number the test fails
pub least_before : (f : ℕ → Bool) (n k : ℕ) → k < least f n → f k ≡ false
unfolding least
least_before f zero k h = absurd (omega arith)
least_before f (suc n) k h = ⊎_elim
    (λ e. least_before f n k (omega arith))
    (λ e. split_lt k n (λ l. least_before f n k (omega (arith, e.1))) (λ q. rw q e.2) (λ l. absurd (omega (arith, e.0))))
    (least_step f n)

-- at it the test holds, where it is below the bound
pub least_holds : (f : ℕ → Bool) (n : ℕ) → least f n < n → f (least f n) ≡ true
unfolding least
least_holds f zero h = absurd (omega arith)
least_holds f (suc n) h = ⊎_elim
    (λ e. rw e (split_lt (least f n) n (λ l. least_holds f n l) (λ q. at q e) (λ l. absurd (omega (arith, least_le f n)))))
    (λ e. absurd (omega (arith, e.0)))
    (least_step f n)
  where
    at : least f n ≡ n → least f (suc n) ≡ least f n → f (least f n) ≡ true
    at q e = go (f n) refl
      where
        go : (c : Bool) → f n ≡ c → f (least f n) ≡ true
        go true d = rw q d
        go false d =
            let x : cond (eqb (least f n) n && not (f n)) (suc n) (least f n) ≡ suc n = rw (eq-eqb (least f n) n q, d) in
            absurd (omega (arith, sym x ∙ e))

-- it is the number at which the test first holds
pub least_is : (f : ℕ → Bool) (n k : ℕ) → k < n → f k ≡ true → ((j : ℕ) → j < k → f j ≡ false) → least f n ≡ k
least_is f n k h e b =
    split_lt (least f n) k
    (λ l. contra (least_holds f n (omega arith)) (b (least f n) l))
    (λ q. q)
    (λ l. contra e (least_before f n k l))

-- nothing below the bound passes
pub least_none : (f : ℕ → Bool) (n : ℕ) → ((j : ℕ) → j < n → f j ≡ false) → least f n ≡ n
least_none f n b =
    split_lt (least f n) n
    (λ l. contra (least_holds f n l) (b (least f n) l))
    (λ q. q)
    (λ l. absurd (omega (arith, least_le f n)))

-- the least number that fails a test is below the bound exactly where not every number passes
pub every_least : (f : ℕ → Bool) (n : ℕ) (b : Bool) → every f n ≡ b → ltb (least (λ i. not (f i)) n) n ≡ not b
every_least f n true e = le-ltb (least (λ i. not (f i)) n) n (omega (arith, least_none (λ i. not (f i)) n (λ j h. ap not (every_at f n e j h))))
every_least f n false e = split_le n (least (λ i. not (f i)) n)
    (λ h. contra (every_all f n (λ j l. not-false (f j) (least_before (λ i. not (f i)) n j (omega arith)))) e)
    (λ h. lt-ltb (least (λ i. not (f i)) n) n h)

-- ---- greatest

-- it is the number that passes the test, or 0, above which none does
pub greatest_is : (f : ℕ → Bool) (n m : ℕ) → m ≤ n → (0 < m → f m ≡ true) → ((k : ℕ) → m < k → k ≤ n → f k ≡ false) → greatest f n ≡ m
unfolding greatest
greatest_is f zero m h p q = omega arith
greatest_is f (suc n) m h p q =
    split_le m n
    (λ l. cond_false (f (suc n)) (suc n) (greatest f n) (q (suc n) (omega arith) (omega arith)) ∙ greatest_is f n m l p (λ k a b. q k a (omega arith)))
    (λ l. let e : m ≡ suc n = omega arith in cond_true (f (suc n)) (suc n) (greatest f n) (subst (λ (k : ℕ). f k ≡ true) e (p (omega arith))) ∙ sym e)

-- ---- the last number that passes

-- where one below n passes, there is a last one
pub last_below : (f : ℕ → Bool) (n k : ℕ) → k < n → f k ≡ true
    → (m : ℕ) × (k ≤ m) × (m < n) × (f m ≡ true) × ((j : ℕ) → m < j → j < n → f j ≡ false)
last_below f zero k h e = absurd (omega arith)
last_below f (suc n) k h e = go (f n) refl (λ l. last_below f n k l e)
  where
    go : (b : Bool) → f n ≡ b → (k < n → (m : ℕ) × (k ≤ m) × (m < n) × (f m ≡ true) × ((j : ℕ) → m < j → j < n → f j ≡ false))
        → (m : ℕ) × (k ≤ m) × (m < suc n) × (f m ≡ true) × ((j : ℕ) → m < j → j < suc n → f j ≡ false)
    go true q ih = (n, omega arith, omega arith, q, λ j a b. absurd (omega arith))
    go false q ih =
        let l : k < n = split_lt k n (λ l. l) (λ x. contra (subst (λ (i : ℕ). f i ≡ true) x e) q) (λ x. absurd (omega arith)) in
        let (m, a, b, p, r) = ih l in
        (m, a, omega arith, p, λ j x y. split_lt j n (λ z. r j x z) (λ z. subst (λ (i : ℕ). f i ≡ false) (sym z) q) (λ z. absurd (omega arith)))
