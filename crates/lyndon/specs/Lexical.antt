-- The order of strings is a strict total order, and `lexlt` decides it.
-- Beside it stands `Dif`, smaller at the first difference, which what follows the two strings cannot change.
use Rattle.std.specs.Prelude.{◌≡◌, refl, true, false, ◌&&◌, ◌||◌, ◌⊎◌, List, [], ◌∷◌, ◌++◌, ℕ, ◌<◌, length, ltb, eqb}
use Rattle.std.proofs.Common.{sym, ◌∙◌, ap₂, inl, inr, ⊎_elim, arith, ltb-true, lt-ltb, eqb-true, eq-eqb}
use Rattle.std.proofs.lemmas.Bool.{false≢true}
use Rattle.definitions.specs.Words.{lexlt}
use Rattle.lists.specs.Bools.{and_left, and_right, and_intro, or_left, or_right, or_cases}
use Rattle.lists.specs.Numbers.{split_lt}

-- x is smaller than y
abbrev pub Lt : List ℕ → List ℕ → Type 0
Lt x [] = ⊥
Lt [] (b ∷ y) = Unit {0}
Lt (a ∷ x) (b ∷ y) = (a < b) ⊎ ((a ≡ b) × Lt x y)

-- x is smaller than y at their first difference
abbrev pub Dif : List ℕ → List ℕ → Type 0
Dif [] y = ⊥
Dif (a ∷ x) [] = ⊥
Dif (a ∷ x) (b ∷ y) = (a < b) ⊎ ((a ≡ b) × Dif x y)

-- ---- the Bool function decides the order

pub lexlt_lt : (x y : List ℕ) → lexlt x y ≡ true → Lt x y
unfolding lexlt
lexlt_lt [] [] e = false≢true e
lexlt_lt (a ∷ x) [] e = false≢true e
lexlt_lt [] (b ∷ y) e = tt
lexlt_lt (a ∷ x) (b ∷ y) e = go (or_cases (ltb a b) (eqb a b && lexlt x y) e) (λ h. lexlt_lt x y h)
  where
    go : (ltb a b ≡ true) ⊎ (eqb a b && lexlt x y ≡ true) → (lexlt x y ≡ true → Lt x y) → (a < b) ⊎ ((a ≡ b) × Lt x y)
    go (inl h) ih = inl (ltb-true a b h)
    go (inr h) ih = inr (eqb-true a b (and_left (eqb a b) (lexlt x y) h), ih (and_right (eqb a b) (lexlt x y) h))

pub lt_lexlt : (x y : List ℕ) → Lt x y → lexlt x y ≡ true
unfolding lexlt
lt_lexlt x [] h = absurd h
lt_lexlt [] (b ∷ y) h = refl
lt_lexlt (a ∷ x) (b ∷ y) h = go h (λ l. lt_lexlt x y l)
  where
    go : (a < b) ⊎ ((a ≡ b) × Lt x y) → (Lt x y → lexlt x y ≡ true) → ltb a b || (eqb a b && lexlt x y) ≡ true
    go (inl l) ih = or_left (ltb a b) (eqb a b && lexlt x y) (lt-ltb a b l)
    go (inr l) ih = or_right (ltb a b) (eqb a b && lexlt x y) (and_intro (eqb a b) (lexlt x y) (eq-eqb a b l.0) (ih l.1))

-- ---- how two strings compare

pub data Compare (x y : List ℕ) : Type 0 where
  equal : x ≡ y → Compare x y
  prefix : (r : List ℕ) → 0 < length r → y ≡ x ++ r → Compare x y
  extends : (r : List ℕ) → 0 < length r → x ≡ y ++ r → Compare x y
  smaller : Dif x y → Compare x y
  greater : Dif y x → Compare x y

pub compared : (x y : List ℕ) → Compare x y
compared [] [] = equal refl
compared [] (b ∷ y) = prefix (b ∷ y) (omega arith) refl
compared (a ∷ x) [] = extends (a ∷ x) (omega arith) refl
compared (a ∷ x) (b ∷ y) = split_lt a b (λ l. smaller (inl l)) (λ e. go e (compared x y)) (λ l. greater (inl l))
  where
    go : a ≡ b → Compare x y → Compare (a ∷ x) (b ∷ y)
    go e (equal q) = equal (ap₂ {C = List ℕ} (λ c l. c ∷ l) e q)
    go e (prefix r n q) = prefix r n (ap₂ {C = List ℕ} (λ c l. c ∷ l) (sym e) q)
    go e (extends r n q) = extends r n (ap₂ {C = List ℕ} (λ c l. c ∷ l) e q)
    go e (smaller d) = smaller (inr (e, d))
    go e (greater d) = greater (inr (sym e, d))

-- ---- laws of the first difference

pub dif_append : (x y s t : List ℕ) → Dif x y → Dif (x ++ s) (y ++ t)
dif_append [] y s t d = absurd d
dif_append (a ∷ x) [] s t d = absurd d
dif_append (a ∷ x) (b ∷ y) s t d = go d (λ e. dif_append x y s t e)
  where
    go : (a < b) ⊎ ((a ≡ b) × Dif x y) → (Dif x y → Dif (x ++ s) (y ++ t)) → (a < b) ⊎ ((a ≡ b) × Dif (x ++ s) (y ++ t))
    go (inl l) ih = inl l
    go (inr l) ih = inr (l.0, ih l.1)

pub dif_lt : (x y : List ℕ) → Dif x y → Lt x y
dif_lt [] y d = absurd d
dif_lt (a ∷ x) [] d = d
dif_lt (a ∷ x) (b ∷ y) d = go d (λ e. dif_lt x y e)
  where
    go : (a < b) ⊎ ((a ≡ b) × Dif x y) → (Dif x y → Lt x y) → (a < b) ⊎ ((a ≡ b) × Lt x y)
    go (inl l) ih = inl l
    go (inr l) ih = inr (l.0, ih l.1)

-- a smaller string is so at the first difference, or is a proper prefix
pub lt_cases : (x y : List ℕ) → Lt x y → Dif x y ⊎ ((r : List ℕ) × (0 < length r) × (y ≡ x ++ r))
lt_cases x [] h = absurd h
lt_cases [] (b ∷ y) h = inr (b ∷ y, omega arith, refl)
lt_cases (a ∷ x) (b ∷ y) h = go h (λ l. lt_cases x y l)
  where
    on : a ≡ b → Dif x y ⊎ ((r : List ℕ) × (0 < length r) × (y ≡ x ++ r)) → Dif (a ∷ x) (b ∷ y) ⊎ ((r : List ℕ) × (0 < length r) × (b ∷ y ≡ a ∷ x ++ r))
    on e (inl d) = inl (inr (e, d))
    on e (inr p) = inr (p.0, p.1, ap₂ {C = List ℕ} (λ c l. c ∷ l) (sym e) p.2)

    go : (a < b) ⊎ ((a ≡ b) × Lt x y) → (Lt x y → Dif x y ⊎ ((r : List ℕ) × (0 < length r) × (y ≡ x ++ r))) → Dif (a ∷ x) (b ∷ y) ⊎ ((r : List ℕ) × (0 < length r) × (b ∷ y ≡ a ∷ x ++ r))
    go (inl l) ih = inl (inl l)
    go (inr l) ih = on l.0 (ih l.1)

-- ---- a strict total order

pub lt_irrefl : (x : List ℕ) → Lt x x → ⊥
lt_irrefl [] h = h
lt_irrefl (a ∷ x) h = ⊎_elim (λ l. omega arith) (λ l. lt_irrefl x l.1) h

pub lt_trans : (x y z : List ℕ) → Lt x y → Lt y z → Lt x z
lt_trans x y [] h k = k
lt_trans x [] (c ∷ z) h k = absurd h
lt_trans [] (b ∷ y) (c ∷ z) h k = tt
lt_trans (a ∷ x) (b ∷ y) (c ∷ z) h k = go h k (λ p q. lt_trans x y z p q)
  where
    go : (a < b) ⊎ ((a ≡ b) × Lt x y) → (b < c) ⊎ ((b ≡ c) × Lt y z) → (Lt x y → Lt y z → Lt x z) → (a < c) ⊎ ((a ≡ c) × Lt x z)
    go (inl l) (inl m) ih = inl (omega arith)
    go (inl l) (inr m) ih = inl (omega (arith, m.0))
    go (inr l) (inl m) ih = inl (omega (arith, l.0))
    go (inr l) (inr m) ih = inr (l.0 ∙ m.0, ih l.1 m.1)

pub lt_asym : (x y : List ℕ) → Lt x y → Lt y x → ⊥
lt_asym x y h k = lt_irrefl x (lt_trans x y x h k)

-- a string before what extends it
pub lt_prefix : (x r : List ℕ) → 0 < length r → Lt x (x ++ r)
lt_prefix [] [] h = omega arith
lt_prefix [] (b ∷ r) h = tt
lt_prefix (a ∷ x) r h = inr (refl, lt_prefix x r h)

pub total : (x y : List ℕ) → Lt x y ⊎ ((x ≡ y) ⊎ Lt y x)
total x y = go (compared x y)
  where
    go : Compare x y → Lt x y ⊎ ((x ≡ y) ⊎ Lt y x)
    go (equal e) = inr (inl e)
    go (prefix r n e) = inl (rw e (lt_prefix x r n))
    go (extends r n e) = inr (inr (rw e (lt_prefix y r n)))
    go (smaller d) = inl (dif_lt x y d)
    go (greater d) = inr (inr (dif_lt y x d))

-- not smaller: equal or greater
pub not_lt : (x y : List ℕ) → (Lt x y → ⊥) → (x ≡ y) ⊎ Lt y x
not_lt x y h = ⊎_elim (λ l. absurd (h l)) (λ e. e) (total x y)

-- the order decides like the test, also where it fails
pub lexlt_not : (x y : List ℕ) → lexlt x y ≡ false → Lt x y → ⊥
lexlt_not x y e h = false≢true (sym e ∙ lt_lexlt x y h)

-- ---- strings with a common front

pub lt_append : (p x y : List ℕ) → Lt x y → Lt (p ++ x) (p ++ y)
lt_append [] x y h = h
lt_append (a ∷ p) x y h = inr (refl, lt_append p x y h)

pub lt_cancel : (p x y : List ℕ) → Lt (p ++ x) (p ++ y) → Lt x y
lt_cancel [] x y h = h
lt_cancel (a ∷ p) x y h = ⊎_elim (λ l. absurd (omega arith)) (λ l. lt_cancel p x y l.1) h
