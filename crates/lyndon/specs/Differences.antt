-- Laws of `Dif`, smaller at the first difference: a strict order, kept by fronts and by what follows.
-- Where a tail is not greater at a difference than another, the other is not smaller at one (`not_smaller`): a cut is live exactly
-- when no tail from a cut on is smaller at a difference than its own (`live_best`). By its index, the first difference is that of the definition (`dif_first`).
use Rattle.std.specs.Prelude.{◌≡◌, refl, true, ◌||◌, ◌⊎◌, ◌↔◌, List, [], ◌∷◌, ◌++◌, ℕ, zero, suc, ◌≤◌, ◌<◌, length, take, drop, get_or, ltb, eqb}
use Rattle.std.proofs.Common.{sym, ◌∙◌, ap, ap₂, subst, inl, inr, append-nil, arith, length-append, take-append-drop, drop_of_length-le, take_all, ltb-true}
use Rattle.std.proofs.Math.Seq.{split_at}
use Rattle.definitions.specs.Words.{every, first_difference}
use Rattle.definitions.specs.Occurrences.{not_greater_at_difference, is_live}
use Rattle.lists.specs.Bools.{and_left}
use Rattle.lists.specs.Numbers.{split_le, split_lt}
use Rattle.lists.specs.Lists.{Extends, extends_self}
use Rattle.lists.specs.FirstDifference.{difference_fronts, difference_unlike}
use Rattle.lyndon.specs.Lexical.{Dif, Compare, equal, prefix, extends, smaller, greater, compared, dif_append, dif_lt, lt_irrefl, lt_asym}
use Rattle.lyndon.specs.Cuts.{NotGreaterAtDifference, not_greater, Live, live_test}

-- ---- a strict order

pub dif_irrefl : (x : List ℕ) → Dif x x → ⊥
dif_irrefl x h = lt_irrefl x (dif_lt x x h)

dif_asym : (x y : List ℕ) → Dif x y → Dif y x → ⊥
dif_asym x y h k = lt_asym x y (dif_lt x y h) (dif_lt y x k)

pub dif_trans : (x y z : List ℕ) → Dif x y → Dif y z → Dif x z
dif_trans [] y z h k = absurd h
dif_trans (a ∷ x) [] z h k = absurd h
dif_trans (a ∷ x) (b ∷ y) [] h k = absurd k
dif_trans (a ∷ x) (b ∷ y) (c ∷ z) h k = go h k (λ p q. dif_trans x y z p q)
  where
    go : (a < b) ⊎ ((a ≡ b) × Dif x y) → (b < c) ⊎ ((b ≡ c) × Dif y z) → (Dif x y → Dif y z → Dif x z) → (a < c) ⊎ ((a ≡ c) × Dif x z)
    go (inl l) (inl m) ih = inl (omega arith)
    go (inl l) (inr m) ih = inl (omega (arith, m.0))
    go (inr l) (inl m) ih = inl (omega (arith, l.0))
    go (inr l) (inr m) ih = inr (l.0 ∙ m.0, ih l.1 m.1)

-- equal strings compare alike
pub dif_at : {x x' y y' : List ℕ} → x ≡ x' → y ≡ y' → Dif x' y' → Dif x y
dif_at {x} {x'} {y} {y'} e f d = subst (λ (t : List ℕ). Dif t y) (sym e) (subst (λ (t : List ℕ). Dif x' t) (sym f) d)

-- of two strings that do not differ the shorter one is a prefix of the other
pub dif_none : (x y : List ℕ) → length x ≤ length y → (Dif x y → ⊥) → (Dif y x → ⊥) → Extends x y
dif_none x y h m n = go (compared x y)
  where
    go : Compare x y → Extends x y
    go (equal e) = subst (λ (t : List ℕ). Extends x t) e (extends_self x)
    go (prefix r k e) = (r, e)
    go (extends r k e) = absurd (omega (arith, simp length-append at (ap length e)))
    go (smaller d) = absurd (m d)
    go (greater d) = absurd (n d)

-- ---- fronts

-- a common front
pub dif_common : (p x y : List ℕ) → Dif x y → Dif (p ++ x) (p ++ y)
dif_common [] x y d = d
dif_common (a ∷ p) x y d = inr (refl, dif_common p x y d)

-- smaller than a string: smaller than what extends it
pub dif_more : (x y r : List ℕ) → Dif x y → Dif x (y ++ r)
dif_more x y r d = subst (λ (t : List ℕ). Dif t (y ++ r)) (append-nil x) (dif_append x y [] r d)

-- and back: smaller than it, or a longer string that begins with it
pub dif_split : (z x r : List ℕ) → Dif z (x ++ r) → Dif z x ⊎ ((q : List ℕ) × (z ≡ x ++ q) × Dif q r)
dif_split z [] r d = inr (z, refl, d)
dif_split [] (a ∷ x) r d = absurd d
dif_split (c ∷ z) (a ∷ x) r d = go d (λ e. dif_split z x r e)
  where
    on : c ≡ a → Dif z x ⊎ ((q : List ℕ) × (z ≡ x ++ q) × Dif q r) → Dif (c ∷ z) (a ∷ x) ⊎ ((q : List ℕ) × (c ∷ z ≡ a ∷ x ++ q) × Dif q r)
    on e (inl l) = inl (inr (e, l))
    on e (inr (q, f, l)) = inr (q, ap₂ {C = List ℕ} (λ b t. b ∷ t) e f, l)

    go : (c < a) ⊎ ((c ≡ a) × Dif z (x ++ r)) → (Dif z (x ++ r) → Dif z x ⊎ ((q : List ℕ) × (z ≡ x ++ q) × Dif q r))
        → Dif (c ∷ z) (a ∷ x) ⊎ ((q : List ℕ) × (c ∷ z ≡ a ∷ x ++ q) × Dif q r)
    go (inl l) ih = inl (inl l)
    go (inr l) ih = on l.0 (ih l.1)

-- a common front, and then a smaller symbol
pub dif_behind : (p : List ℕ) (a b : ℕ) (x y : List ℕ) → a < b → Dif (p ++ (a ∷ x)) (p ++ (b ∷ y))
dif_behind [] a b x y h = inl h
dif_behind (c ∷ p) a b x y h = inr (refl, dif_behind p a b x y h)

-- smaller than p and a symbol: smaller than p and a greater symbol
pub dif_raise : (z p : List ℕ) (a b : ℕ) (x y : List ℕ) → a < b → Dif z (p ++ (a ∷ x)) → Dif z (p ++ (b ∷ y))
dif_raise [] p a b x y h d = absurd d
dif_raise (c ∷ z) [] a b x y h (inl l) = inl (omega arith)
dif_raise (c ∷ z) [] a b x y h (inr l) = inl (omega (arith, l.0))
dif_raise (c ∷ z) (e ∷ p) a b x y h (inl l) = inl l
dif_raise (c ∷ z) (e ∷ p) a b x y h (inr l) = inr (l.0, dif_raise z p a b x y h l.1)

-- the front of s decides, beside a string no longer than it
pub dif_front : (s z : List ℕ) (k : ℕ) → length z ≤ k → Dif s z → Dif (take k s) z
dif_front [] z k h d = absurd d
dif_front (a ∷ s) [] k h d = absurd d
dif_front (a ∷ s) (b ∷ z) zero h d = absurd (omega arith)
dif_front (a ∷ s) (b ∷ z) (suc k) h (inl l) = inl l
dif_front (a ∷ s) (b ∷ z) (suc k) h (inr l) = inr (l.0, dif_front s z k (omega arith) l.1)

-- what holds of a tail of the front holds of the tail of the whole
pub dif_whole : (e k : ℕ) (s z : List ℕ) → Dif (drop e (take k s)) z → Dif (drop e s) z
dif_whole zero k s z d =
    subst (λ (t : List ℕ). Dif s t) (append-nil z)
    (subst (λ (t : List ℕ). Dif t (z ++ [])) (take-append-drop k s) (dif_append (take k s) z (drop k s) [] d))
dif_whole (suc e) zero s z d = absurd d
dif_whole (suc e) (suc k) [] z d = absurd d
dif_whole (suc e) (suc k) (a ∷ s) z d = dif_whole e k s z d

-- ---- the definition's wording

-- a string and a prefix of it do not differ
dif_extended : (x r : List ℕ) → Dif (x ++ r) x → ⊥
dif_extended [] [] d = d
dif_extended [] (b ∷ r) d = d
dif_extended (a ∷ x) r (inl l) = omega arith
dif_extended (a ∷ x) r (inr l) = dif_extended x r l.1

dif_extends : (x r : List ℕ) → Dif x (x ++ r) → ⊥
dif_extends [] r d = d
dif_extends (a ∷ x) r (inl l) = omega arith
dif_extends (a ∷ x) r (inr l) = dif_extends x r l.1

pub not_smaller : (x y : List ℕ) → NotGreaterAtDifference x y → Dif y x → ⊥
not_smaller x y (inl (r, e)) d = dif_extended x r (subst (λ (t : List ℕ). Dif t x) e d)
not_smaller x y (inr (inl (r, e))) d = dif_extends y r (subst (λ (t : List ℕ). Dif y t) e d)
not_smaller x y (inr (inr l)) d = dif_asym x y l d

-- ---- the first difference, by its index

module _ (x y : List ℕ) where
  abbrev at : ℕ
  at = first_difference x y

  -- both begin with the same symbols up to there
  fronts : take at x ≡ take at y
  fronts = difference_fronts x y

  left_whole : at < length x → x ≡ take at x ++ (get_or x at 0 ∷ drop (suc at) x)
  left_whole h = split_at x at 0 h

  right_whole : at < length y → y ≡ take at x ++ (get_or y at 0 ∷ drop (suc at) y)
  right_whole h = split_at y at 0 h ∙ ap (λ (t : List ℕ). t ++ (get_or y at 0 ∷ drop (suc at) y)) (sym fronts)

  -- where one ends there, it is a prefix of the other
  left_ends : length x ≤ at → y ≡ x ++ drop at y
  left_ends h = sym (take-append-drop at y) ∙ ap (λ (t : List ℕ). t ++ drop at y) (sym fronts ∙ take_all at x h)

  right_ends : length y ≤ at → x ≡ y ++ drop at x
  right_ends h = sym (take-append-drop at x) ∙ ap (λ (t : List ℕ). t ++ drop at x) (fronts ∙ take_all at y h)

  -- smaller at the first difference: it lies in both strings, and the symbol that x has there is the smaller one
  pub dif_first : Dif x y ↔ ((at < length x) × (at < length y) × (get_or x at 0 < get_or y at 0))
  dif_first = (
    λ d. split_le (length x) at
        (λ h. absurd (dif_extends x (drop at y) (subst (λ (t : List ℕ). Dif x t) (left_ends h) d)))
        (λ h. split_le (length y) at
        (λ k. absurd (dif_extended y (drop at x) (subst (λ (t : List ℕ). Dif t y) (right_ends k) d)))
        (λ k. split_lt (get_or x at 0) (get_or y at 0)
        (λ l. (h, k, l))
        (λ e. absurd (difference_unlike x y h k e))
        (λ l. absurd (dif_asym x y d (dif_at (right_whole k) (left_whole h) (dif_behind (take at x) (get_or y at 0) (get_or x at 0) (drop (suc at) y) (drop (suc at) x) l)))))),
    λ (h, k, l). dif_at (left_whole h) (right_whole k) (dif_behind (take at x) (get_or x at 0) (get_or y at 0) (drop (suc at) x) (drop (suc at) y) l),
  )

-- ---- live cuts

-- no tail from a cut on is smaller, at a difference, than that from c on
abbrev pub BestCut : List ℕ → ℕ → Type 0
BestCut s c = (d : ℕ) → 0 < d → Dif (drop d s) (drop c s) → ⊥

pub live_best : (s : List ℕ) (c : ℕ) → 0 < c → c < length s → is_live s c ≡ true ↔ BestCut s c
live_best s c p h = (λ e. best ((live_test s c h).0 e), λ b. (live_test s c h).1 (p, h, λ d q k n. not_greater (drop c s) (drop d s) (b d q)))
  where
    best : Live s c → BestCut s c
    best (_, _, l) d q x = split_le (length s) d
        (λ k. subst (λ (y : List ℕ). Dif y (drop c s)) (drop_of_length-le s k) x)
        (λ k. split_lt d c
        (λ n. not_smaller (drop c s) (drop d s) (l d q k (λ e. omega arith)) x)
        (λ n. dif_irrefl (drop c s) (subst (λ (i : ℕ). Dif (drop i s) (drop c s)) n x))
        (λ n. not_smaller (drop c s) (drop d s) (l d q k (λ e. omega arith)) x))

pub live_from : (s : List ℕ) (c : ℕ) → is_live s c ≡ true → 0 < c
unfolding is_live
live_from s c e = ltb-true 0 c (and_left (ltb 0 c) (every (λ d. eqb d 0 || not_greater_at_difference (drop c s) (drop d s)) (length s)) e)
