-- Members of a list of numbers: at an index, in a rising list, in a mapped list, behind a place; a list without one. A mapped list, its fronts and rests.
use Rattle.std.specs.Prelude.{◌≡◌, refl, ◌⊎◌, ℕ, zero, suc, ◌<◌, length, take, drop, get_or}
use Rattle.std.proofs.Common.{sym, ap, inl, inr, ⊎_elim, arith}
use mathlib.Core.List.Memᴰ.{cases_cons as in-cons}
use mathlib.Core.List.Memᴰ.{head as here}
use mathlib.Core.List.Memᴰ.{not-nil as in-nil}
use mathlib.Core.List.Memᴰ.{tail as there}
use mathlib.Core.List.{List, [], ◌∷◌, map, Memᴰ as In}
use Rattle.lists.specs.Numbers.{Rising}

pub in_at : (b : ℕ) (l : List ℕ) → In b l → (i : ℕ) × (i < length l) × (get_or l i 0 ≡ b)
in_at b [] m = absurd (in-nil m)
in_at b (a ∷ l) m = go (in-cons m) (λ k. in_at b l k)
  where
    go : (b ≡ a) ⊎ In b l → (In b l → (i : ℕ) × (i < length l) × (get_or l i 0 ≡ b)) → (i : ℕ) × (i < suc (length l)) × (get_or (a ∷ l) i 0 ≡ b)
    go (inl e) ih = (zero, omega arith, sym e)
    go (inr k) ih = let (i, h, e) = ih k in (suc i, omega arith, e)

pub at_in : (l : List ℕ) (i : ℕ) → i < length l → In (get_or l i 0) l
at_in [] i h = absurd (omega arith)
at_in (a ∷ l) zero h = here refl
at_in (a ∷ l) (suc i) h = there (at_in l i (omega arith))

-- in a rising list
pub rising_at : (l : List ℕ) → Rising l → (i j : ℕ) → i < j → j < length l → get_or l i 0 < get_or l j 0
rising_at [] r i j h k = absurd (omega arith)
rising_at (a ∷ l) r i zero h k = absurd (omega arith)
rising_at (a ∷ l) r zero (suc j) h k = r.0 (get_or l j 0) (at_in l j (omega arith))
rising_at (a ∷ l) r (suc i) (suc j) h k = rising_at l r.1 i j (omega arith) (omega arith)

pub in_map : (f : ℕ → ℕ) (r : ℕ) (l : List ℕ) → In r (map f l) → (b : ℕ) × In b l × (r ≡ f b)
in_map f r [] m = absurd (in-nil m)
in_map f r (a ∷ l) m = go (in-cons m) (λ k. in_map f r l k)
  where
    go : (r ≡ f a) ⊎ In r (map f l) → (In r (map f l) → (b : ℕ) × In b l × (r ≡ f b)) → (b : ℕ) × In b (a ∷ l) × (r ≡ f b)
    go (inl e) ih = (a, here refl, e)
    go (inr k) ih = let (b, i, e) = ih k in (b, there i, e)

pub map_at : (f : ℕ → ℕ) (l : List ℕ) (i : ℕ) → i < length l → get_or (map f l) i 0 ≡ f (get_or l i 0)
map_at f [] i h = absurd (omega arith)
map_at f (a ∷ l) zero h = refl
map_at f (a ∷ l) (suc i) h = map_at f l i (omega arith)

pub take_map : (f : ℕ → ℕ) (n : ℕ) (l : List ℕ) → take n (map f l) ≡ map f (take n l)
take_map f zero l = refl
take_map f (suc n) [] = refl
take_map f (suc n) (a ∷ l) = ap {B = List ℕ} (λ m. f a ∷ m) (take_map f n l)

pub drop_map : (f : ℕ → ℕ) (i : ℕ) (l : List ℕ) → drop i (map f l) ≡ map f (drop i l)
drop_map f zero l = refl
drop_map f (suc i) [] = refl
drop_map f (suc i) (a ∷ l) = drop_map f i l

pub in_drop : (i : ℕ) (l : List ℕ) (b : ℕ) → In b (drop i l) → In b l
in_drop zero l b m = m
in_drop (suc i) [] b m = m
in_drop (suc i) (a ∷ l) b m = there (in_drop i l b m)

pub in_take : (i : ℕ) (l : List ℕ) (b : ℕ) → In b (take i l) → In b l
in_take zero l b m = absurd (in-nil m)
in_take (suc i) [] b m = m
in_take (suc i) (a ∷ l) b m = ⊎_elim (λ e. here e) (λ k. there (in_take i l b k)) (in-cons m)

pub in_none : (l : List ℕ) → ((i : ℕ) → In i l → ⊥) → l ≡ []
in_none [] h = refl
in_none (a ∷ l) h = absurd (h a (here refl))
