-- Strings as values: `same` decides equality, and `begins` that one string is a prefix of another.
use Rattle.std.specs.Prelude.{◌≡◌, refl, Bool, true, ◌&&◌, List, [], ◌∷◌, ◌++◌, ℕ, zero, suc, ◌≤◌, ◌<◌, length, take, get_or, eqb}
use Rattle.std.proofs.Common.{sym, ap₂, arith, eqb-true, eq-eqb}
use Rattle.std.proofs.lemmas.Bool.{false≢true}
use Rattle.definitions.specs.Words.{same, begins}
use Rattle.lists.specs.Bools.{and_left, and_right, and_intro, bool_ext}

pub same_eq : (x y : List ℕ) → same x y ≡ true → x ≡ y
unfolding same
same_eq [] [] e = refl
same_eq [] (b ∷ y) e = absurd (false≢true e)
same_eq (a ∷ x) [] e = absurd (false≢true e)
same_eq (a ∷ x) (b ∷ y) e =
    ap₂ {C = List ℕ} (λ c l. c ∷ l) (eqb-true a b (and_left (eqb a b) (same x y) e)) (same_eq x y (and_right (eqb a b) (same x y) e))

pub same_self : (x : List ℕ) → same x x ≡ true
unfolding same
same_self [] = refl
same_self (a ∷ x) = and_intro (eqb a a) (same x x) (eq-eqb a a refl) (same_self x)

pub eq_same : (x y : List ℕ) → x ≡ y → same x y ≡ true
eq_same x y e = rw e (same_self y)

-- s begins with p exactly when s is p and a rest
pub begins_rest : (p s : List ℕ) → begins p s ≡ true → (r : List ℕ) × (s ≡ p ++ r)
unfolding begins
begins_rest [] s e = (s, refl)
begins_rest (a ∷ p) [] e = absurd (false≢true e)
begins_rest (a ∷ p) (b ∷ s) e =
    let (r, q) = begins_rest p s (and_right (eqb a b) (begins p s) e) in
    (r, ap₂ {C = List ℕ} (λ c l. c ∷ l) (sym (eqb-true a b (and_left (eqb a b) (begins p s) e))) q)

begins_append : (p r : List ℕ) → begins p (p ++ r) ≡ true
unfolding begins
begins_append [] r = refl
begins_append (a ∷ p) r = and_intro (eqb a a) (begins p (p ++ r)) (eq-eqb a a refl) (begins_append p r)

pub rest_begins : (p s r : List ℕ) → s ≡ p ++ r → begins p s ≡ true
rest_begins p s r e = rw e (begins_append p r)

-- where s is not shorter: its front is p
pub front_begins : (p s : List ℕ) → length p ≤ length s → same (take (length p) s) p ≡ begins p s
unfolding same begins
front_begins [] s h = refl
front_begins (a ∷ p) [] h = absurd (omega arith)
front_begins (a ∷ p) (b ∷ s) h = ap₂ {C = Bool} (λ x y. x && y) (bool_ext (eqb b a) (eqb a b) (λ e. eq-eqb a b (sym (eqb-true b a e))) (λ e. eq-eqb b a (sym (eqb-true a b e)))) (front_begins p s (omega arith))

-- a string begins another exactly when it is not longer and each of its entries stands there
pub begins_entries : (u v : List ℕ) → begins u v ≡ true → (length u ≤ length v) × ((j : ℕ) → j < length u → get_or v j 0 ≡ get_or u j 0)
unfolding begins
begins_entries [] v e = (omega arith, λ j h. absurd (omega arith))
begins_entries (a ∷ u) [] e = absurd (false≢true e)
begins_entries (a ∷ u) (b ∷ v) e =
    let (l, f) = begins_entries u v (and_right (eqb a b) (begins u v) e) in
    (omega arith, λ j. entry j f)
  where
    entry : (j : ℕ) → ((j : ℕ) → j < length u → get_or v j 0 ≡ get_or u j 0) → j < length (a ∷ u) → get_or (b ∷ v) j 0 ≡ get_or (a ∷ u) j 0
    entry zero f h = sym (eqb-true a b (and_left (eqb a b) (begins u v) e))
    entry (suc j) f h = f j (omega arith)

pub entries_begin : (u v : List ℕ) → length u ≤ length v → ((j : ℕ) → j < length u → get_or v j 0 ≡ get_or u j 0) → begins u v ≡ true
unfolding begins
entries_begin [] v l f = refl
entries_begin (a ∷ u) [] l f = absurd (omega arith)
entries_begin (a ∷ u) (b ∷ v) l f =
    and_intro (eqb a b) (begins u v) (eq-eqb a b (sym (f 0 (omega arith)))) (entries_begin u v (omega arith) (λ j h. f (suc j) (omega arith)))
