-- The standard factorization: the longest proper suffix that is a Lyndon word is the smallest proper suffix.
-- `Std u v` says that v is the smallest proper suffix of u ++ v; `std_longest` and `longest_std` that it is the longest Lyndon
-- one, and `std_parts` that the definition's two parts are such. Last, when two factorizations join to a third.
use Rattle.std.specs.Prelude.{◌≡◌, refl, Bool, true, false, ◌&&◌, ◌⊎◌, ℕ, ◌≤◌, ◌<◌, length, take, drop, ltb}
use Rattle.std.proofs.Common.{sym, ◌∙◌, ap, subst, inl, inr, ⊎_elim, arith, length-append, length-take, length-drop, take-append-drop, ltb-true, lt-ltb}
use mathlib.Core.List.{List, [], ◌∷◌, ◌++◌, append-nil, append_assoc, tail-eq_of_cons-eq}
use Rattle.std.proofs.Math.Seq.{drop-append_seam, take-append_seam}
use Rattle.definitions.specs.Words.{lyndon, cut_of}
use Rattle.definitions.specs.Grammar.{left_of, right_of}
use Rattle.lists.specs.Bools.{and_left, and_right, and_intro, not_so}
use Rattle.lists.specs.Numbers.{split_le, least_is}
use Rattle.lists.specs.Lists.{empty, Overlap, within, across, overlap, split_same_left, split_same_right}
use Rattle.lyndon.specs.Lexical.{Lt, Compare, equal, prefix, extends, smaller, greater, compared, dif_append, dif_lt, lt_trans, lt_asym, lt_prefix, lt_cancel, total}
use Rattle.lyndon.specs.Words.{Lyndon, lyndon_is, is_lyndon, lt_joined}

-- v is the smallest proper suffix of u ++ v
pub record Std (u v : List ℕ) : Type 0 where
  pub left : 0 < length u
  pub right : 0 < length v
  pub least : (p s : List ℕ) → 0 < length p → 0 < length s → u ++ v ≡ p ++ s → (s ≡ v) ⊎ Lt v s

-- ---- it is the longest proper Lyndon suffix

pub std_lyndon : (u v : List ℕ) → Std u v → Lyndon v
std_lyndon u v d = record { filled = d.right; least = least }
  where
    least : (p s : List ℕ) → 0 < length p → 0 < length s → v ≡ p ++ s → Lt v s
    least p s hp hs e = ⊎_elim
        (λ q. absurd (omega (arith, simp length-append at (ap length e), ap length q)))
        (λ l. l)
        (d.least (u ++ p) s (simp length-append (omega arith)) hs (rw (append_assoc, ← e)))

pub std_longest : (u v : List ℕ) → Std u v → (p s : List ℕ) → 0 < length p → u ++ v ≡ p ++ s → Lyndon s → length s ≤ length v
std_longest u v d p s hp e l = split_le (length s) (length v) (λ h. h) (λ h. longer h (overlap p s u v (sym e)))
  where
    longer : length v < length s → Overlap p s u v → length s ≤ length v
    longer h (within q x y) = absurd (omega (arith, simp length-append at (ap length y)))
    longer h (across q n x y) = ⊎_elim
        (λ z. absurd (omega (arith, ap length z)))
        (λ z. absurd (lt_asym v s z (l.least q v n d.right y)))
        (d.least p s hp (omega arith) e)

-- every word of two or more symbols has a smallest proper suffix
std_exists : (w : List ℕ) → 2 ≤ length w → (u : List ℕ) × (v : List ℕ) × (w ≡ u ++ v) × Std u v
std_exists [] h = absurd (omega arith)
std_exists (a ∷ []) h = absurd (omega arith)
std_exists (a ∷ b ∷ []) h =
    (a ∷ [], b ∷ [], refl, record { left = omega arith; right = omega arith; least = least })
  where
    least : (p s : List ℕ) → 0 < length p → 0 < length s → a ∷ b ∷ [] ≡ p ++ s → (s ≡ b ∷ []) ⊎ Lt (b ∷ []) s
    least p s hp hs e = inl (sym (split_same_right (a ∷ []) (b ∷ []) p s e (omega (arith, simp length-append at (ap length e)))))
std_exists (a ∷ b ∷ c ∷ w) h = go (std_exists (b ∷ c ∷ w) (omega arith))
  where
    rest : List ℕ
    rest = b ∷ c ∷ w

    go : (u : List ℕ) × (v : List ℕ) × (rest ≡ u ++ v) × Std u v → (u : List ℕ) × (v : List ℕ) × (a ∷ rest ≡ u ++ v) × Std u v
    go (u, v, e, d) = pick (total rest v)
      where
        -- a suffix of a ∷ rest is rest, or a proper suffix of rest
        suffix : (p s : List ℕ) → 0 < length p → 0 < length s → a ∷ rest ≡ p ++ s → (s ≡ rest) ⊎ ((s ≡ v) ⊎ Lt v s)
        suffix [] s hp hs q = absurd (omega arith)
        suffix (x ∷ []) s hp hs q = inl (sym (tail-eq_of_cons-eq q))
        suffix (x ∷ y ∷ p) s hp hs q = inr (d.least (y ∷ p) s (omega arith) hs (sym e ∙ tail-eq_of_cons-eq q))

        whole : Lt rest v → Std (a ∷ []) rest
        whole l =
            record {
              left = omega arith;
              right = omega arith;
              least = λ p s hp hs q. ⊎_elim
                  (λ z. inl z)
                  (λ z. inr (⊎_elim (λ y. rw y l) (λ y. lt_trans rest v s l y) z))
                  (suffix p s hp hs q);
            }

        part : (rest ≡ v) ⊎ Lt v rest → Std (a ∷ u) v
        part m =
            record {
              left = omega arith;
              right = d.right;
              least = λ p s hp hs q. ⊎_elim
                  (λ z. ⊎_elim (λ y. inl (z ∙ y)) (λ y. inr (rw z y)) m)
                  (λ z. z)
                  (suffix p s hp hs (ap (λ (x : List ℕ). a ∷ x) e ∙ q));
            }

        pick : Lt rest v ⊎ ((rest ≡ v) ⊎ Lt v rest) → (u : List ℕ) × (v : List ℕ) × (a ∷ rest ≡ u ++ v) × Std u v
        pick (inl l) = (a ∷ [], rest, refl, whole l)
        pick (inr m) = (a ∷ u, v, ap (λ (x : List ℕ). a ∷ x) e, part m)

pub longest_std : (u v : List ℕ) → 0 < length u → Lyndon v
    → ((p s : List ℕ) → 0 < length p → u ++ v ≡ p ++ s → Lyndon s → length s ≤ length v) → Std u v
longest_std u v hu l longest = go (std_exists (u ++ v) (simp length-append (omega (arith, l.filled))))
  where
    go : (x : List ℕ) × (y : List ℕ) × (u ++ v ≡ x ++ y) × Std x y → Std u v
    go (x, y, e, d) = subst (λ (z : List ℕ). Std u z) (sym right) (subst (λ (z : List ℕ). Std z y) (sym left) d)
      where
        size : length u ≡ length x
        size =
            omega (
              arith,
              longest x y d.left e (std_lyndon x y d),
              std_longest x y d u v hu (sym e) l,
              simp length-append at (ap length e),
            )

        left : u ≡ x
        left = split_same_left u v x y e size

        right : v ≡ y
        right = split_same_right u v x y e size

-- ---- the definition's cut and parts

std_cut : (u v : List ℕ) → Std u v → cut_of (u ++ v) ≡ length u
unfolding cut_of
std_cut u v d = least_is test (length (u ++ v)) (length u) (simp length-append (omega (arith, d.right))) here before
  where
    test : ℕ → Bool
    test k = ltb 0 k && lyndon (drop k (u ++ v))

    here : test (length u) ≡ true
    here =
        and_intro (ltb 0 (length u)) (lyndon (drop (length u) (u ++ v))) (lt-ltb 0 (length u) d.left)
        (rw drop-append_seam (is_lyndon v (std_lyndon u v d)))

    before : (j : ℕ) → j < length u → test j ≡ false
    before j h = not_so (test j) (λ e.
        let big = std_longest u v d (take j (u ++ v)) (drop j (u ++ v))
        (let z = ltb-true 0 j (and_left (ltb 0 j) (lyndon (drop j (u ++ v))) e) in simp (length-take, length-append) (omega arith))
        (sym (take-append-drop j (u ++ v)))
        (lyndon_is (drop j (u ++ v)) (and_right (ltb 0 j) (lyndon (drop j (u ++ v))) e)) in
        omega (arith, simp (length-drop, length-append) at big))

pub std_left : (u v : List ℕ) → Std u v → left_of (u ++ v) ≡ u
unfolding left_of
std_left u v d = rw (std_cut u v d) (take-append_seam u v)

pub std_right : (u v : List ℕ) → Std u v → right_of (u ++ v) ≡ v
unfolding right_of
std_right u v d = rw (std_cut u v d) (drop-append_seam u v)

pub std_parts : (w : List ℕ) → 2 ≤ length w → (w ≡ left_of w ++ right_of w) × Std (left_of w) (right_of w)
std_parts w h = go (std_exists w h)
  where
    go : (u : List ℕ) × (v : List ℕ) × (w ≡ u ++ v) × Std u v → (w ≡ left_of w ++ right_of w) × Std (left_of w) (right_of w)
    go (u, v, e, d) =
        let l : left_of w ≡ u = ap left_of e ∙ std_left u v d in
        let r : right_of w ≡ v = ap right_of e ∙ std_right u v d in
        (rw (l, r) e, rw (l, r) d)

-- ---- both parts of a Lyndon word are Lyndon words, the left one smaller

pub left_lyndon : (u v : List ℕ) → Lyndon (u ++ v) → Std u v → Lyndon u
left_lyndon u v l d = record { filled = d.left; least = least }
  where
    least : (p s : List ℕ) → 0 < length p → 0 < length s → u ≡ p ++ s → Lt u s
    least p s hp hs e = go (compared u s)
      where
        -- the whole is smaller than its suffix s ++ v
        whole : Lt (u ++ v) (s ++ v)
        whole = l.least p (s ++ v) hp (simp length-append (omega arith)) (rw (← append_assoc, ← e))

        go : Compare u s → Lt u s
        go (equal q) = absurd (omega (arith, simp length-append at (ap length e), ap length q))
        go (prefix r n q) = absurd (omega (arith, simp length-append at (ap length e), simp length-append at (ap length q)))
        go (extends r n q) = ⊎_elim
            (λ z. absurd (omega (arith, simp length-append at (ap length z))))
            (λ z. absurd (lt_asym v (r ++ v) z (lt_cancel s (r ++ v) v (rw (← append_assoc, ← q) whole))))
            (d.least s (r ++ v) hs (simp length-append (omega arith)) (rw (← append_assoc, ← q)))
        go (smaller z) = dif_lt u s z
        go (greater z) = absurd (lt_asym (u ++ v) (s ++ v) whole (dif_lt (s ++ v) (u ++ v) (dif_append s u v v z)))

pub left_smaller : (u v : List ℕ) → Lyndon (u ++ v) → Std u v → Lt u v
left_smaller u v l d = lt_trans u (u ++ v) v (lt_prefix u v d.right) (l.least u v d.left d.right refl)

-- ---- joining

-- one symbol before a Lyndon word
pub std_one : (a : ℕ) (v : List ℕ) → Lyndon v → Std (a ∷ []) v
std_one a v l = record { left = omega arith; right = l.filled; least = least }
  where
    least : (p s : List ℕ) → 0 < length p → 0 < length s → a ∷ v ≡ p ++ s → (s ≡ v) ⊎ Lt v s
    least [] s hp hs e = absurd (omega arith)
    least (x ∷ []) s hp hs e = inl (sym (tail-eq_of_cons-eq e))
    least (x ∷ y ∷ p) s hp hs e = inr (l.least (y ∷ p) s (omega arith) hs (tail-eq_of_cons-eq e))

-- a factorization before a Lyndon word that its right part is not smaller than
pub std_join : (x y v : List ℕ) → Std x y → Lyndon v → (Lt y v → ⊥) → Std (x ++ y) v
std_join x y v d l no_less = record { left = simp length-append (omega (arith, d.left)); right = l.filled; least = λ p s hp hs e. least p s hp hs (overlap p s (x ++ y) v (sym e)) }
  where
    -- v is before q ++ v for every q that is not before y
    extend : (q : List ℕ) → (q ≡ y) ⊎ Lt y q → Lt v (q ++ v)
    extend q h = go (compared v q)
      where
        -- q is not smaller than v
        not_before : Lt q v → ⊥
        not_before k = ⊎_elim (λ e. no_less (rw (← e) k)) (λ m. no_less (lt_trans y q v m k)) h

        go : Compare v q → Lt v (q ++ v)
        go (equal e) = subst (λ (z : List ℕ). Lt v (z ++ v)) e (lt_prefix v v l.filled)
        go (prefix r n e) = rw (e, append_assoc) (lt_prefix v (r ++ v) (simp length-append (omega arith)))
        go (extends r n e) = absurd (not_before (rw e (lt_prefix q r n)))
        go (smaller z) = subst (λ (t : List ℕ). Lt t (q ++ v)) (append-nil v) (dif_lt (v ++ []) (q ++ v) (dif_append v q [] v z))
        go (greater z) = absurd (not_before (dif_lt q v z))

    least : (p s : List ℕ) → 0 < length p → 0 < length s → Overlap p s (x ++ y) v → (s ≡ v) ⊎ Lt v s
    least p s hp hs (within q e f) =
        split_le (length q) 0
        (λ z. inl (sym (f ∙ ap (λ (t : List ℕ). t ++ s) (empty q (omega arith)))))
        (λ z. inr (l.least q s z hs f))
    least p s hp hs (across q n e f) = inr (rw f (extend q (d.least p q hp n e)))

-- and the other way: in a factorization no suffix of the left part is smaller than the right part
pub std_order : (x y v : List ℕ) → 0 < length x → 0 < length y → Std (x ++ y) v → Lt y v → ⊥
std_order x y v hx hy d h = ⊎_elim
    (λ e. omega (arith, simp length-append at (ap length e)))
    (λ l. lt_asym v (y ++ v) l (lt_joined y v hy (std_lyndon (x ++ y) v d) h))
    (d.least x (y ++ v) hx (simp length-append (omega arith)) (append_assoc x y v))
