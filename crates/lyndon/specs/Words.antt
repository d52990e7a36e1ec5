-- Lyndon words: `lyndon` decides them, and the concatenation of two, the smaller first, is one (`lyndon_append`).
-- A suffix is written as an equation, w ≡ p ++ s.
use Rattle.std.specs.Prelude.{◌≡◌, Bool, true, ◌||◌, ◌⊎◌, List, [], ◌∷◌, ◌++◌, ℕ, ◌≤◌, ◌<◌, length, take, drop, ltb, eqb}
use Rattle.std.proofs.Common.{sym, ◌∙◌, ap, subst, inl, inr, append-nil, arith, length-append, length-take, length-drop, take-append-drop, ltb-true, lt-ltb, eqb-true, eq-eqb}
use Rattle.std.proofs.Math.Seq.{drop-append_seam}
use Rattle.definitions.specs.Words.{every, lexlt, lyndon}
use Rattle.lists.specs.Bools.{and_left, and_right, and_intro, or_left, or_right, or_cases}
use Rattle.lists.specs.Numbers.{split_le, every_at, every_all}
use Rattle.lists.specs.Lists.{Overlap, within, across, overlap}
use Rattle.lyndon.specs.Lexical.{Lt, Dif, lexlt_lt, lt_lexlt, dif_append, dif_lt, lt_cases, lt_trans, lt_append}

-- w is a Lyndon word
pub record Lyndon (w : List ℕ) : Type 0 where
  pub filled : 0 < length w
  pub least : (p s : List ℕ) → 0 < length p → 0 < length s → w ≡ p ++ s → Lt w s

-- the Bool function decides it
pub lyndon_is : (w : List ℕ) → lyndon w ≡ true → Lyndon w
unfolding lyndon
lyndon_is w e = record { filled = ltb-true 0 (length w) (and_left (ltb 0 (length w)) tests e); least = least }
  where
    tests : Bool
    tests = every (λ k. eqb k 0 || lexlt w (drop k w)) (length w)

    at : (k : ℕ) → 0 < k → (eqb k 0 ≡ true) ⊎ (lexlt w (drop k w) ≡ true) → Lt w (drop k w)
    at k h (inl q) = absurd (omega (arith, eqb-true k 0 q))
    at k h (inr q) = lexlt_lt w (drop k w) q

    least : (p s : List ℕ) → 0 < length p → 0 < length s → w ≡ p ++ s → Lt w s
    least p s hp hs q =
        subst (λ (x : List ℕ). Lt w x) (ap (drop (length p)) q ∙ drop-append_seam p s)
        (at (length p) hp
        (or_cases (eqb (length p) 0) (lexlt w (drop (length p) w))
        (every_at (λ k. eqb k 0 || lexlt w (drop k w)) (length w) (and_right (ltb 0 (length w)) tests e) (length p) (omega (arith, simp length-append at (ap length q))))))

pub is_lyndon : (w : List ℕ) → Lyndon w → lyndon w ≡ true
unfolding lyndon
is_lyndon w l =
    and_intro (ltb 0 (length w)) (every test (length w)) (lt-ltb 0 (length w) l.filled)
    (every_all test (length w) (λ k h. split_le k 0 (λ z. first k z) (λ z. later k h z)))
  where
    test : ℕ → Bool
    test k = eqb k 0 || lexlt w (drop k w)

    first : (k : ℕ) → k ≤ 0 → test k ≡ true
    first k z = or_left (eqb k 0) (lexlt w (drop k w)) (eq-eqb k 0 (omega arith))

    later : (k : ℕ) → k < length w → 0 < k → test k ≡ true
    later k h z =
        or_right (eqb k 0) (lexlt w (drop k w))
        (lt_lexlt w (drop k w)
        (l.least (take k w) (drop k w) (simp length-take (omega arith)) (simp length-drop (omega arith)) (sym (take-append-drop k w))))

-- one symbol alone
pub lyndon_one : (a : ℕ) → Lyndon (a ∷ [])
lyndon_one a =
    record {
      filled = omega arith;
      least = λ p s hp hs e. absurd (omega (arith, simp length-append at (ap length e)));
    }

-- u before a greater Lyndon word v: u ++ v is smaller than v
pub lt_joined : (u v : List ℕ) → 0 < length u → Lyndon v → Lt u v → Lt (u ++ v) v
lt_joined u v hu lv h = go (lt_cases u v h)
  where
    go : Dif u v ⊎ ((r : List ℕ) × (0 < length r) × (v ≡ u ++ r)) → Lt (u ++ v) v
    go (inl d) = dif_lt (u ++ v) v (subst (λ (t : List ℕ). Dif (u ++ v) t) (append-nil v) (dif_append u v v [] d))
    go (inr (r, n, e)) = subst (λ (t : List ℕ). Lt (u ++ v) t) (sym e) (lt_append u v r (lv.least u r hu n e))

-- Lyndon words u < v: u ++ v is a Lyndon word
pub lyndon_append : (u v : List ℕ) → Lyndon u → Lyndon v → Lt u v → Lyndon (u ++ v)
lyndon_append u v lu lv h =
    record { filled = simp length-append (omega (arith, lu.filled)); least = λ p s hp hs e. least p s hp hs (overlap p s u v (sym e)) }
  where
    least : (p s : List ℕ) → 0 < length p → 0 < length s → Overlap p s u v → Lt (u ++ v) s
    least p s hp hs (within q x y) =
        split_le (length q) 0
        (λ z. subst (λ (t : List ℕ). Lt (u ++ v) t) (whole q y z) (lt_joined u v lu.filled lv h))
        (λ z. lt_trans (u ++ v) v s (lt_joined u v lu.filled lv h) (lv.least q s z hs y))
      where
        whole : (q : List ℕ) → v ≡ q ++ s → length q ≤ 0 → v ≡ s
        whole [] y z = y
        whole (a ∷ q) y z = absurd (omega arith)
    least p s hp hs (across q n x y) = rw y (go (lt_cases u q (lu.least p q hp n x)))
      where
        go : Dif u q ⊎ ((r : List ℕ) × (0 < length r) × (q ≡ u ++ r)) → Lt (u ++ v) (q ++ v)
        go (inl d) = dif_lt (u ++ v) (q ++ v) (dif_append u q v v d)
        go (inr r) = absurd (omega (arith, simp length-append at (ap length r.2), simp length-append at (ap length x)))
