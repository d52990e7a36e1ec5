-- Occurrences at a join: those in u ++ v are those in u, those that straddle the join, and those in v moved on (`occurrences_join`);
-- under a standard factorization the straddling ones are exactly those cut at a live cut, and those cut at a listed cut (`straddling_cut`, `live_suffice`,
-- `listed_suffice`), at most one (`straddling_most`).
use Rattle.std.specs.Prelude.{◌≡◌, refl, Bool, true, false, ◌&&◌, ◌⊎◌, ℕ, suc, ◌+◌, ◌-◌, ◌≤◌, ◌<◌, length, take, drop, ltb, eqb}
use Rattle.std.proofs.Common.{sym, ◌∙◌, ap, ap₂, inl, inr, ⊎_elim, arith, length-append, length-drop, ltb-true, lt-ltb, eqb-true, eq-eqb}
use Rattle.std.proofs.lemmas.Bool.{false≢true}
use mathlib.Core.List.Memᴰ.{cases_cons as in-cons}
use mathlib.Core.List.Memᴰ.{head as here}
use mathlib.Core.List.Memᴰ.{not-nil as in-nil}
use mathlib.Core.List.Memᴰ.{tail as there}
use mathlib.Core.List.{List, [], ◌∷◌, ◌++◌, map, append_assoc, Memᴰ as In}
use Rattle.std.proofs.Math.Seq.{take-append_seam, drop-append-add, drop-append_seam}
use Rattle.std.proofs.lemmas.List.{drop-append-le}
use Rattle.definitions.specs.Words.{below, begins}
use Rattle.definitions.specs.Occurrences.{occurrences, live_cuts, listed_cuts, straddles, straddling, cut_in, cut_at}
use Rattle.lists.specs.Bools.{bool_ext, not_so, and_left, and_right, and_intro, and_same, or_left, or_right, or_cases}
use Rattle.lists.specs.Numbers.{rising_most, below_in, below_lt, below_rising, below_ext, below_stop, below_append, below_split}
use Rattle.lists.specs.Strings.{begins_rest, rest_begins}
use Rattle.lyndon.specs.Factorization.{Std}
use Rattle.lyndon.specs.Cuts.{live_cut, Straddle, straddle_view, straddle_live, straddle_once}
use Rattle.lyndon.specs.Listed.{listed_live, straddle_listed}

cut_in_lem : (cuts u : List ℕ) (i : ℕ) → cut_in cuts u i ≡ true → (c : ℕ) × In c cuts × (i + c ≡ length u)
unfolding cut_in
cut_in_lem [] u i e = absurd (false≢true e)
cut_in_lem (c ∷ cuts) u i e = go (or_cases (eqb (i + c) (length u)) (cut_in cuts u i) e) (λ q. cut_in_lem cuts u i q)
  where
    go : (eqb (i + c) (length u) ≡ true) ⊎ (cut_in cuts u i ≡ true) → (cut_in cuts u i ≡ true → (d : ℕ) × In d cuts × (i + d ≡ length u))
        → (d : ℕ) × In d (c ∷ cuts) × (i + d ≡ length u)
    go (inl q) ih = (c, here refl, eqb-true (i + c) (length u) q)
    go (inr q) ih = let (d, m, p) = ih q in (d, there m, p)

in_cut : (cuts u : List ℕ) (i c : ℕ) → In c cuts → i + c ≡ length u → cut_in cuts u i ≡ true
unfolding cut_in
in_cut [] u i c m e = absurd (in-nil m)
in_cut (d ∷ cuts) u i c m e = ⊎_elim
    (λ q. or_left (eqb (i + d) (length u)) (cut_in cuts u i) (eq-eqb (i + d) (length u) (omega arith)))
    (λ k. or_right (eqb (i + d) (length u)) (cut_in cuts u i) (in_cut cuts u i c k e))
    (in-cons m)

-- ---- the straddling occurrences are those cut at one of some cuts

-- cuts that may be tried at a join: each is a cut, and under a standard factorization every straddling occurrence is cut at one
pub record Suffices (p cuts : List ℕ) : Type 0 where
  pub cut : (c : ℕ) → In c cuts → (0 < c) × (c < length p)
  pub straddle : (u v : List ℕ) (i : ℕ) → Std u v → (s : Straddle p u v i) → In (length s.front) cuts

pub straddling_cut : (p cuts u v : List ℕ) → Suffices p cuts → Std u v → straddling p u v ≡ cut_at p cuts u v
unfolding straddling cut_at straddles
straddling_cut p cuts u v ok d =
    below_ext
    (λ i. begins p (drop i (u ++ v)) && (ltb i (length u) && ltb (length u) (i + length p)))
    (λ i. begins p (drop i (u ++ v)) && cut_in cuts u i)
    (suc (length (u ++ v)))
    (λ i h. and_same (begins p (drop i (u ++ v))) (ltb i (length u) && ltb (length u) (i + length p)) (cut_in cuts u i)
    (λ b. bool_ext (ltb i (length u) && ltb (length u) (i + length p)) (cut_in cuts u i) (to i b) (from i)))
  where
    to : (i : ℕ) → begins p (drop i (u ++ v)) ≡ true → ltb i (length u) && ltb (length u) (i + length p) ≡ true → cut_in cuts u i ≡ true
    to i b e =
        let s = straddle_view p u v i b
        (ltb-true i (length u) (and_left (ltb i (length u)) (ltb (length u) (i + length p)) e))
        (ltb-true (length u) (i + length p) (and_right (ltb i (length u)) (ltb (length u) (i + length p)) e)) in
        in_cut cuts u i (length s.front) (ok.straddle u v i d s) (omega (arith, s.place, simp length-append at (ap length s.left)))

    from : (i : ℕ) → cut_in cuts u i ≡ true → ltb i (length u) && ltb (length u) (i + length p) ≡ true
    from i e =
        let (c, m, q) = cut_in_lem cuts u i e in
        let (z, k) = ok.cut c m in
        and_intro (ltb i (length u)) (ltb (length u) (i + length p)) (lt-ltb i (length u) (omega arith)) (lt-ltb (length u) (i + length p) (omega arith))

-- the live cuts suffice
pub live_suffice : (p : List ℕ) → Suffices p (live_cuts p)
live_suffice p =
    record {
      cut = λ c m. let (z, k, l) = (live_cut p c).0 m in (z, k);
      straddle = λ u v i d s. (live_cut p (length s.front)).1 (straddle_live p u v i d s);
    }

-- so do the listed cuts
pub listed_suffice : (p : List ℕ) → Suffices p (listed_cuts p)
listed_suffice p =
    record {
      cut = λ c m. let (z, k, l) = listed_live p c m in (z, k);
      straddle = straddle_listed p;
    }

-- an occurrence is cut at the join at one of the cuts exactly when, for some c of them, it begins c before the join
pub cut_at_lem : (p cuts u v : List ℕ) (i : ℕ) → In i (cut_at p cuts u v) → (c : ℕ) × In c cuts × (i + c ≡ length u) × (begins p (drop i (u ++ v)) ≡ true)
unfolding cut_at
cut_at_lem p cuts u v i m =
    let (h, e) = below_lt (λ k. begins p (drop k (u ++ v)) && cut_in cuts u k) (suc (length (u ++ v))) i m in
    let (c, n, q) = cut_in_lem cuts u i (and_right (begins p (drop i (u ++ v))) (cut_in cuts u i) e) in
    (c, n, q, and_left (begins p (drop i (u ++ v))) (cut_in cuts u i) e)

pub at_cut : (p cuts x y q k : List ℕ) → In (length q) cuts → p ≡ q ++ k → In (length x) (cut_at p cuts (x ++ q) (k ++ y))
unfolding cut_at
at_cut p cuts x y q k m e =
    below_in (λ j. begins p (drop j (whole)) && cut_in cuts (x ++ q) j) (suc (length whole)) (length x)
    (simp (length-append, length-append) (omega arith))
    (and_intro (begins p (drop (length x) whole)) (cut_in cuts (x ++ q) (length x))
    (rest_begins p (drop (length x) whole) y (ap (drop (length x)) regroup ∙ drop-append_seam x (p ++ y)))
    (in_cut cuts (x ++ q) (length x) (length q) m (sym (length-append x q))))
  where
    whole : List ℕ
    whole = (x ++ q) ++ (k ++ y)

    regroup : whole ≡ x ++ (p ++ y)
    regroup = append_assoc x q (k ++ y) ∙ ap (λ (z : List ℕ). x ++ z) (sym (append_assoc q k y) ∙ ap (λ (z : List ℕ). z ++ y) (sym e))

-- where it begins c before the join, u ends with the first c symbols of p and v begins with the others
pub cut_parts : (p u v : List ℕ) (i c : ℕ) → 0 < c → c < length p → i + c ≡ length u → begins p (drop i (u ++ v)) ≡ true
    → (drop i u ≡ take c p) × (begins (drop c p) v ≡ true)
cut_parts p u v i c some few e h =
    let s = straddle_view p u v i h (omega arith) (omega arith) in
    let size : length s.front ≡ c = omega (arith, s.place, ap length s.left, length-append s.before s.front) in
    let ends : drop i u ≡ s.front =
    ap (drop i) s.left ∙ ap (λ (k : ℕ). drop k (s.before ++ s.front)) (sym s.place) ∙ drop-append_seam s.before s.front in
    let front : take c p ≡ s.front = ap (take c) s.cut ∙ ap (λ (k : ℕ). take k (s.front ++ s.rest)) (sym size) ∙ take-append_seam s.front s.rest in
    let rest : drop c p ≡ s.rest = ap (drop c) s.cut ∙ ap (λ (k : ℕ). drop k (s.front ++ s.rest)) (sym size) ∙ drop-append_seam s.front s.rest in
    (ends ∙ sym front, rest_begins (drop c p) v s.behind (s.right ∙ ap (λ (l : List ℕ). l ++ s.behind) (sym rest)))

-- at most one occurrence straddles
pub straddling_most : (p u v : List ℕ) → Std u v → length (straddling p u v) ≤ 1
unfolding straddling straddles
straddling_most p u v d =
    rising_most (below test (suc (length (u ++ v)))) (below_rising test (suc (length (u ++ v))))
    (λ i j m n h. straddle_once p u v i j d (view i m) (view j n) h)
  where
    test : ℕ → Bool
    test i = begins p (drop i (u ++ v)) && (ltb i (length u) && ltb (length u) (i + length p))

    view : (i : ℕ) → In i (below test (suc (length (u ++ v)))) → Straddle p u v i
    view i m =
        let (h, e) = below_lt test (suc (length (u ++ v))) i m in
        let b = and_right (begins p (drop i (u ++ v))) (ltb i (length u) && ltb (length u) (i + length p)) e in
        straddle_view p u v i (and_left (begins p (drop i (u ++ v))) (ltb i (length u) && ltb (length u) (i + length p)) e)
        (ltb-true i (length u) (and_left (ltb i (length u)) (ltb (length u) (i + length p)) b))
        (ltb-true (length u) (i + length p) (and_right (ltb i (length u)) (ltb (length u) (i + length p)) b))

-- ---- all occurrences in u ++ v

-- what follows does not matter to a pattern that fits
begins_front : (p x y : List ℕ) → length p ≤ length x → begins p (x ++ y) ≡ begins p x
unfolding begins
begins_front [] x y h = refl
begins_front (a ∷ p) [] y h = absurd (omega arith)
begins_front (a ∷ p) (b ∷ x) y h = ap (λ (c : Bool). eqb a b && c) (begins_front p x y (omega arith))

begins_short : (p x : List ℕ) → length x < length p → begins p x ≡ false
begins_short p x h = not_so (begins p x) (λ e. let (r, q) = begins_rest p x e in omega (arith, simp length-append at (ap length q)))

pub occurrences_join : (p u v : List ℕ) → 0 < length p
    → occurrences p (u ++ v) ≡ occurrences p u ++ (straddling p u v ++ map (λ (k : ℕ). length u + k) (occurrences p v))
unfolding occurrences straddling straddles
occurrences_join p u v hp =
    ap (below f) size
    ∙ below_append f n (suc (length v))
    ∙ ap₂ {C = List ℕ} (λ x y. x ++ y) front (ap (map (λ (k : ℕ). n + k)) (below_ext (λ k. f (n + k)) (λ k. begins p (drop k v)) (suc (length v)) (λ k l. ap (begins p) (drop-append-add u v k))))
    ∙ append_assoc (below g (suc n)) (below h (suc (length (u ++ v)))) (map (λ (k : ℕ). n + k) (below (λ k. begins p (drop k v)) (suc (length v))))
  where
    n : ℕ
    n = length u

    size : suc (length (u ++ v)) ≡ n + suc (length v)
    size = omega (arith, length-append u v)

    f : ℕ → Bool
    f i = begins p (drop i (u ++ v))

    g : ℕ → Bool
    g i = begins p (drop i u)

    h : ℕ → Bool
    h i = f i && (ltb i n && ltb n (i + length p))

    in_left : (k : ℕ) → k < n → k < suc n - length p → (f k ≡ g k) × (h k ≡ false)
    in_left k l m = (
      ap (begins p) (drop-append-le k u v (omega arith)) ∙ begins_front p (drop k u) v (simp length-drop (omega arith)),
      not_so (h k) (λ e. let z = ltb-true n (k + length p) (and_right (ltb k n) (ltb n (k + length p)) (and_right (f k) (ltb k n && ltb n (k + length p)) e)) in omega arith),
    )

    at_join : (k : ℕ) → k < n → suc n - length p ≤ k → (f k ≡ h k) × (g k ≡ false)
    at_join k l m = (
      bool_ext (f k) (h k)
          (λ e. and_intro (f k) (ltb k n && ltb n (k + length p)) e (and_intro (ltb k n) (ltb n (k + length p)) (lt-ltb k n l) (lt-ltb n (k + length p) (omega arith))))
          (λ e. and_left (f k) (ltb k n && ltb n (k + length p)) e),
      begins_short p (drop k u) (simp length-drop (omega arith)),
    )

    -- those in u end before its end, and those that straddle begin before it
    g_stops : below g (suc n) ≡ below g n
    g_stops = ap (below g) one_more ∙ below_stop g n 1 (λ k a b. begins_short p (drop k u) (simp length-drop (omega arith)))
      where
        one_more : suc n ≡ n + 1
        one_more = omega arith

    h_stops : below h (suc (length (u ++ v))) ≡ below h n
    h_stops = ap (below h) size ∙ below_stop h n (suc (length v))
        (λ k a b. not_so (h k) (λ e. let z = ltb-true k n (and_left (ltb k n) (ltb n (k + length p)) (and_right (f k) (ltb k n && ltb n (k + length p)) e)) in omega arith))

    front : below f n ≡ below g (suc n) ++ below h (suc (length (u ++ v)))
    front = below_split f g h (suc n - length p) n in_left at_join ∙ ap₂ {C = List ℕ} (λ x y. x ++ y) (sym g_stops) (sym h_stops)
