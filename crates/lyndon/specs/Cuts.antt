-- Live cuts are exactly those of the definition's wording (`live_cut`), rising, each once (`cuts_rising`), none for one symbol
-- (`cuts_one`). Under a standard factorization (u, v) an occurrence in u ++ v that straddles the join is cut there at a live cut
-- (`straddle_live`), and at most one does (`straddle_once`).
use Rattle.std.specs.Prelude.{◌≡◌, Bool, true, ◌||◌, ◌⊎◌, ◌↔◌, ℕ, ◌+◌, ◌≤◌, ◌<◌, length, take, drop, ltb, eqb}
use Rattle.std.proofs.Common.{sym, ◌∙◌, ap, ap₂, subst, inl, inr, ⊎_elim, arith, length-append, length-drop, length-take, take-append-drop, length-take-le, ltb-true, lt-ltb, eqb-true, eq-eqb}
use mathlib.Core.List.{List, [], ◌++◌, append_assoc, append-nil, Memᴰ as In}
use Rattle.std.proofs.Math.Seq.{drop-append_seam}
use Rattle.definitions.specs.Words.{every, begins, lexlt}
use Rattle.definitions.specs.Occurrences.{not_greater_at_difference, is_live, live_cuts}
use Rattle.lists.specs.Bools.{and_left, and_right, and_intro, or_left, or_right, or_cases}
use Rattle.lists.specs.Numbers.{split_le, split_lt, every_at, every_all, Rising, below_in, below_lt, below_rising}
use Rattle.lists.specs.Lists.{Overlap, within, across, overlap}
use Rattle.lists.specs.Strings.{begins_rest, rest_begins}
use Rattle.lyndon.specs.Lexical.{Lt, Dif, Compare, equal, prefix, extends, smaller, greater, compared, lexlt_lt, lt_lexlt, dif_append, dif_lt, lt_cases, lt_irrefl, lt_asym, lt_append}
use Rattle.lyndon.specs.Factorization.{Std}

-- ---- the wording of the definition

-- one of the two is a prefix of the other, or x is smaller at their first difference
abbrev pub NotGreaterAtDifference : List ℕ → List ℕ → Type 0
NotGreaterAtDifference x y = ((r : List ℕ) × (y ≡ x ++ r)) ⊎ (((r : List ℕ) × (x ≡ y ++ r)) ⊎ Dif x y)

not_greater_is : (x y : List ℕ) → not_greater_at_difference x y ≡ true → NotGreaterAtDifference x y
unfolding not_greater_at_difference
not_greater_is x y e = first (or_cases (begins x y) (begins y x || lexlt x y) e)
  where
    third : Dif x y ⊎ ((r : List ℕ) × (0 < length r) × (y ≡ x ++ r)) → NotGreaterAtDifference x y
    third (inl d) = inr (inr d)
    third (inr (r, h, q)) = inl (r, q)

    second : (begins y x ≡ true) ⊎ (lexlt x y ≡ true) → NotGreaterAtDifference x y
    second (inl q) = inr (inl (begins_rest y x q))
    second (inr q) = third (lt_cases x y (lexlt_lt x y q))

    first : (begins x y ≡ true) ⊎ (begins y x || lexlt x y ≡ true) → NotGreaterAtDifference x y
    first (inl q) = inl (begins_rest x y q)
    first (inr q) = second (or_cases (begins y x) (lexlt x y) q)

is_not_greater : (x y : List ℕ) → NotGreaterAtDifference x y → not_greater_at_difference x y ≡ true
unfolding not_greater_at_difference
is_not_greater x y (inl (r, e)) = or_left (begins x y) (begins y x || lexlt x y) (rest_begins x y r e)
is_not_greater x y (inr (inl (r, e))) =
    or_right (begins x y) (begins y x || lexlt x y) (or_left (begins y x) (lexlt x y) (rest_begins y x r e))
is_not_greater x y (inr (inr d)) =
    or_right (begins x y) (begins y x || lexlt x y) (or_right (begins y x) (lexlt x y) (lt_lexlt x y (dif_lt x y d)))

-- so where y is not smaller at a difference
pub not_greater : (x y : List ℕ) → (Dif y x → ⊥) → NotGreaterAtDifference x y
not_greater x y h = go (compared x y)
  where
    go : Compare x y → NotGreaterAtDifference x y
    go (equal e) = inl ([], sym e ∙ sym (append-nil x))
    go (prefix r n e) = inl (r, e)
    go (extends r n e) = inr (inl (r, e))
    go (smaller d) = inr (inr d)
    go (greater d) = absurd (h d)

-- c is a cut, and beside every other cut d its tail is not after d's
abbrev pub Live : List ℕ → ℕ → Type 0
Live p c = (0 < c) × (c < length p) × ((d : ℕ) → 0 < d → d < length p → (d ≡ c → ⊥) → NotGreaterAtDifference (drop c p) (drop d p))

live_is : (p : List ℕ) (c : ℕ) → In c (live_cuts p) → Live p c
unfolding live_cuts is_live
live_is p c m =
    let (h, e) = below_lt (is_live p) (length p) c m in
    let test : ℕ → Bool = λ d. eqb d 0 || not_greater_at_difference (drop c p) (drop d p) in (
      ltb-true 0 c (and_left (ltb 0 c) (every test (length p)) e),
      h,
      λ d k l n. ⊎_elim
          (λ q. absurd (omega (arith, eqb-true d 0 q)))
          (λ q. not_greater_is (drop c p) (drop d p) q)
          (or_cases (eqb d 0) (not_greater_at_difference (drop c p) (drop d p)) (every_at test (length p) (and_right (ltb 0 c) (every test (length p)) e) d l)),
    )

is_live_lem : (p : List ℕ) (c : ℕ) → Live p c → In c (live_cuts p)
unfolding live_cuts is_live
is_live_lem p c (z, h, l) =
    below_in (is_live p) (length p) c h
    (and_intro (ltb 0 c) (every test (length p)) (lt-ltb 0 c z) (every_all test (length p) at))
  where
    test : ℕ → Bool
    test d = eqb d 0 || not_greater_at_difference (drop c p) (drop d p)

    at : (d : ℕ) → d < length p → test d ≡ true
    at d k = split_le d 0
        (λ n. or_left (eqb d 0) (not_greater_at_difference (drop c p) (drop d p)) (eq-eqb d 0 (omega arith)))
        (λ n. or_right (eqb d 0) (not_greater_at_difference (drop c p) (drop d p)) (is_not_greater (drop c p) (drop d p) (beside n)))
      where
        beside : 0 < d → NotGreaterAtDifference (drop c p) (drop d p)
        beside n = split_lt d c
            (λ m. l d n k (λ e. omega arith))
            (λ e. inl ([], ap (λ (i : ℕ). drop i p) e ∙ sym (append-nil (drop c p))))
            (λ m. l d n k (λ e. omega arith))

pub live_cut : (p : List ℕ) (c : ℕ) → In c (live_cuts p) ↔ Live p c
live_cut p c = (live_is p c, is_live_lem p c)

-- the test alone
pub live_test : (p : List ℕ) (c : ℕ) → c < length p → is_live p c ≡ true ↔ Live p c
unfolding live_cuts
live_test p c h = (λ e. live_is p c (below_in (is_live p) (length p) c h e), λ l. (below_lt (is_live p) (length p) c (is_live_lem p c l)).1)

pub cuts_rising : (p : List ℕ) → Rising (live_cuts p)
unfolding live_cuts
cuts_rising p = below_rising (is_live p) (length p)

pub cuts_one : (p : List ℕ) → length p ≤ 1 → (c : ℕ) → In c (live_cuts p) → ⊥
cuts_one p h c m = let (z, k, l) = live_is p c m in omega arith

-- ---- occurrences that straddle a join

-- p in u ++ v straddles the join: u ends with its front, v begins with its rest
pub record Straddle (p u v : List ℕ) (i : ℕ) : Type 0 where
  pub before : List ℕ
  pub front : List ℕ
  pub rest : List ℕ
  pub behind : List ℕ
  pub place : length before ≡ i
  pub left : u ≡ before ++ front
  pub cut : p ≡ front ++ rest
  pub right : v ≡ rest ++ behind
  pub front_filled : 0 < length front
  pub rest_filled : 0 < length rest

pub straddle_view : (p u v : List ℕ) (i : ℕ) → begins p (drop i (u ++ v)) ≡ true → i < length u → length u < i + length p → Straddle p u v i
straddle_view p u v i e h k = go (begins_rest p (drop i (u ++ v)) e)
  where
    x : List ℕ
    x = take i (u ++ v)

    size : length x ≡ i
    size = length-take-le i (u ++ v) (simp length-append (omega arith))

    go : (r : List ℕ) × (drop i (u ++ v) ≡ p ++ r) → Straddle p u v i
    go (r, q) = outer (overlap x (p ++ r) u v (ap (λ (s : List ℕ). x ++ s) (sym q) ∙ take-append-drop i (u ++ v)))
      where
        outer : Overlap x (p ++ r) u v → Straddle p u v i
        outer (within m a b) = absurd (omega (arith, size, simp length-append at (ap length a)))
        outer (across m n a b) = inner (overlap p r m v b)
          where
            inner : Overlap p r m v → Straddle p u v i
            inner (within l c d) =
                record {
                  before = x;
                  front = m;
                  rest = l;
                  behind = r;
                  place = size;
                  left = a;
                  cut = c;
                  right = d;
                  front_filled = n;
                  rest_filled = omega (arith, size, simp length-append at (ap length a), simp length-append at (ap length c));
                }
            inner (across l o c d) =
                absurd (omega (arith, size, simp length-append at (ap length a), simp length-append at (ap length c)))

-- the whole is what stands before, the pattern and what stands behind
straddle_whole : (p u v : List ℕ) (i : ℕ) (s : Straddle p u v i) → u ++ v ≡ s.before ++ (p ++ s.behind)
straddle_whole p u v i s =
    ap₂ {C = List ℕ} (λ x y. x ++ y) s.left s.right
    ∙ append_assoc s.before s.front (s.rest ++ s.behind)
    ∙ ap (λ (x : List ℕ). s.before ++ x) (sym (append_assoc s.front s.rest s.behind) ∙ ap (λ (x : List ℕ). x ++ s.behind) (sym s.cut))

-- the cut of a straddling occurrence is live
pub straddle_live : (p u v : List ℕ) (i : ℕ) → Std u v → (s : Straddle p u v i) → Live p (length s.front)
straddle_live p u v i std s = (s.front_filled, omega (arith, size, s.rest_filled), beside)
  where
    size : length p ≡ length s.front + length s.rest
    size = ap length s.cut ∙ length-append s.front s.rest

    tail : drop (length s.front) p ≡ s.rest
    tail = ap (drop (length s.front)) s.cut ∙ drop-append_seam s.front s.rest

    beside : (d : ℕ) → 0 < d → d < length p → (d ≡ length s.front → ⊥) → NotGreaterAtDifference (drop (length s.front) p) (drop d p)
    beside d hd k n = subst (λ (x : List ℕ). NotGreaterAtDifference x y) (sym tail) (not_greater s.rest y not_smaller)
      where
        y : List ℕ
        y = drop d p

        -- the suffix of u ++ v from the cut d on
        suffix : u ++ v ≡ (s.before ++ take d p) ++ (y ++ s.behind)
        suffix =
            straddle_whole p u v i s
            ∙ ap (λ (x : List ℕ). s.before ++ x) (ap (λ (x : List ℕ). x ++ s.behind) (sym (take-append-drop d p)) ∙ append_assoc (take d p) y s.behind)
            ∙ sym (append_assoc s.before (take d p) (y ++ s.behind))

        not_smaller : Dif y s.rest → ⊥
        not_smaller z =
            let l : Lt (y ++ s.behind) v = subst (λ (x : List ℕ). Lt (y ++ s.behind) x) (sym s.right) (dif_lt (y ++ s.behind) (s.rest ++ s.behind) (dif_append y s.rest s.behind s.behind z)) in
            ⊎_elim
            (λ e. lt_irrefl v (subst (λ (x : List ℕ). Lt x v) e l))
            (λ m. lt_asym v (y ++ s.behind) m l)
            (std.least (s.before ++ take d p) (y ++ s.behind) (simp (length-append, length-take) (omega arith)) (simp (length-append, length-drop) (omega arith)) suffix)

-- u does not end with m, and be longer, where v begins with m, and is longer: m ++ v, a suffix, would be both smaller and greater than v
pub std_again : (u v x m y : List ℕ) → Std u v → u ≡ x ++ m → v ≡ m ++ y → 0 < length x → 0 < length m → 0 < length y → ⊥
std_again u v x m y std left right hx hm hy = ⊎_elim
    (λ e. omega (arith, simp length-append at (ap length e)))
    (λ l. ⊎_elim
    (λ e. omega (arith, ap length e, simp length-append at (ap length right)))
    (λ k. lt_asym v (m ++ v) l (subst (λ (z : List ℕ). Lt (m ++ v) z) (sym right) (lt_append m v y k)))
    (std.least (u ++ m) y (simp length-append (omega arith)) hy (ap (λ (z : List ℕ). u ++ z) right ∙ sym (append_assoc u m y))))
    (std.least x (m ++ v) hx (simp length-append (omega arith)) (ap (λ (z : List ℕ). z ++ v) left ∙ append_assoc x m v))

-- at most one occurrence straddles: with m between the two cuts, v begins with m and u ends with it
pub straddle_once : (p u v : List ℕ) (i j : ℕ) → Std u v → Straddle p u v i → Straddle p u v j → i < j → ⊥
straddle_once p u v i j std s t h = go (overlap s.front s.rest t.front t.rest (sym s.cut ∙ t.cut))
  where
    fronts : length t.front < length s.front
    fronts = omega (arith, s.place, t.place, simp length-append at (ap length s.left), simp length-append at (ap length t.left))

    go : Overlap s.front s.rest t.front t.rest → ⊥
    go (across m n a b) = omega (arith, fronts, simp length-append at (ap length a))
    go (within m a b) =
        std_again u v (s.before ++ t.front) m (s.rest ++ t.behind) std
        (s.left ∙ ap (λ (x : List ℕ). s.before ++ x) a ∙ sym (append_assoc s.before t.front m))
        (t.right ∙ ap (λ (x : List ℕ). x ++ t.behind) b ∙ append_assoc m s.rest t.behind)
        (simp length-append (omega (arith, t.front_filled)))
        (omega (arith, fronts, simp length-append at (ap length a)))
        (simp length-append (omega (arith, s.rest_filled)))
