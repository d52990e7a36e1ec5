-- A live cut is listed exactly when no earlier live cut is nearer to it than its tail is long (`listed_apart`): the tails of two live cuts do not differ, so
-- the shorter one is a prefix of the other. So of two listed cuts the earlier tail is at least twice as long (`listed_twice`), and of m symbols at most 1 + k
-- cuts are listed, k the greatest number with 2 ^ k ≤ m (`listed_bound`). The cut of an occurrence that straddles a join is listed (`straddle_listed`).
use Rattle.std.specs.Prelude.{◌≡◌, refl, Bool, true, false, not, ◌&&◌, ◌||◌, ◌⊎◌, ◌↔◌, ℕ, suc, ◌+◌, ◌-◌, ◌*◌, ◌^◌, ◌≤◌, ◌<◌, length, take, drop, ltb, eqb}
use Rattle.std.proofs.Common.{sym, ◌∙◌, ap, subst, inl, inr, ⊎_elim, arith, length-append, length-take, length-drop, take-append-drop, drop-drop, take_at, ltb-true, lt-ltb, eqb-true, eq-eqb}
use mathlib.Core.List.{List, [], ◌∷◌, ◌++◌, append_assoc, Memᴰ as In}
use Rattle.std.proofs.lemmas.List.{drop-append-le}
use Rattle.std.proofs.Math.Seq.{drop-append_seam}
use Rattle.std.proofs.lemmas.Bool.{not-true}
use Rattle.definitions.specs.Words.{every, begins, lyndon}
use Rattle.definitions.specs.Occurrences.{is_live, word_again, is_listed, listed_cuts}
use Rattle.lists.specs.Bools.{contra, and_left, and_right, and_intro, or_left, or_right, or_cases}
use Rattle.lists.specs.Numbers.{split_le, power_le, every_at, every_all, Rising, below_in, below_lt, below_rising, rising_halves, last_below}
use Rattle.lists.specs.Lists.{Overlap, within, across, overlap, Extends}
use Rattle.lists.specs.Strings.{begins_rest, rest_begins}
use Rattle.lyndon.specs.Lexical.{Lt, Dif, Compare, equal, prefix, extends, smaller, greater, compared, dif_append, dif_lt}
use Rattle.lyndon.specs.Words.{Lyndon, is_lyndon}
use Rattle.lyndon.specs.Factorization.{Std}
use Rattle.lyndon.specs.Cuts.{Live, live_test, Straddle, straddle_live, std_again}
use Rattle.lyndon.specs.Differences.{dif_at, dif_none, dif_common, dif_more, dif_split, BestCut, live_best, live_from}

-- the symbols of s from d up to c
abbrev pub stretch : List ℕ → ℕ → ℕ → List ℕ
stretch s d c = take (c - d) (drop d s)

-- ---- the wording of the definition

-- the stretch from d to c is a Lyndon word, the tail from c on begins with it, and the tail is longer than it
abbrev pub WordAgain : List ℕ → ℕ → ℕ → Type 0
WordAgain p d c = (lyndon (stretch p d c) ≡ true) × (y : List ℕ) × (0 < length y) × (drop c p ≡ stretch p d c ++ y)

pub word_again_lem : (p : List ℕ) (d c : ℕ) → word_again p d c ≡ true ↔ WordAgain p d c
unfolding word_again
word_again_lem p d c = (to, from)
  where
    w : List ℕ
    w = take (c - d) (drop d p)

    to : lyndon w && (begins w (drop c p) && ltb (length w) (length (drop c p))) ≡ true → WordAgain p d c
    to e =
        let r = and_right (lyndon w) (begins w (drop c p) && ltb (length w) (length (drop c p))) e in
        let l = ltb-true (length w) (length (drop c p)) (and_right (begins w (drop c p)) (ltb (length w) (length (drop c p))) r) in
        let (y, q) = begins_rest w (drop c p) (and_left (begins w (drop c p)) (ltb (length w) (length (drop c p))) r) in
        (and_left (lyndon w) (begins w (drop c p) && ltb (length w) (length (drop c p))) e, y, omega (arith, simp length-append at (ap length q)), q)

    from : WordAgain p d c → lyndon w && (begins w (drop c p) && ltb (length w) (length (drop c p))) ≡ true
    from (e, y, h, q) =
        and_intro (lyndon w) (begins w (drop c p) && ltb (length w) (length (drop c p))) e
        (and_intro (begins w (drop c p)) (ltb (length w) (length (drop c p))) (rest_begins w (drop c p) y q)
        (lt-ltb (length w) (length (drop c p)) (omega (arith, simp length-append at (ap length q)))))

-- the cut c is listed: it is live, and of no earlier cut is this so
pub listed_test : (p : List ℕ) (c : ℕ) → is_listed p c ≡ true ↔ ((is_live p c ≡ true) × ((d : ℕ) → 0 < d → d < c → WordAgain p d c → ⊥))
unfolding is_listed
listed_test p c = (
  λ e. (and_left (is_live p c) (every test c) e, λ d z m g. dropped d z g (every_at test c (and_right (is_live p c) (every test c) e) d m)),
  λ (l, n). and_intro (is_live p c) (every test c) l (every_all test c (λ d m. kept d (word_again p d c) refl (λ z g. n d z m g))),
)
  where
    test : ℕ → Bool
    test d = eqb d 0 || not (word_again p d c)

    dropped : (d : ℕ) → 0 < d → WordAgain p d c → test d ≡ true → ⊥
    dropped d z g e = ⊎_elim
        (λ q. omega (arith, eqb-true d 0 q))
        (λ q. contra ((word_again_lem p d c).1 g) (not-true (word_again p d c) q))
        (or_cases (eqb d 0) (not (word_again p d c)) e)

    kept : (d : ℕ) (b : Bool) → word_again p d c ≡ b → (0 < d → WordAgain p d c → ⊥) → test d ≡ true
    kept d false q n = or_right (eqb d 0) (not (word_again p d c)) (rw q refl)
    kept d true q n =
        or_left (eqb d 0) (not (word_again p d c))
        (eq-eqb d 0 (split_le d 0 (λ l. omega arith) (λ l. absurd (n l ((word_again_lem p d c).0 q)))))

pub listed_cut : (p : List ℕ) (c : ℕ) → In c (listed_cuts p) ↔ (Live p c × ((d : ℕ) → 0 < d → d < c → WordAgain p d c → ⊥))
unfolding listed_cuts
listed_cut p c = (
  λ m. let (h, e) = below_lt (is_listed p) (length p) c m in let (l, n) = (listed_test p c).0 e in ((live_test p c h).0 l, n),
  λ (l, n). below_in (is_listed p) (length p) c l.1 ((listed_test p c).1 ((live_test p c l.1).1 l, n)),
)

pub listed_live : (p : List ℕ) (c : ℕ) → In c (listed_cuts p) → Live p c
listed_live p c m = ((listed_cut p c).0 m).0

pub listed_rising : (p : List ℕ) → Rising (listed_cuts p)
unfolding listed_cuts
listed_rising p = below_rising (is_listed p) (length p)

-- ---- listed cuts stand apart

-- the tail that begins behind x
tail_of : (s : List ℕ) (c : ℕ) (x y : List ℕ) → drop c s ≡ x ++ y → drop (c + length x) s ≡ y
tail_of s c x y e = sym (drop-drop (length x) c s) ∙ ap (drop (length x)) e ∙ drop-append_seam x y

module _ (s : List ℕ) (d c : ℕ) (cut : 0 < d) (before : d < c) (inside : c < length s) (best : BestCut s c) where
  -- the symbols between two cuts d < c, of which c is live
  abbrev w : List ℕ
  w = stretch s d c

  size : length w ≡ c - d
  size = simp (length-take, length-drop) (omega arith)

  tail : drop d s ≡ w ++ drop c s
  tail =
      let e : d + (c - d) ≡ c = omega arith in
      sym (take-append-drop (c - d) (drop d s)) ∙ ap (λ (x : List ℕ). w ++ x) (drop-drop (c - d) d s ∙ ap (λ (i : ℕ). drop i s) e)

  -- a split of w
  at_w : (p z : List ℕ) → w ≡ p ++ z → drop d s ≡ p ++ (z ++ drop c s)
  at_w p z e = tail ∙ ap (λ (x : List ℕ). x ++ drop c s) e ∙ append_assoc p z (drop c s)

  within_w : (p z : List ℕ) → w ≡ p ++ z → drop (d + length p) s ≡ z ++ drop c s
  within_w p z e = tail_of s d p (z ++ drop c s) (at_w p z e)

  -- where c's tail begins with w, what follows w is a prefix of c's tail; so c's tail is a prefix of d's, and d is live too
  again_best : (y : List ℕ) → drop c s ≡ w ++ y → BestCut s d
  again_best y e = go (dif_none y (drop c s) (omega (arith, simp length-append at (ap length e))) low high)
    where
      low : Dif y (drop c s) → ⊥
      low h = best (c + length w) (omega arith) (dif_at (tail_of s c w y e) refl h)

      high : Dif (drop c s) y → ⊥
      high h = best d cut (dif_at tail e (dif_common w (drop c s) y h))

      go : Extends y (drop c s) → BestCut s d
      go (z, f) i p h = on (dif_split (drop i s) (drop c s) z (subst (λ (x : List ℕ). Dif (drop i s) x) whole h))
        where
          whole : drop d s ≡ drop c s ++ z
          whole = tail ∙ ap (λ (x : List ℕ). w ++ x) f ∙ sym (append_assoc w y z) ∙ ap (λ (x : List ℕ). x ++ z) (sym e)

          on : Dif (drop i s) (drop c s) ⊎ ((q : List ℕ) × (drop i s ≡ drop c s ++ q) × Dif q z) → ⊥
          on (inl l) = best i p l
          on (inr (q, g, l)) =
              best (i + length w) (omega arith)
              (dif_at (tail_of s i w (y ++ q) (g ∙ ap (λ (x : List ℕ). x ++ q) e ∙ append_assoc w y q)) f (dif_common y q z l))

  -- d is the last live cut before c, and c's tail is longer than w
  module _ (apart : c - d < length s - c) (first : BestCut s d) (last : (i : ℕ) → d < i → i < c → BestCut s i → ⊥) where
    begins_again : (y : List ℕ) × (0 < length y) × (drop c s ≡ w ++ y)
    begins_again = go (dif_none (drop c s) (drop d s) (simp (length-drop, length-drop) (omega arith)) (λ h. first c (omega arith) h) (λ h. best d cut h))
      where
        go : Extends (drop c s) (drop d s) → (y : List ℕ) × (0 < length y) × (drop c s ≡ w ++ y)
        go (r, e) = on (overlap w (drop c s) (drop c s) r (sym tail ∙ e))
          where
            on : Overlap w (drop c s) (drop c s) r → (y : List ℕ) × (0 < length y) × (drop c s ≡ w ++ y)
            on (within q f g) = absurd (omega (arith, size, simp (length-append, length-drop) at (ap length f)))
            on (across q h f g) = (q, h, f)

    -- w is a Lyndon word: were a suffix z of it smaller at a difference, so would its tail be beside d's; were it a prefix of w, its tail would be a
    -- prefix of d's, and so live, between d and c
    is_word_lem : Lyndon w
    is_word_lem = record { filled = omega (arith, size); least = λ p z hp hz e. least p z hp hz e (compared w z) }
      where
        least : (p z : List ℕ) → 0 < length p → 0 < length z → w ≡ p ++ z → Compare w z → Lt w z
        least p z hp hz e (equal f) = absurd (omega (arith, simp length-append at (ap length e), ap length f))
        least p z hp hz e (prefix r k f) = absurd (omega (arith, simp length-append at (ap length e), simp length-append at (ap length f)))
        least p z hp hz e (smaller f) = dif_lt w z f
        least p z hp hz e (greater f) =
            absurd (first (d + length p) (omega arith) (dif_at (within_w p z e) tail (dif_append z w (drop c s) (drop c s) f)))
        least p z hp hz e (extends r k f) = absurd (go (dif_none (drop c s) (r ++ drop c s) (simp length-append (omega arith)) low high))
          where
            i : ℕ
            i = d + length p

            at_d : drop d s ≡ z ++ (r ++ drop c s)
            at_d = at_w z r f

            low : Dif (drop c s) (r ++ drop c s) → ⊥
            low h = first i (omega arith) (dif_at (within_w p z e) at_d (dif_common z (drop c s) (r ++ drop c s) h))

            high : Dif (r ++ drop c s) (drop c s) → ⊥
            high h = best (d + length z) (omega arith) (dif_at (tail_of s d z (r ++ drop c s) at_d) refl h)

            go : Extends (drop c s) (r ++ drop c s) → ⊥
            go (q, g) = last i (omega arith) (omega (arith, size, simp length-append at (ap length e)))
                (λ j h l. first j h (subst (λ (x : List ℕ). Dif (drop j s) x) (sym whole) (dif_more (drop j s) (drop i s) q l)))
              where
                whole : drop d s ≡ drop i s ++ q
                whole = at_d ∙ ap (λ (x : List ℕ). z ++ x) g ∙ sym (append_assoc z (drop c s) q) ∙ ap (λ (x : List ℕ). x ++ q) (sym (within_w p z e))

    last_again : WordAgain s d c
    last_again = (is_lyndon w is_word_lem, begins_again.0, begins_again.1, begins_again.2)

-- a live cut is listed exactly when no earlier live cut is nearer than its tail is long
pub listed_apart : (s : List ℕ) (c : ℕ) → c < length s
    → is_listed s c ≡ true ↔ ((is_live s c ≡ true) × ((d : ℕ) → is_live s d ≡ true → d < c → length s - c ≤ c - d))
listed_apart s c h = (
  λ e. let (l, n) = (listed_test s c).0 e in (l, λ d k m. far (best l) n d k m),
  λ (l, a). (listed_test s c).1 (l, λ d z m g. near (best l) a d z m g),
)
  where
    best : is_live s c ≡ true → BestCut s c
    best l = (live_best s c (live_from s c l) h).0 l

    -- were a live cut nearer than the tail is long, so would be the last one before c
    far : BestCut s c → ((d : ℕ) → 0 < d → d < c → WordAgain s d c → ⊥) → (d : ℕ) → is_live s d ≡ true → d < c → length s - c ≤ c - d
    far b n d k m = split_le (length s - c) (c - d) (λ l. l) (λ l. absurd (go l (last_below (is_live s) c d m k)))
      where
        go : c - d < length s - c → (i : ℕ) × (d ≤ i) × (i < c) × (is_live s i ≡ true) × ((j : ℕ) → i < j → j < c → is_live s j ≡ false) → ⊥
        go l (i, x, y, p, r) =
            let z = live_from s i p in
            n i z y (last_again s i c z y h b (omega arith) ((live_best s i z (omega arith)).0 p)
            (λ j u v q. contra ((live_best s j (omega arith) (omega arith)).1 q) (r j u v)))

    -- a cut because of which c is dropped is live, and nearer than the tail is long
    near : BestCut s c → ((d : ℕ) → is_live s d ≡ true → d < c → length s - c ≤ c - d) → (d : ℕ) → 0 < d → d < c → WordAgain s d c → ⊥
    near b a d z m (e, y, n, f) =
        omega (
          arith,
          a d ((live_best s d z (omega arith)).1 (again_best s d c z m h b y f)) m,
          size s d c z m h b,
          simp (length-append, length-drop) at (ap length f),
        )

-- ---- how many are listed

-- of two listed cuts the earlier tail is at least twice as long
pub listed_twice : (p : List ℕ) (c c' : ℕ) → In c (listed_cuts p) → In c' (listed_cuts p) → c < c' → 2 * (length p - c') ≤ length p - c
unfolding listed_cuts
listed_twice p c c' m m' h =
    let (k, e) = below_lt (is_listed p) (length p) c m in
    let (k', e') = below_lt (is_listed p) (length p) c' m' in
    omega (arith, ((listed_apart p c' k').0 e').1 c ((listed_test p c).0 e).0 h)

-- 2 ^ k is the largest power of 2 up to m
abbrev pub Largest : ℕ → ℕ → Type 0
Largest m k = (2 ^ k ≤ m) × (m < 2 ^ suc k)

pub largest : (m k : ℕ) → Largest m k → (j : ℕ) → 2 ^ j ≤ m → j ≤ k
largest m k h j e = power_le m k j h.1 e

pub listed_most : (p : List ℕ) (k : ℕ) → length p < 2 ^ suc k → length (listed_cuts p) ≤ suc k
listed_most p k h = go (listed_cuts p) refl
  where
    go : (l : List ℕ) → listed_cuts p ≡ l → length (listed_cuts p) ≤ suc k
    go [] e = rw e (omega arith)
    go (c ∷ l) e = rw e (omega (arith, power_le (length p) k (length l) h (omega (arith, most))))
      where
        there : (i : ℕ) → In i (c ∷ l) → In i (listed_cuts p)
        there i m = subst (λ (x : List ℕ). In i x) (sym e) m

        most : 2 ^ length l ≤ length p - c
        most =
            rising_halves (length p) c l (subst Rising e (listed_rising p))
            (λ i m. (listed_live p i (there i m)).1)
            (λ i j m n. listed_twice p i j (there i m) (there j n))

pub listed_bound : (p : List ℕ) (k : ℕ) → Largest (length p) k → length (listed_cuts p) ≤ 1 + k
listed_bound p k h = omega (arith, listed_most p k h.1)

-- ---- at a join

-- under a standard factorization the cut of a straddling occurrence is listed: were it dropped because of d, u would end with the symbols from d
-- up to the cut, and be longer, and v begin with them, and be longer
pub straddle_listed : (p u v : List ℕ) (i : ℕ) → Std u v → (s : Straddle p u v i) → In (length s.front) (listed_cuts p)
straddle_listed p u v i std s = (listed_cut p (length s.front)).1 (straddle_live p u v i std s, λ d z m g. never d z m g)
  where
    never : (d : ℕ) → 0 < d → d < length s.front → WordAgain p d (length s.front) → ⊥
    never d z m (e, y, n, f) =
        std_again u v (s.before ++ take d s.front) (drop d s.front) (y ++ s.behind) std
        (s.left ∙ ap (λ (x : List ℕ). s.before ++ x) (sym (take-append-drop d s.front)) ∙ sym (append_assoc s.before (take d s.front) (drop d s.front)))
        (s.right ∙ ap (λ (x : List ℕ). x ++ s.behind) rest ∙ append_assoc (drop d s.front) y s.behind)
        (simp (length-append, length-take) (omega arith))
        (simp length-drop (omega arith))
        (simp length-append (omega arith))
      where
        word : stretch p d (length s.front) ≡ drop d s.front
        word =
            ap (λ (x : List ℕ). take (length s.front - d) (drop d x)) s.cut
            ∙ ap (take (length s.front - d)) (drop-append-le d s.front s.rest (omega arith))
            ∙ take_at (drop d s.front) s.rest (length s.front - d) (length-drop d s.front)

        rest : s.rest ≡ drop d s.front ++ y
        rest =
            sym (ap (drop (length s.front)) s.cut ∙ drop-append_seam s.front s.rest)
            ∙ f ∙ ap (λ (x : List ℕ). x ++ y) word
