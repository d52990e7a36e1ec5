-- The cut at a join: where the pattern stands across it at a cut, that is the one straddling occurrence (`join_hit`); where it does so at
-- no cut that is tried and whose front fits, there is none (`join_miss`). The cuts rise: behind one whose front is too long none fits (`sought_all`, `fitting_all`), and before
-- the first whose tail fits none does, behind it all (`fits_all`, `fit_end`).
use mathlib.Core.Path.{◌≡◌, refl, sym, ◌∙◌, ap, ap₂, subst}
use mathlib.Core.Bool.{Bool, true, false, cond, ◌&&◌}
use mathlib.Core.List.Memᴰ.{eq_of_singleton as in_one}
use mathlib.Core.List.Memᴰ.{not-nil as in-nil}
use mathlib.Core.List.{List, [], ◌∷◌, ◌++◌, Memᴰ as In}
use Prim.Native.Nat.{ℕ, zero, suc, ◌+◌, ◌-◌, ◌/◌, ◌%◌, ◌≤◌, ◌<◌, min}
use native.Mathlib.Omega.{arith}
use lib.ListN.{length, take, drop, get_or, length-append}
use lib.Dec.{leb, ltb}
use borrow.Author.Tests.{lt-ltb, le-leb, lt-leb, leb-true, eq-eqb, ne_eqb}
use Rattle.definitions.specs.Words.{same, begins}
use Rattle.definitions.specs.Occurrences.{listed_cuts, straddling, straddles, cut_at}
use Rattle.lists.specs.Bools.{contra, and_left, and_right, and_intro}
use Rattle.lists.specs.Numbers.{split_le, split_lt, below_in}
use Rattle.lists.specs.Members.{in_at, at_in, rising_at, in_none}
use Rattle.lists.specs.Parts.{part, part_at, part_length, part_append, part_cons, part_none, part_part}
use Rattle.lists.specs.Strings.{same_eq, eq_same}
use Rattle.lyndon.specs.Listed.{listed_rising}
use Rattle.lyndon.specs.Joins.{listed_suffice, straddling_cut, straddling_most, cut_at_lem}
use Rattle.lyndon.specs.Occurrences.{begins_at, at_begins}
use Rattle.lyndon.specs.Tests.{fitting, fitting_append, fitting_absent, fitting_one, front_unfit, tail_unfit, both_fit}
use Rattle.layout.specs.Layout.{PATTERN, CUTS, PACK, WORK}
use Rattle.joins.specs.Joining.{Tried, longest_tail, FitsFrom, cut_place, JoinCut, Packed}

-- ---- lists with at most one member

only_member : (l : List ℕ) (i : ℕ) → In i l → length l ≤ 1 → l ≡ i ∷ []
only_member [] i m h = absurd (in-nil m)
only_member (k ∷ []) i m h = ap (λ (j : ℕ). j ∷ []) (sym (in_one m))
only_member (k ∷ j ∷ l) i m h = absurd (omega arith)

cut_place_lem : (n c : ℕ) → 0 < c → cut_place n c ≡ (n - c) ∷ []
unfolding cut_place
cut_place_lem n zero h = absurd (omega arith)
cut_place_lem n (suc c) h = refl

pub cut_place_none : (n c : ℕ) → c ≡ 0 → cut_place n c ≡ []
unfolding cut_place
cut_place_none n c e = rw e

pub cut_place_size : (n c : ℕ) → length (cut_place n c) ≡ min 1 c
unfolding cut_place
cut_place_size n zero = refl
cut_place_size n (suc c) = omega arith

-- ---- the list of the cuts that are tried

-- of n cuts those from number i on, not from the first on, have tails that fit `right` symbols
abbrev pub FitBehind : List ℕ → ℕ → ℕ → ℕ → ℕ → Type 0
FitBehind w m n right i = (0 < i) × (i ≤ n) × ((j : ℕ) → i ≤ j → j < n → m - right ≤ get_or w (CUTS + j) 0)

module _ (w : List ℕ) (m n : ℕ) (t : Tried m n w) (long : WORK ≤ length w) where
  pattern_size : length (part PATTERN m w) ≡ m
  pattern_size = part_length PATTERN m w (omega (arith, t.short))

  -- cut number i
  entry : (i : ℕ) → i < n → get_or w (CUTS + i) 0 ≡ get_or (listed_cuts (part PATTERN m w)) i 0
  entry i h = sym (part_at CUTS n w i 0 h) ∙ ap (λ (l : List ℕ). get_or l i 0) t.cuts

  count : length (listed_cuts (part PATTERN m w)) ≡ n
  count = ap length (sym t.cuts) ∙ part_length CUTS n w (omega (arith, t.few))

  pub cut_range : (i : ℕ) → i < n → (0 < get_or w (CUTS + i) 0) × (get_or w (CUTS + i) 0 < m)
  cut_range i h =
      let P = part PATTERN m w in
      let (a, b) = (listed_suffice P).cut (get_or (listed_cuts P) i 0) (at_in (listed_cuts P) i (omega (arith, count))) in
      (omega (arith, entry i h), omega (arith, entry i h, pattern_size))

  cut_rises : (i j : ℕ) → i ≤ j → j < n → get_or w (CUTS + i) 0 ≤ get_or w (CUTS + j) 0
  cut_rises i j h k = split_lt i j
      (λ x. omega (arith, entry i (omega arith), entry j k, rising_at (listed_cuts (part PATTERN m w)) (listed_rising (part PATTERN m w)) i j x (omega (arith, count))))
      (λ x. subst (λ (d : ℕ). get_or w (CUTS + i) 0 ≤ get_or w (CUTS + d) 0) x (omega arith))
      (λ x. absurd (omega arith))

  -- the first cut has the longest tail
  first_cut : get_or w CUTS 0 ≡ get_or w (CUTS + 0) 0
  first_cut = ap (λ (i : ℕ). get_or w i 0) (omega arith)

  pub longest_first : 0 < n → longest_tail m n w ≡ m - get_or w CUTS 0
  unfolding longest_tail
  longest_first h = rw (ne_eqb n 0 (λ e. omega arith))

  pub longest_none : n ≡ 0 → longest_tail m n w ≡ 0
  unfolding longest_tail
  longest_none e = rw (eq-eqb n 0 e)

  pub first_range : 0 < n → get_or w CUTS 0 < m
  first_range h = omega (arith, first_cut, cut_range 0 h)

  -- ---- the first whose tail fits, sought from the end: those from number i on fit, and are not all
  module _ (right : ℕ) where
    pub fits_all : longest_tail m n w ≤ right → FitsFrom 0 m n right w
    fits_all h =
        record {
          most = omega arith;
          before = λ j l. absurd (omega arith);
          behind = λ j l k. omega (arith, longest_first (omega arith), first_cut, cut_rises 0 j (omega arith) k);
        }

    module _ (h : right < longest_tail m n w) where
      some : 0 < n
      some = split_lt 0 n (λ x. x) (λ x. absurd (omega (arith, longest_none (sym x)))) (λ x. absurd (omega arith))

      pub short_right : right < m
      short_right = omega (arith, longest_first some)

      pub fit_start : FitBehind w m n right n
      fit_start = (some, omega arith, λ j l k. absurd (omega arith))

      before_at : (i : ℕ) → 0 < i → get_or w (CUTS + i - 1) 0 ≡ get_or w (CUTS + (i - 1)) 0
      before_at i l = ap (λ (k : ℕ). get_or w k 0) (omega arith)

      first_at : (i : ℕ) → 1 ≡ i → get_or w (CUTS + i - 1) 0 ≡ get_or w CUTS 0
      first_at i e = ap (λ (k : ℕ). get_or w k 0) (omega arith)

      pub fit_more : (i : ℕ) → FitBehind w m n right i → m - right ≤ get_or w (CUTS + i - 1) 0 → FitBehind w m n right (i - 1)
      fit_more i (a, b, f) l = (
        split_lt 1 i
            (λ x. omega arith)
            (λ x. absurd (omega (arith, longest_first some, first_at i x)))
            (λ x. absurd (omega arith)),
        omega arith,
        λ j k r. split_lt (i - 1) j
            (λ x. f j (omega arith) r)
            (λ x. subst (λ (d : ℕ). m - right ≤ get_or w (CUTS + d) 0) x (rw (before_at i a) at l))
            (λ x. absurd (omega arith)),
      )

      pub fit_end : (i : ℕ) → FitBehind w m n right i → get_or w (CUTS + i - 1) 0 < m - right → FitsFrom i m n right w
      fit_end i (a, b, f) l =
          record {
            most = b;
            before = λ j k. omega (arith, before_at i a, cut_rises j (i - 1) (omega arith) (omega arith));
            behind = λ j k r. omega (arith, f j k r);
          }

-- ---- the cuts that are tried, one after the other

-- the pattern, m symbols, straddles at c the join of the `left` and `right` symbols that stand from `at` on, as the code tests it
abbrev pub tested : List ℕ → ℕ → ℕ → ℕ → ℕ → ℕ → Bool
tested w m at left right c = leb (m - c) right && same (part (at + left - c) m w) (part PATTERN m w)

-- so at none of the first i cuts
abbrev pub Missed : List ℕ → ℕ → ℕ → ℕ → ℕ → ℕ → Type 0
Missed w m at left right i = (j : ℕ) → j < i → tested w m at left right (get_or w (CUTS + j) 0) ≡ false

module _ (w : List ℕ) (m n at left right : ℕ) (t : Tried m n w) (fits : at + left + right ≤ 2048) (long : WORK ≤ length w) where
  abbrev P : List ℕ
  P = part PATTERN m w

  abbrev u : List ℕ
  u = part at left w

  abbrev v : List ℕ
  v = part (at + left) right w

  size : length (part PATTERN m w) ≡ m
  size = pattern_size w m n t long

  left_size : length (part at left w) ≡ left
  left_size = part_length at left w (omega arith)

  whole_size : length (part at left w ++ part (at + left) right w) ≡ left + right
  whole_size = length-append u v ∙ omega (arith, left_size, part_length (at + left) right w (omega arith))

  -- what stands across the join is a part of w
  taken : (i k : ℕ) → i + m ≤ left + right → k ≡ at + i → take (length (part PATTERN m w)) (drop i (part at left w ++ part (at + left) right w)) ≡ part k m w
  unfolding part
  taken i k h e =
      ap₂ {C = List ℕ} (λ a l. take a (drop i l)) size (sym (part_append at left right w))
      ∙ part_part at (left + right) i m w h
      ∙ ap (λ (j : ℕ). part j m w) (sym e)

  -- those before the first whose tail fits are passed over
  pub missed_first : (i : ℕ) → FitsFrom i m n right w → Missed w m at left right i
  missed_first i h j k = simp (lt-leb (m - get_or w (CUTS + j) 0) right (h.before j k))

  missed_more : (i : ℕ) → Missed w m at left right i → tested w m at left right (get_or w (CUTS + i) 0) ≡ false → Missed w m at left right (i + 1)
  missed_more i h e j k = split_lt j i (λ l. h j l) (λ q. subst (λ (d : ℕ). tested w m at left right (get_or w (CUTS + d) 0) ≡ false) (sym q) e) (λ l. absurd (omega arith))

  -- so at none that is tried and whose front fits
  abbrev NoneFits : Type 0
  NoneFits = (d : ℕ) → In d (listed_cuts (part PATTERN m w)) → d ≤ left → tested w m at left right d ≡ false

  -- once the next one's front is too long
  missed_rest : (i : ℕ) → left < get_or w (CUTS + i) 0 → Missed w m at left right i → NoneFits
  missed_rest i l h d k f =
      let (j, a, e) = in_at d (listed_cuts P) k in
      let b : j < n = omega (arith, count w m n t long) in
      let q : get_or w (CUTS + j) 0 ≡ d = entry w m n t long j b ∙ e in
      split_le i j (λ x. absurd (omega (arith, cut_rises w m n t long i j x b))) (λ x. subst (λ (c : ℕ). tested w m at left right c ≡ false) q (h j x))

  join_hit : (c : ℕ) → 0 < c → c < m → c ≤ left → tested w m at left right c ≡ true → JoinCut (part PATTERN m w) (part at left w) (part (at + left) right w) c
  unfolding straddling straddles
  join_hit c z k l e =
      record {
        small = omega (arith, size);
        inside = omega (arith, left_size);
        place = λ d. only_member (straddling P u v) (left - c) inside (straddling_most P u v d) ∙ ap (λ (i : ℕ). (i - c) ∷ []) (sym left_size) ∙ sym (cut_place_lem (length u) c z);
      }
    where
      fit : m - c ≤ right
      fit = leb-true (m - c) right (and_left (leb (m - c) right) (same (part (at + left - c) m w) P) e)

      here_begins : begins (part PATTERN m w) (drop (left - c) (part at left w ++ part (at + left) right w)) ≡ true
      here_begins =
          at_begins P (u ++ v) (left - c)
          (omega (arith, fit, whole_size, size), taken (left - c) (at + left - c) (omega (arith, fit)) (omega arith) ∙ same_eq (part (at + left - c) m w) P (and_right (leb (m - c) right) (same (part (at + left - c) m w) P) e))

      inside : In (left - c) (straddling (part PATTERN m w) (part at left w) (part (at + left) right w))
      inside =
          below_in (λ i. begins P (drop i (u ++ v)) && (ltb i (length u) && ltb (length u) (i + length P))) (suc (length (u ++ v))) (left - c) (omega (arith, whole_size))
          (and_intro (begins P (drop (left - c) (u ++ v))) (ltb (left - c) (length u) && ltb (length u) (left - c + length P)) here_begins
          (and_intro (ltb (left - c) (length u)) (ltb (length u) (left - c + length P)) (lt-ltb (left - c) (length u) (omega (arith, left_size))) (lt-ltb (length u) (left - c + length P) (omega (arith, left_size, size)))))

  join_miss : NoneFits → JoinCut (part PATTERN m w) (part at left w) (part (at + left) right w) 0
  join_miss h =
      record {
        small = omega (arith, size, t.filled);
        inside = omega arith;
        place = λ d. straddling_cut P (listed_cuts P) u v (listed_suffice P) d ∙ in_none (cut_at P (listed_cuts P) u v) none ∙ sym (cut_place_none (length u) 0 refl);
      }
    where
      none : (i : ℕ) → In i (cut_at (part PATTERN m w) (listed_cuts (part PATTERN m w)) (part at left w) (part (at + left) right w)) → ⊥
      none i k =
          let (d, a, e, b) = cut_at_lem P (listed_cuts P) u v i k in
          let (l, q) = begins_at P (u ++ v) i (omega (arith, whole_size, left_size)) b in
          contra
          (and_intro (leb (m - d) right) (same (part (at + left - d) m w) P)
          (le-leb (m - d) right (omega (arith, whole_size, left_size, size)))
          (eq_same (part (at + left - d) m w) P (sym (taken i (at + left - d) (omega (arith, whole_size, size)) (omega (arith, left_size))) ∙ q)))
          (h d a (omega (arith, left_size)))

  -- a pattern of one symbol has no cut
  pub join_one : m < 2 → JoinCut (part PATTERN m w) (part at left w) (part (at + left) right w) 0
  join_one h = join_miss (λ d k l. absurd (omega (arith, size, (listed_suffice P).cut d k)))

-- ---- what is found, cut after cut

-- nothing is found at the first i cuts, or what is found is the occurrence across the join
pub data Sought (w : List ℕ) (m at left right i x : ℕ) : Type 0 where
  nowhere : x ≡ 0 → Missed w m at left right i → Sought w m at left right i x
  here : Packed (part PATTERN m w) (part at left w) (part (at + left) right w) x → Sought w m at left right i x

module _ (w : List ℕ) (m n at left right : ℕ) (t : Tried m n w) (fits : at + left + right ≤ 2048) (long : WORK ≤ length w) where
  packed_miss : (x : ℕ) → x ≡ 0 → JoinCut (part PATTERN m w) (part at left w) (part (at + left) right w) 0
      → Packed (part PATTERN m w) (part at left w) (part (at + left) right w) x
  packed_miss x e j =
      let a : x % PACK ≡ 0 = omega arith in
      let b : x / PACK ≡ 0 = omega arith in
      record { cut = subst (JoinCut (part PATTERN m w) (part at left w) (part (at + left) right w)) (sym a) j; number = omega arith }

  packed_hit : (c : ℕ) → 0 < c → c < m → JoinCut (part PATTERN m w) (part at left w) (part (at + left) right w) c
      → Packed (part PATTERN m w) (part at left w) (part (at + left) right w) (PACK + c)
  packed_hit c z h j =
      let a : (PACK + c) % PACK ≡ c = omega (arith, t.short) in
      let b : (PACK + c) / PACK ≡ 1 = omega (arith, t.short) in
      record { cut = subst (JoinCut (part PATTERN m w) (part at left w) (part (at + left) right w)) (sym a) j; number = b ∙ omega (arith, a) }

  -- the cut c, number i, is tested, and both parts fit
  pub sought_more : (i c x y : ℕ) → i < n → c ≡ get_or w (CUTS + i) 0 → c ≤ left → m - c ≤ right → Sought w m at left right i x
      → y ≡ cond (same (part (at + left - c) m w) (part PATTERN m w)) (PACK + c) x → Sought w m at left right (i + 1) y
  sought_more i c x y l e f k s q = go (same (part (at + left - c) m w) (part PATTERN m w)) refl s
    where
      fit : (b : Bool) → same (part (at + left - c) m w) (part PATTERN m w) ≡ b → tested w m at left right c ≡ b
      fit b d = rw (le-leb (m - c) right k) d

      go : (b : Bool) → same (part (at + left - c) m w) (part PATTERN m w) ≡ b → Sought w m at left right i x → Sought w m at left right (i + 1) y
      go true d z =
          let (a, b) = cut_range w m n t long i l in
          let p : y ≡ PACK + c = rw d at q in
          here
          (subst (Packed (part PATTERN m w) (part at left w) (part (at + left) right w)) (sym p)
          (packed_hit c (omega arith) (omega arith) (join_hit w m n at left right t fits long c (omega arith) (omega arith) f (fit true d))))
      go false d (nowhere o h) =
          let p : y ≡ x = rw d at q in
          nowhere (p ∙ o) (missed_more w m n at left right t fits long i h (subst (λ (z : ℕ). tested w m at left right z ≡ false) e (fit false d)))
      go false d (here h) =
          let p : y ≡ x = rw d at q in
          here (subst (Packed (part PATTERN m w) (part at left w) (part (at + left) right w)) (sym p) h)

  -- the front of the next one is too long
  pub sought_all : (i x : ℕ) → left < get_or w (CUTS + i) 0 → Sought w m at left right i x → Packed (part PATTERN m w) (part at left w) (part (at + left) right w) x
  sought_all i x l (nowhere o h) = packed_miss x o (join_miss w m n at left right t fits long (missed_rest w m n at left right t fits long i l h))
  sought_all i x l (here h) = h

  -- NO_CUT is longer than every front
  pub cut_inside : (i : ℕ) → i ≤ n → get_or w (CUTS + i) 0 ≤ left → i < n
  cut_inside i h l = split_lt i n (λ x. x) (λ x. absurd (omega (arith, t.end, ap (λ (k : ℕ). get_or w (CUTS + k) 0) x))) (λ x. absurd (omega arith))

  -- ---- how many of the first i cuts fit
  pub fitting_start : (i : ℕ) → FitsFrom i m n right w → fitting m left right (part CUTS i w) ≡ 0
  fitting_start i h =
      fitting_absent m left right (part CUTS i w)
      (λ j k. let l : j < i = omega (arith, part_length CUTS i w (omega (arith, h.most, t.few))) in
      tail_unfit m left right (get_or (part CUTS i w) j 0) (omega (arith, part_at CUTS i w j 0 l, h.before j l)))

  pub fitting_more : (i : ℕ) → i < n → get_or w (CUTS + i) 0 ≤ left → m - get_or w (CUTS + i) 0 ≤ right
      → fitting m left right (part CUTS (i + 1) w) ≡ fitting m left right (part CUTS i w) + 1
  fitting_more i l f k =
      ap (fitting m left right) (part_append CUTS i 1 w ∙ ap (λ (x : List ℕ). part CUTS i w ++ x) (part_cons (CUTS + i) 0 w 0 (omega (arith, t.few)) ∙ ap (λ (x : List ℕ). get_or w (CUTS + i) 0 ∷ x) (part_none (suc (CUTS + i)) w)))
      ∙ fitting_append m left right (part CUTS i w) (get_or w (CUTS + i) 0 ∷ [])
      ∙ ap (λ (k : ℕ). fitting m left right (part CUTS i w) + k) (fitting_one m left right (get_or w (CUTS + i) 0) (both_fit m left right (get_or w (CUTS + i) 0) f k))

  pub fitting_all : (i : ℕ) → i ≤ n → left < get_or w (CUTS + i) 0 → fitting m left right (part CUTS n w) ≡ fitting m left right (part CUTS i w)
  fitting_all i h l =
      let e : i + (n - i) ≡ n = omega arith in
      let rest = part (CUTS + i) (n - i) w in
      let size : length rest ≡ n - i = part_length (CUTS + i) (n - i) w (omega (arith, t.few)) in
      let none = fitting_absent m left right rest
      (λ j k. let b : j < n - i = omega arith in
      let q : get_or w (CUTS + i + j) 0 ≡ get_or w (CUTS + (i + j)) 0 = ap (λ (x : ℕ). get_or w x 0) (omega arith) in
      front_unfit m left right (get_or rest j 0) (omega (arith, part_at (CUTS + i) (n - i) w j 0 b, q, cut_rises w m n t long i (i + j) (omega arith) (omega arith)))) in
      ap (λ (k : ℕ). fitting m left right (part CUTS k w)) (sym e)
      ∙ ap (fitting m left right) (part_append CUTS i (n - i) w)
      ∙ fitting_append m left right (part CUTS i w) rest
      ∙ omega (arith, none)
