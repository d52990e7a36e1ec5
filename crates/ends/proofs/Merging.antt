-- One place of the right-to-left pass. While the tree t from i up to j stands before the forest from j on, merging the two gives the
-- forest from i on (`Merging`). A smaller t is joined with the next tree, which adds one closing (`joins`); otherwise it is the first tree
-- of the forest from i on (`stops`).
use mathlib.Core.Path.{◌≡◌, refl, sym, ◌∙◌, ap, ap₂, subst}
use mathlib.Core.Bool.{true, false}
use mathlib.Core.List.{List, [], ◌∷◌, ◌++◌, append_assoc}
use Prim.Native.Nat.{ℕ, zero, suc, ◌+◌, ◌-◌, ◌≤◌, ◌<◌}
use native.Mathlib.Omega.{arith}
use native.Mathlib.Nat.{zero-add, suc-add}
use native.Mathlib.Numerals.{add-one}
use lib.ListN.{length, drop, get_or, set, length-append, length-drop, drop_of_length-le}
use lib.Seq.{drop-cons, drop-drop, drop-append_seam}
use Rattle.definitions.specs.Words.{lexlt}
use Rattle.definitions.specs.Grammar.{Tree, leaf, node, word}
use Rattle.lists.specs.Parts.{part, part_at, part_set, part_set_behind, part_cons, part_part, part_front}
use Rattle.lyndon.specs.Trees.{word_filled}
use Rattle.lyndon.specs.Forest.{merge, forest, merge_true, merge_false, spells, forest_spells, forest_rest, first_length, longest, longests}
use Rattle.lyndon.specs.Closings.{closings, closings_of, bump, sum, closings_length, merge_closings, forest_sum}
use Rattle.layout.specs.Layout.{LONGEST, CLOSINGS, WORK}
use Rattle.ends.specs.Areas.{Ended, Merged}

-- the word at i reaches to j and has the tree t; what stands behind i is done, and the closings are those of t and of what stands behind it
pub record Merging (s : List ℕ) (i j : ℕ) (t : Tree) (w : List ℕ) : Type 0 where
  pub low : i < j
  pub high : j ≤ length s
  pub text : part 0 (length s) w ≡ s
  pub first : part (LONGEST + suc i) (length s - suc i) w ≡ longests (drop (suc i) s)
  pub size : i + length (word t) ≡ j
  pub spelled : drop i s ≡ word t ++ drop j s
  pub merged : forest (drop i s) ≡ merge t (forest (drop j s))
  pub close : part (CLOSINGS + i) (length s - i) w ≡ closings 0 t ++ closings_of (forest (drop j s))

-- ---- lengths at places

longests_at : (s : List ℕ) (i : ℕ) → i < length s → get_or (longests s) i 0 ≡ longest (drop i s)
unfolding longests
longests_at [] i h = absurd (omega arith)
longests_at (a ∷ s) zero h = refl
longests_at (a ∷ s) (suc i) h = longests_at s i (omega arith)

-- ---- the beginning: the symbol at i alone

pub starts : (s : List ℕ) (i : ℕ) (w : List ℕ) → i < length s → CLOSINGS + length s ≤ length w → Ended s (suc i) w → get_or w (CLOSINGS + i) 0 ≡ 0
    → Merging s i (i + 1) (leaf (get_or s i 0)) w
unfolding word forest closings
starts s i w h k e z =
    record {
      low = omega arith;
      high = omega arith;
      text = e.text;
      first = e.first;
      size = refl;
      spelled = rw add-one (drop-cons s i 0 h);
      merged = rw add-one (ap forest (drop-cons s i 0 h));
      close = rw add-one
          (ap (λ (n : ℕ). part (CLOSINGS + i) n w) one_more
          ∙ part_cons (CLOSINGS + i) (length s - suc i) w 0 (omega arith)
          ∙ ap₂ {C = List ℕ} (λ x l. x ∷ l) z (ap (λ (n : ℕ). part n (length s - suc i) w) next ∙ e.close));
    }
  where
    one_more : length s - i ≡ suc (length s - suc i)
    one_more = omega arith

    next : suc (CLOSINGS + i) ≡ CLOSINGS + suc i
    next = omega arith

-- no entry is above the sum
at_most_sum : (l : List ℕ) (i : ℕ) → get_or l i 0 ≤ sum l
unfolding sum
at_most_sum [] i = omega arith
at_most_sum (n ∷ l) zero = omega arith
at_most_sum (n ∷ l) (suc i) = omega (arith, at_most_sum l i)

-- ---- the next tree

-- r is the tree of the next word, which begins at j
pub record Next (s : List ℕ) (i j : ℕ) (t r : Tree) (w : List ℕ) : Type 0 where
  pub ahead : forest (drop j s) ≡ r ∷ forest (drop (j + length (word r)) s)
  pub stored : get_or w (LONGEST + j) 0 ≡ length (word r)
  pub filled : 0 < length (word r)
  pub inside : j + length (word r) ≤ length s
  pub left : part i (j - i) w ≡ word t
  pub right : part j (length (word r)) w ≡ word r
  pub rest : drop j s ≡ word r ++ drop (j + length (word r)) s

pub next : (s : List ℕ) (i j : ℕ) (t : Tree) (w : List ℕ) → length s ≤ 2048 → 4096 ≤ length w → Merging s i j t w → j < length s → (r : Tree) × Next s i j t r w
unfolding longest first_length spells
next s i j t w short long m h = go (forest (drop j s)) refl
  where
    -- a part of the text area is a part of the text
    text_part : (o n : ℕ) → o + n ≤ length s → part o n w ≡ part o n s
    text_part o n l =
        ap (λ (k : ℕ). part k n w) (sym (zero-add o)) ∙ sym (part_part 0 (length s) o n w l) ∙ ap (part o n) m.text

    go : (f : List Tree) → forest (drop j s) ≡ f → (r : Tree) × Next s i j t r w
    go [] e =
        absurd (omega (arith, simp length-drop at (ap length (sym (forest_spells (drop j s)) ∙ ap spells e))))
    go (r ∷ f) e = (r, record { ahead = ahead; stored = stored; filled = word_filled r; inside = inside; left = left; right = right; rest = rest })
      where
        spelled : word r ++ spells f ≡ drop j s
        spelled = ap spells (sym e) ∙ forest_spells (drop j s)

        inside : j + length (word r) ≤ length s
        inside = omega (arith, simp (length-append, length-drop) at (ap length spelled))

        behind : drop (length (word r)) (drop j s) ≡ drop (j + length (word r)) s
        behind = drop-drop (length (word r)) j s

        rest : drop j s ≡ word r ++ drop (j + length (word r)) s
        rest =
            sym spelled
            ∙ ap (λ (x : List ℕ). word r ++ x) (sym (drop-append_seam (word r) (spells f)) ∙ ap (drop (length (word r))) spelled ∙ behind)

        ahead : forest (drop j s) ≡ r ∷ forest (drop (j + length (word r)) s)
        ahead = e ∙ ap {B = List Tree} (λ x. r ∷ x) (sym (forest_rest (drop j s) r f e) ∙ ap forest behind)

        stored : get_or w (LONGEST + j) 0 ≡ length (word r)
        stored =
            ap (λ (k : ℕ). get_or w k 0) place
            ∙ sym (part_at (LONGEST + suc i) (length s - suc i) w (j - suc i) 0 (omega (arith, m.low)))
            ∙ ap (λ (l : List ℕ). get_or l (j - suc i) 0) m.first
            ∙ longests_at (drop (suc i) s) (j - suc i) (simp length-drop (omega (arith, m.low)))
            ∙ ap longest (drop-drop (j - suc i) (suc i) s ∙ ap (λ (k : ℕ). drop k s) back)
            ∙ ap first_length e
          where
            place : LONGEST + j ≡ LONGEST + suc i + (j - suc i)
            place = omega (arith, m.low)

            back : suc i + (j - suc i) ≡ j
            back = omega (arith, m.low)

        left : part i (j - i) w ≡ word t
        left =
            text_part i (j - i) (omega (arith, m.low, m.high))
            ∙ part_front i (j - i) s (word t) (drop j s) m.spelled (omega (arith, m.size))

        right : part j (length (word r)) w ≡ word r
        right = text_part j (length (word r)) inside ∙ part_front j (length (word r)) s (word r) (drop (j + length (word r)) s) rest refl

-- ---- t is smaller: it is joined with the next tree

-- one more behind the last symbol of the second of three lists is a store
bump_set : (l m : List ℕ) → 0 < length l → bump l ++ m ≡ set (l ++ m) (length l - 1) (get_or (l ++ m) (length l - 1) 0 + 1)
unfolding bump
bump_set [] m h = absurd (omega arith)
bump_set (n ∷ []) m h = ap {B = List ℕ} (λ x. x ∷ m) (sym (add-one n))
bump_set (n ∷ k ∷ l) m h = rw back (ap {B = List ℕ} (λ x. n ∷ x) (bump_set (k ∷ l) m (omega arith)))
  where
    back : suc (suc (length l)) - 1 ≡ suc (suc (length l) - 1)
    back = omega arith

-- the same behind a list a
bump_behind : (a l m : List ℕ) → 0 < length l
    → a ++ (bump l ++ m) ≡ set (a ++ (l ++ m)) (length a + (length l - 1)) (get_or (a ++ (l ++ m)) (length a + (length l - 1)) 0 + 1)
bump_behind [] l m h = rw zero-add (bump_set l m h)
bump_behind (n ∷ a) l m h = rw suc-add (ap {B = List ℕ} (λ x. n ∷ x) (bump_behind a l m h))

module _ (s : List ℕ) (i j : ℕ) (t r : Tree) (w : List ℕ) (short : length s ≤ 2048) (long : WORK ≤ length w) (m : Merging s i j t w) (x : Next s i j t r w) where
  abbrev pub k : ℕ
  k = length (word r)

  abbrev f : List Tree
  f = forest (drop (j + k) s)

  -- where the join closes, within the closings from i on
  abbrev at : ℕ
  at = length (closings 0 t) + (length (closings 0 r) - 1)

  old : part (CLOSINGS + i) (length s - i) w ≡ closings 0 t ++ (closings 0 r ++ closings_of f)
  unfolding closings_of
  old = m.close ∙ ap (λ (y : List Tree). closings 0 t ++ closings_of y) x.ahead

  at_is : CLOSINGS + i + at ≡ CLOSINGS + j + k - 1
  at_is = omega (arith, closings_length 0 t, closings_length 0 r, m.size, x.filled)

  inside : at < length s - i
  inside = omega (arith, closings_length 0 t, closings_length 0 r, m.size, m.low, x.filled, x.inside)

  -- no count is large
  pub closing_small : get_or w (CLOSINGS + j + k - 1) 0 < 4096
  unfolding spells closings_of
  closing_small =
      subst (λ (q : ℕ). get_or w q 0 < 4096) at_is
      (subst (λ (q : ℕ). q < 4096) (part_at (CLOSINGS + i) (length s - i) w at 0 inside)
      (subst (λ (l : List ℕ). get_or l at 0 < 4096) (sym m.close) small))
    where
      all : List Tree
      all = t ∷ forest (drop j s)

      symbols : length (spells all) ≡ length s - i
      symbols = ap length (ap (λ (y : List ℕ). word t ++ y) (forest_spells (drop j s)) ∙ sym m.spelled) ∙ length-drop i s

      small : get_or (closings_of all) at 0 < 4096
      small = omega (arith, at_most_sum (closings_of all) at, forest_sum all, symbols)

  -- the text, the lengths and the closings once one is added
  pub joins : lexlt (word t) (word r) ≡ true → Merging s i (j + k) (node t r) (set w (CLOSINGS + j + k - 1) (get_or w (CLOSINGS + j + k - 1) 0 + 1))
  unfolding word
  joins e =
      record {
        low = omega (arith, m.low);
        high = x.inside;
        text = part_set_behind 0 (length s) w (CLOSINGS + j + k - 1) v (omega (arith, x.filled)) ∙ m.text;
        first = part_set_behind (LONGEST + suc i) (length s - suc i) w (CLOSINGS + j + k - 1) v (omega (arith, x.filled, m.low)) ∙ m.first;
        size = simp length-append (omega (arith, m.size));
        spelled = m.spelled ∙ ap (λ (y : List ℕ). word t ++ y) x.rest ∙ sym (append_assoc (word t) (word r) (drop (j + k) s));
        merged = m.merged ∙ ap (merge t) x.ahead ∙ merge_true t r f e;
        close = close;
      }
    where
      v : ℕ
      v = get_or w (CLOSINGS + j + k - 1) 0 + 1

      value : v ≡ get_or (closings 0 t ++ (closings 0 r ++ closings_of f)) at 0 + 1
      value =
          ap (λ (q : ℕ). get_or w q 0 + 1) (sym at_is)
          ∙ ap (λ (q : ℕ). q + 1) (sym (part_at (CLOSINGS + i) (length s - i) w at 0 inside))
          ∙ ap (λ (l : List ℕ). get_or l at 0 + 1) old

      close : part (CLOSINGS + i) (length s - i) (set w (CLOSINGS + j + k - 1) v) ≡ closings 0 (node t r) ++ closings_of f
      close =
          ap (λ (q : ℕ). part (CLOSINGS + i) (length s - i) (set w q v)) (sym at_is)
          ∙ part_set (CLOSINGS + i) (length s - i) w at v inside
          ∙ ap₂ {C = List ℕ} (λ l y. set l at y) old value
          ∙ sym (bump_behind (closings 0 t) (closings 0 r) (closings_of f) (omega (arith, closings_length 0 r, x.filled)))
          ∙ sym (append_assoc (closings 0 t) (bump (closings 0 r)) (closings_of f))
          ∙ ap (λ (l : List ℕ). l ++ closings_of f) (sym (merge_closings t r))

  pub stops : lexlt (word t) (word r) ≡ false → forest (drop i s) ≡ t ∷ forest (drop j s)
  stops e = m.merged ∙ ap (merge t) x.ahead ∙ merge_false t r f e ∙ ap {B = List Tree} (λ y. t ∷ y) (sym x.ahead)

-- nothing is left behind t
pub stops_at_end : (s : List ℕ) (i j : ℕ) (t : Tree) (w : List ℕ) → Merging s i j t w → length s ≤ j → forest (drop i s) ≡ t ∷ forest (drop j s)
unfolding merge forest
stops_at_end s i j t w m h = m.merged ∙ rw (drop_of_length-le s h)

-- ---- the end: t is the first tree of the forest from i on

pub ends_at : (s : List ℕ) (i j : ℕ) (t : Tree) (w : List ℕ) → Merging s i j t w → forest (drop i s) ≡ t ∷ forest (drop j s)
    → (j ≡ i + longest (drop i s)) × (j ≤ length s) × Merged s i w
unfolding longest first_length closings_of
ends_at s i j t w m e = (
  sym m.size ∙ ap (λ (n : ℕ). i + n) (sym (ap first_length e)),
  m.high,
  record { text = m.text; first = m.first; close = m.close ∙ sym (ap closings_of e) },
)
