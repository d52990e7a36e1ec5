-- A run stands among the runs of a text exactly where it begins somewhere in it (`found_stands`), so the runs that are left from a place on are one fewer behind
-- it where the run there begins nowhere behind it, and else as many (`next_later`, `next_counted`), and the places counted are as many (`counted_from`).
use mathlib.Core.Path.{◌≡◌, refl, sym, ◌∙◌, ap, ap₂, subst}
use mathlib.Core.Bool.{Bool, true, false, cond, not, ◌||◌, false≢true}
use mathlib.Core.Logic.{⊎_elim}
use mathlib.Core.List.Memᴰ.{tail as there}
use mathlib.Core.List.{List, [], ◌∷◌, ◌++◌, map, Memᴰ as In}
use Prim.Native.Nat.{ℕ, zero, suc, ◌+◌, ◌-◌, ◌≤◌, ◌<◌}
use native.Mathlib.Omega.{arith}
use native.Mathlib.Numerals.{add-one}
use lib.ListN.{length, take, drop, get_or, length-map, length-take, length-drop}
use lib.Seq.{drop-cons}
use lib.Dec.{ltb}
use borrow.Author.Tests.{lt-ltb}
use Rattle.std.specs.List.{filter, range_with_len}
use Rattle.definitions.specs.declared.Order.{Order}
use Rattle.definitions.specs.Words.{below, same, begins}
use Rattle.definitions.specs.Occurrences.{occurrences}
use Rattle.definitions.specs.Census.{runs_of, distinct, census_runs}
use Rattle.lists.specs.Bools.{bool_ext, or_cases, cond_true, cond_false}
use Rattle.lists.specs.Numbers.{split_le, below_shift}
use Rattle.lists.specs.Strings.{same_eq, eq_same, front_begins}
use Rattle.lists.specs.Members.{in_take, in_drop}
use Rattle.lyndon.specs.Ranks.{Bytes}
use Rattle.lyndon.specs.Occurrences.{longer_nowhere, occurrences_first}
use Rattle.naive_census.proofs.Distinct.{stands, AllBytes, distinct_more}

-- ---- the runs of a text, from its first position on

runs_none : (q : ℕ) (s : List ℕ) → length s < q → runs_of q s ≡ []
unfolding runs_of below
runs_none q s h =
    let none : suc (length s) - q ≡ 0 = omega arith in
    ap (λ (n : ℕ). map (λ i. take q (drop i s)) (below (λ i. true) n)) none

runs_more : (q a : ℕ) (s : List ℕ) → q ≤ suc (length s) → runs_of q (a ∷ s) ≡ take q (a ∷ s) ∷ runs_of q s
unfolding runs_of
runs_more q a s h =
    let one : suc (suc (length s)) - q ≡ suc (suc (length s) - q) = omega arith in
    ap (λ (n : ℕ). map (λ i. take q (drop i (a ∷ s))) (below (λ i. true) n)) one
    ∙ ap (map (λ i. take q (drop i (a ∷ s)))) (below_shift (λ i. true) (suc (length s) - q))
    ∙ ap (λ (l : List (List ℕ)). take q (a ∷ s) ∷ l) (shifted (below (λ i. true) (suc (length s) - q)))
  where
    shifted : (l : List ℕ) → map (λ i. take q (drop i (a ∷ s))) (map suc l) ≡ map (λ i. take q (drop i s)) l
    shifted [] = refl
    shifted (i ∷ l) = ap (λ (m : List (List ℕ)). take q (drop i s) ∷ m) (shifted l)

runs_bytes : (q : ℕ) (s : List ℕ) → 0 < q → Bytes s → AllBytes (runs_of q s)
unfolding stands
runs_bytes q [] h b x e = absurd (false≢true (sym (ap (stands x) (runs_none q [] h)) ∙ e))
runs_bytes q (a ∷ s) h b x e =
    split_le q (suc (length s)) (first (runs_bytes q s h (λ c m. b c (there m))))
    (λ l. absurd (false≢true (sym (ap (stands x) (runs_none q (a ∷ s) l)) ∙ e)))
  where
    first : AllBytes (runs_of q s) → q ≤ suc (length s) → Bytes x
    first ih l = ⊎_elim
        (λ d c m. b c (in_take q (a ∷ s) c (subst (λ (y : List ℕ). In c y) (same_eq x (take q (a ∷ s)) d) m)))
        (λ d. ih x d)
        (or_cases (same x (take q (a ∷ s))) (stands x (runs_of q s)) (sym (ap (stands x) (runs_more q a s l)) ∙ e))

-- ---- a run that begins somewhere

module _ (x : List ℕ) (q : ℕ) (size : length x ≡ q) (some : 0 < q) where
  front : (s : List ℕ) → q ≤ length s → begins x s ≡ same x (take q s)
  front s h =
      sym (front_begins x s (omega arith))
      ∙ ap (λ (n : ℕ). same (take n s) x) size
      ∙ bool_ext (same (take q s) x) (same x (take q s)) (λ e. eq_same x (take q s) (sym (same_eq (take q s) x e))) (λ e. eq_same (take q s) x (sym (same_eq x (take q s) e)))

  nowhere : (s : List ℕ) → length s < q → ltb 0 (length (occurrences x s)) ≡ stands x (runs_of q s)
  unfolding stands
  nowhere s h = ap (λ (l : List ℕ). ltb 0 (length l)) (longer_nowhere x s (omega arith)) ∙ sym (ap (stands x) (runs_none q s h))

  found_stands : (s : List ℕ) → ltb 0 (length (occurrences x s)) ≡ stands x (runs_of q s)
  unfolding stands
  found_stands [] = nowhere [] (omega arith)
  found_stands (a ∷ s) = split_le q (suc (length s)) (first (found_stands s)) (nowhere (a ∷ s))
    where
      some_of : (b : Bool) (l : List ℕ) → ltb 0 (length (cond b (0 ∷ []) [] ++ map suc l)) ≡ b || ltb 0 (length l)
      some_of true l = lt-ltb 0 (suc (length (map suc l))) (omega arith)
      some_of false l = ap (ltb 0) (length-map l suc)

      first : ltb 0 (length (occurrences x s)) ≡ stands x (runs_of q s) → q ≤ suc (length s) → ltb 0 (length (occurrences x (a ∷ s))) ≡ stands x (runs_of q (a ∷ s))
      first ih h =
          ap (λ (l : List ℕ). ltb 0 (length l)) (occurrences_first x (a ∷ s) (omega arith))
          ∙ some_of (begins x (a ∷ s)) (occurrences x s)
          ∙ ap₂ {C = Bool} (λ b c. b || c) (front (a ∷ s) h) ih
          ∙ sym (ap (stands x) (runs_more q a s h))

-- ---- the runs that are left from a place on

-- how many distinct ones there are
unfoldable pub left : Order → ℕ → List ℕ → ℕ → ℕ
left o q text i = length (distinct o (runs_of q (drop i text)))

module _ (o : Order) (q : ℕ) (text : List ℕ) where
  pub left_all : left o q text 0 ≡ length (census_runs o q text)
  unfolding left census_runs
  left_all = refl

  pub left_none : (i : ℕ) → length text - i < q → left o q text i ≡ 0
  unfolding left distinct
  left_none i h = ap (λ (l : List (List ℕ)). length (distinct o l)) (runs_none q (drop i text) (omega (arith, length-drop i text)))

  module _ (i : ℕ) (some : 0 < q) (h : i + q ≤ length text) (bytes : Bytes text) (b : Bool)
      (e : b ≡ ltb 0 (length (occurrences (take q (drop i text)) (drop (i + 1) text)))) where
    next : left o q text i ≡ cond b (left o q text (i + 1)) (suc (left o q text (i + 1)))
    unfolding left
    next =
        let x = take q (drop i text) in
        let rest = drop (i + 1) text in
        let size : length x ≡ q = length-take q (drop i text) ∙ omega (arith, length-drop i text) in
        let here : drop i text ≡ get_or text i 0 ∷ rest = drop-cons text i 0 (omega arith) ∙ ap (λ (k : ℕ). get_or text i 0 ∷ drop k text) (sym (add-one i)) in
        let runs : runs_of q (drop i text) ≡ x ∷ runs_of q rest =
        ap (runs_of q) here ∙ runs_more q (get_or text i 0) rest (omega (arith, length-drop (i + 1) text)) ∙ ap (λ (y : List ℕ). take q y ∷ runs_of q rest) (sym here) in
        ap (λ (l : List (List ℕ)). length (distinct o l)) runs
        ∙ distinct_more o x (runs_of q rest) (runs_bytes q rest some (λ c m. bytes c (in_drop (i + 1) text c m)))
        ∙ ap (λ (c : Bool). cond c (length (distinct o (runs_of q rest))) (suc (length (distinct o (runs_of q rest))))) (sym (e ∙ found_stands x q size some rest))

    pub next_later : b ≡ true → left o q text i ≡ left o q text (i + 1)
    next_later f = next ∙ cond_true b (left o q text (i + 1)) (suc (left o q text (i + 1))) f

    pub next_counted : b ≡ false → left o q text i ≡ suc (left o q text (i + 1))
    next_counted f = next ∙ cond_false b (left o q text (i + 1)) (suc (left o q text (i + 1))) f

-- ---- the places counted

-- the test of a place as code makes it: the run there stands at no later place
abbrev pub is_counted : ℕ → List ℕ → ℕ → Bool
is_counted q text i = not (ltb 0 (length (occurrences (take q (drop i text)) (drop (i + 1) text))))

pub counted_from : (o : Order) (q : ℕ) (text : List ℕ) → 0 < q → Bytes text → (i n : ℕ) → i + n ≡ length text + 1 - q → length (filter (is_counted q text) (range_with_len i n)) ≡ left o q text i
counted_from o q text some bytes i zero e = sym (left_none o q text i (omega arith))
counted_from o q text some bytes i (suc n) e =
    go (ltb 0 (length (occurrences (take q (drop i text)) (drop (i + 1) text)))) refl (counted_from o q text some bytes (i + 1) n (omega arith))
  where
    go : (b : Bool) → ltb 0 (length (occurrences (take q (drop i text)) (drop (i + 1) text))) ≡ b
        → length (filter (is_counted q text) (range_with_len (i + 1) n)) ≡ left o q text (i + 1)
        → length (filter (is_counted q text) (i ∷ range_with_len (i + 1) n)) ≡ left o q text i
    go true f ih = rw f (ih ∙ sym (next_later o q text i some (omega (arith, some, e)) bytes true (sym f) refl))
    go false f ih = rw f (ap suc ih ∙ sym (next_counted o q text i some (omega (arith, some, e)) bytes false (sym f) refl))
