-- Trying words, with f the rank of a sample: words compare by their samples' places as they do by ranks (`smaller`); the numbers from 1 on, tried one by one, as that a Lyndon
-- word is smaller than each suffix (`tried` to `lyndon_is`); no length above the one reached gives a Lyndon word (`whole_rest`, `found`, `passed`).
use mathlib.Core.Path.{◌≡◌, refl, sym, ◌∙◌, ap, ap₂, subst}
use mathlib.Core.Bool.{Bool, true, false, cond, ◌&&◌, ◌||◌}
use mathlib.Core.List.{List, [], ◌∷◌, map}
use Prim.Native.Nat.{ℕ, zero, suc, ◌+◌, ◌-◌, ◌%◌, ◌≤◌, ◌<◌}
use Prim.Native.Nat.compare
use native.Mathlib.Omega.{arith}
use lib.ListN.{length, take, drop, length-drop, length-map}
use lib.Dec.{ltb, eqb}
use borrow.Author.Tests.{eq-eqb, ne_eqb}
use Rattle.std.specs.Bool.{MatchBool}
use Rattle.std.specs.Cmp.Lexicographic.{slice_cmp}
use Rattle.std.specs.List.{list_all, range_with_len}
use Rattle.std.specs.Ordering.{nat_cmp, ordering_then, is_lt}
use Rattle.std.specs.declared.cmp.Ordering.{Ordering}
use Rattle.std.specs.declared.cmp.Ordering.TheVariants.{Less, Equal, Greater}
use Rattle.definitions.specs.Words.{every, greatest, lexlt, lyndon, lyndon_length}
use Rattle.definitions.specs.Table.{rank_of}
use Rattle.definitions.specs.Services.{sample_order}
use Rattle.lists.specs.Bools.{contra, not_so, or_left, or_right, cond_true, cond_false}
use Rattle.lists.specs.Lists.{tail_taken}
use Rattle.lists.specs.Members.{take_map, drop_map}
use Rattle.lists.specs.Numbers.{every_at, every_all, split_le, split_lt}

-- ---- one word smaller than another

-- a sample's place in the order
abbrev pub place : ℕ → ℕ
place b = (b + 128) % 256

pub smaller : (x y : List ℕ) → is_lt (slice_cmp nat_cmp (map place x) (map place y)) ≡ lexlt (map (rank_of sample_order) x) (map (rank_of sample_order) y)
unfolding lexlt rank_of
smaller [] [] = refl
smaller [] (b ∷ y) = refl
smaller (a ∷ x) [] = refl
smaller (a ∷ x) (b ∷ y) =
    decides (ltb (place a) (place b)) (eqb (place a) (place b)) (slice_cmp nat_cmp (map place x) (map place y))
    ∙ ap₂ {C = Bool} (λ u v. u || v) (sym (ltb_next (place a) (place b))) (ap₂ {C = Bool} (λ u v. u && v) (sym (eqb_next (place a) (place b))) (smaller x y))
  where
    decides : (p q : Bool) (o : Ordering) → is_lt (ordering_then (cond p Less (cond q Equal Greater)) o) ≡ p || (q && is_lt o)
    decides true q o = refl
    decides false true o = refl
    decides false false o = refl

    ltb_next : (m n : ℕ) → ltb (suc m) (suc n) ≡ ltb m n
    ltb_next m n = rw compare.suc-suc

    eqb_next : (m n : ℕ) → eqb (suc m) (suc n) ≡ eqb m n
    eqb_next m n = rw compare.suc-suc

-- ---- a test of every number from 1 on

-- f holds of every number from 1 to n less 1
abbrev pub from_one : (ℕ → Bool) → ℕ → Bool
from_one f n = every (λ k. eqb k 0 || f k) n

-- the numbers from a on, tried one by one
tried : (f : ℕ → Bool) (a n : ℕ) → MatchBool (list_all f (range_with_len a n)) ((k : ℕ) → a ≤ k → k < a + n → f k ≡ true) ((k : ℕ) × (a ≤ k) × (k < a + n) × (f k ≡ false))
tried f a zero = λ k l m. absurd (omega arith)
tried f a (suc n) = go (f a) refl (list_all f (range_with_len (a + 1) n)) (tried f (a + 1) n)
  where
    go : (b : Bool) → f a ≡ b → (c : Bool) → MatchBool c ((k : ℕ) → a + 1 ≤ k → k < a + 1 + n → f k ≡ true) ((k : ℕ) × (a + 1 ≤ k) × (k < a + 1 + n) × (f k ≡ false))
        → MatchBool (b && c) ((k : ℕ) → a ≤ k → k < a + suc n → f k ≡ true) ((k : ℕ) × (a ≤ k) × (k < a + suc n) × (f k ≡ false))
    go true e true h = λ k l m. split_lt a k (λ x. h k (omega arith) (omega arith)) (λ q. subst (λ (j : ℕ). f j ≡ true) q e) (λ x. absurd (omega arith))
    go true e false (k, l, m, q) = (k, omega arith, omega arith, q)
    go false e c h = (a, omega arith, omega arith, e)

pub all_tried : (f : ℕ → Bool) (n : ℕ) → list_all f (range_with_len 1 (n - 1)) ≡ from_one f n
all_tried f n = go (list_all f (range_with_len 1 (n - 1))) (tried f 1 (n - 1))
  where
    go : (b : Bool) → MatchBool b ((k : ℕ) → 1 ≤ k → k < 1 + (n - 1) → f k ≡ true) ((k : ℕ) × (1 ≤ k) × (k < 1 + (n - 1)) × (f k ≡ false)) → b ≡ from_one f n
    go true h = sym (every_all (λ k. eqb k 0 || f k) n (λ k l. split_le k 0
        (λ m. or_left (eqb k 0) (f k) (eq-eqb k 0 (omega arith)))
        (λ m. or_right (eqb k 0) (f k) (h k (omega arith) (omega arith)))))
    go false (k, a, l, e) = sym (not_so (from_one f n) (λ q.
        contra (every_at (λ j. eqb j 0 || f j) n q k (omega arith)) (rw (ne_eqb k 0 (λ z. omega arith)) e)))

-- ---- a Lyndon word

module _ (f : ℕ → ℕ) (l : List ℕ) where
  -- a suffix, and a stretch, as code takes it
  pub suffix : (k : ℕ) → drop k (map f l) ≡ map f (take (length l - k) (drop k l))
  suffix k = drop_map f k l ∙ ap (map f) (sym (tail_taken l k))

  pub stretch : (i k : ℕ) → take k (drop i (map f l)) ≡ map f (take k (drop i l))
  stretch i k = ap (take k) (drop_map f i l) ∙ take_map f k (drop i l)

  -- l is smaller than its suffix from a place on, as code compares them
  abbrev pub smaller_suffix : ℕ → Bool
  smaller_suffix k = lexlt (map f l) (map f (take (length l - k) (drop k l)))

  pub lyndon_is : ltb 0 (length l) && list_all smaller_suffix (range_with_len 1 (length l - 1)) ≡ lyndon (map f l)
  unfolding lyndon
  lyndon_is =
      ap (λ (b : Bool). ltb 0 (length l) && b) (all_tried smaller_suffix (length l) ∙ (λ i. from_one (λ k. lexlt (map f l) (sym (suffix k) i)) (length l)))
      ∙ ap (λ (n : ℕ). ltb 0 n && from_one (λ k. lexlt (map f l) (drop k (map f l))) n) (sym (length-map l f))

-- ---- the longest Lyndon word from a place on

-- the length of the longest of at most k samples
abbrev pub longest_to : (ℕ → ℕ) → List ℕ → ℕ → ℕ → ℕ
longest_to f s i k = greatest (λ j. lyndon (take j (drop i (map f s)))) k

pub whole_rest : (f : ℕ → ℕ) (s : List ℕ) (i k : ℕ) → k ≡ length s - i → lyndon_length (map f s) i ≡ longest_to f s i k
unfolding lyndon_length
whole_rest f s i k e = ap (longest_to f s i) (length-drop i (map f s) ∙ ap (λ (n : ℕ). n - i) (length-map s f) ∙ sym e)

module _ (f : ℕ → ℕ) (s : List ℕ) (i : ℕ) where
  word : (k m : ℕ) → m ≡ k → lyndon (take k (drop i (map f s))) ≡ lyndon (map f (take m (drop i s)))
  word k m e = ap lyndon (stretch f s i k ∙ ap (λ (n : ℕ). map f (take n (drop i s))) (sym e))

  pub found : (k m : ℕ) → 0 < k → m ≡ k → lyndon (map f (take m (drop i s))) ≡ true → longest_to f s i k ≡ k
  unfolding greatest
  found zero m h e q = absurd (omega arith)
  found (suc k) m h e q = cond_true (lyndon (take (suc k) (drop i (map f s)))) (suc k) (longest_to f s i k) (word (suc k) m e ∙ q)

  pub passed : (k m : ℕ) → 0 < k → m ≡ k → lyndon (map f (take m (drop i s))) ≡ false → longest_to f s i k ≡ longest_to f s i (k - 1)
  unfolding greatest
  passed zero m h e q = absurd (omega arith)
  passed (suc k) m h e q =
      let next : k ≡ suc k - 1 = omega arith in
      cond_false (lyndon (take (suc k) (drop i (map f s)))) (suc k) (longest_to f s i k) (word (suc k) m e ∙ q) ∙ ap (longest_to f s i) next

  pub none_left : (k : ℕ) → k ≡ 0 → longest_to f s i k ≡ 0
  unfolding greatest
  none_left k e = ap (longest_to f s i) e
