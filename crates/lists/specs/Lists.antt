-- Laws of lists: how two splits of one list overlap, lists with more behind (`Extends`), lists that grow (`grown_at`), and the front of a slice, `placed`, which a loop
-- counts as it writes (`Fronted`).
use Rattle.std.specs.Prelude.{◌≡◌, get_or, set}
use Rattle.std.proofs.Math.Path.{refl, sym, ap, ap₂}
use Rattle.std.proofs.Common.{◌∙◌, drop_of_length-le, take_all, take-suc, length-take-le, drop-drop, get_or-append-add, get_or-drop}
use mathlib.Core.List.{List, [], ◌∷◌, ◌++◌, map, map-append, append_assoc, append-nil, head-eq_of_cons-eq, tail-eq_of_cons-eq}
use Prim.Native.Nat.{ℕ, zero, suc, ◌+◌, ◌-◌, ◌≤◌, ◌<◌}
use native.Mathlib.Omega.{arith}
use Rattle.std.proofs.Math.Numerals.{add-one}
use Rattle.std.proofs.Math.ListN.{length, take, drop, length-append, length-drop, get_or-append}
use Rattle.std.proofs.lemmas.List.{length-map, set_at, set_split, get_or_at}
use Rattle.std.proofs.Math.Seq.{take-length, drop-cons, take_at, take-append_seam, drop_at}
use Rattle.definitions.specs.Words.{placed}
use Rattle.lists.specs.Numbers.{split_lt}

module _ {ℓ} {A : Type ℓ} where
  -- a list that is not empty has a first element
  pub first_of : (s : List A) → 0 < length s → (a : A) × (r : List A) × (s ≡ a ∷ r)
  first_of [] h = absurd (omega arith)
  first_of (a ∷ r) h = (a, r, refl)

  pub empty : (s : List A) → length s ≡ 0 → s ≡ []
  empty [] h = refl
  empty (a ∷ r) h = absurd (omega arith)

  -- what a slice holds from a place on, as code takes it
  pub tail_taken : (l : List A) (i : ℕ) → take (length l - i) (drop i l) ≡ drop i l
  tail_taken l i = take_all (length l - i) (drop i l) (omega (arith, length-drop i l))

  -- how p ++ s and u ++ v, one list, lie over each other: s within v, or s from within u on
  pub data Overlap (p s u v : List A) : Type ℓ where
    within : (q : List A) → p ≡ u ++ q → v ≡ q ++ s → Overlap p s u v
    across : (q : List A) → 0 < length q → u ≡ p ++ q → s ≡ q ++ v → Overlap p s u v

  pub overlap : (p s u v : List A) → p ++ s ≡ u ++ v → Overlap p s u v
  overlap [] s [] v e = within [] refl (sym e)
  overlap [] s (b ∷ u) v e = across (b ∷ u) (omega arith) refl e
  overlap (a ∷ p) s [] v e = within (a ∷ p) refl (sym e)
  overlap (a ∷ p) s (b ∷ u) v e = go (overlap p s u v (tail-eq_of_cons-eq e)) (head-eq_of_cons-eq e)
    where
      go : Overlap p s u v → a ≡ b → Overlap (a ∷ p) s (b ∷ u) v
      go (within q x y) h = within q (ap₂ {C = List A} (λ c l. c ∷ l) h x) y
      go (across q n x y) h = across q n (ap₂ {C = List A} (λ c l. c ∷ l) (sym h) x) y

  -- two splits at one place are one
  pub split_same_left : (p s u v : List A) → p ++ s ≡ u ++ v → length p ≡ length u → p ≡ u
  split_same_left [] s [] v e h = refl
  split_same_left [] s (b ∷ u) v e h = absurd (omega arith)
  split_same_left (a ∷ p) s [] v e h = absurd (omega arith)
  split_same_left (a ∷ p) s (b ∷ u) v e h =
      ap₂ {C = List A} (λ c l. c ∷ l) (head-eq_of_cons-eq e) (split_same_left p s u v (tail-eq_of_cons-eq e) (omega arith))

  pub split_same_right : (p s u v : List A) → p ++ s ≡ u ++ v → length p ≡ length u → s ≡ v
  split_same_right [] s [] v e h = e
  split_same_right [] s (b ∷ u) v e h = absurd (omega arith)
  split_same_right (a ∷ p) s [] v e h = absurd (omega arith)
  split_same_right (a ∷ p) s (b ∷ u) v e h = split_same_right p s u v (tail-eq_of_cons-eq e) (omega arith)

  -- m is l with more behind
  abbrev pub Extends : List A → List A → Type ℓ
  Extends l m = (x : List A) × (m ≡ l ++ x)

  pub extends_self : (l : List A) → Extends l l
  extends_self l = ([], sym (append-nil l))

  pub extends_trans : (l m n : List A) → Extends l m → Extends m n → Extends l n
  extends_trans l m n (x, e) (y, f) = (x ++ y, f ∙ ap (λ (z : List A). z ++ y) e ∙ append_assoc l x y)

  -- ---- the front of a slice

  pub placed_none : (old : List A) → placed [] old ≡ old
  unfolding placed
  placed_none old = refl

  pub placed_length : (l old : List A) → length l ≤ length old → length (placed l old) ≡ length old
  unfolding placed
  placed_length l old h = simp (length-append, length-drop) (omega arith)

  -- one entry more at the front is a store behind it
  pub placed_more : (l old : List A) (x : A) → length l < length old → placed (l ++ (x ∷ [])) old ≡ set (placed l old) (length l) x
  unfolding placed
  placed_more l old x h =
      rw (length-append, append_assoc, one, drop-cons old (length l) x h)
      (sym (set_at l (get_or old (length l) x) (drop (suc (length l)) old) x (length l) refl))
    where
      one : length l + 1 ≡ suc (length l)
      one = omega arith

  -- and may be stored before the front is written
  pub placed_last : (l old : List A) (x : A) → length l < length old → placed (l ++ (x ∷ [])) old ≡ placed l (set old (length l) x)
  unfolding placed
  placed_last l old x h =
      let one : length (l ++ (x ∷ [])) ≡ suc (length l) = length-append l (x ∷ []) ∙ add-one (length l) in
      append_assoc l (x ∷ []) (drop (length (l ++ (x ∷ []))) old)
      ∙ ap (λ (r : List A). l ++ r) (ap {B = List A} (λ k. x ∷ drop k old) one ∙ sym rest)
    where
      rest : drop (length l) (set old (length l) x) ≡ x ∷ drop (suc (length l)) old
      rest = ap (drop (length l)) (set_split old (length l) x h) ∙ drop_at (take (length l) old) (x ∷ drop (suc (length l)) old) (length l) (length-take-le (length l) old (omega arith))

  pub placed_front : (l old : List A) → take (length l) (placed l old) ≡ l
  unfolding placed
  placed_front l old = take-append_seam l (drop (length l) old)

  -- a list at the front, and another behind it in the rest of the slice
  pub placed_both : (u v old w z : List A) (n : ℕ) → n ≡ length u → length u + length v ≤ length old → w ≡ placed u old
      → z ≡ placed v (take (length w - n) (drop n w)) → take n w ++ (z ++ drop (length w - n) (drop n w)) ≡ placed (u ++ v) old
  unfolding placed
  placed_both u v old w z n e h f g =
      let behind : drop n w ≡ drop (length u) old = ap (drop n) f ∙ drop_at u (drop (length u) old) n (sym e) in
      let before : take n w ≡ u = ap (take n) f ∙ take_at u (drop (length u) old) n (sym e) in
      let size : length w ≡ length old = ap length f ∙ placed_length u old (omega arith) in
      let rest : length (drop n w) ≤ length w - n = omega (arith, length-drop n w) in
      ap₂ {C = List A} (λ a b. a ++ b) before
      (ap₂ {C = List A} (λ a b. a ++ b) (g ∙ ap (placed v) (tail_taken w n ∙ behind)) (drop_of_length-le (drop n w) rest)
      ∙ append-nil (placed v (drop (length u) old)))
      ∙ sym (append_assoc u v (drop (length v) (drop (length u) old)))
      ∙ ap (λ (l : List A). (u ++ v) ++ l) (drop-drop (length v) (length u) old ∙ ap (λ (k : ℕ). drop k old) (sym (length-append u v)))

-- lists that grow by one entry at a time: the list of n has n entries, and keeps each that it got
module _ {ℓ} {A : Type ℓ} (S : ℕ → List A) (x : ℕ → A) (none : S 0 ≡ []) (more : (n : ℕ) → S (suc n) ≡ S n ++ (x n ∷ [])) where
  pub grown_length : (n : ℕ) → length (S n) ≡ n
  grown_length zero = ap length none
  grown_length (suc n) = ap length (more n) ∙ length-append (S n) (x n ∷ []) ∙ omega (arith, grown_length n)

  pub grown_at : (n r : ℕ) (d : A) → r < n → get_or (S n) r d ≡ x r
  grown_at zero r d h = absurd (omega arith)
  grown_at (suc n) r d h =
      ap (λ (l : List A). get_or l r d) (more n)
      ∙ split_lt r n
      (λ l. get_or-append (S n) (x n ∷ []) d r (omega (arith, grown_length n)) ∙ grown_at n r d l)
      (λ e. get_or_at (S n) (x n) [] d r (grown_length n ∙ sym e) ∙ ap x (sym e))
      (λ l. absurd (omega arith))

-- l stands at the front of w, where old stood, and has n entries: as a loop writes it and counts
module _ {ℓ} {A : Type ℓ} where
  pub record Fronted (l old : List A) (n : ℕ) (w : List A) : Type ℓ where
    pub count : n ≡ length l
    pub holds : w ≡ placed l old

  pub fronted_none : (old : List A) → Fronted [] old 0 old
  fronted_none old = record { count = refl; holds = sym (placed_none old) }

  -- by another name of l
  pub fronted_as : {l m old : List A} {n : ℕ} {w : List A} → l ≡ m → Fronted l old n w → (n ≡ length m) × (w ≡ placed m old)
  fronted_as {old = old} e x = (x.count ∙ ap length e, x.holds ∙ ap (λ (k : List A). placed k old) e)

-- the values of f at a list, placed one by one; the list may be what the slice held before
pub mapped_more : (f : ℕ → ℕ) (l old w : List ℕ) (i : ℕ) → i < length l → length l ≤ length old → w ≡ placed (map f (take i l)) old
    → set w i (f (get_or l i 0)) ≡ placed (map f (take (i + 1) l)) old
mapped_more f l old w i h k e =
    ap (λ (z : List ℕ). set z i x) e
    ∙ ap (λ (n : ℕ). set (placed front old) n x) (sym size)
    ∙ sym (placed_more front old x (omega (arith, size)))
    ∙ ap (λ (z : List ℕ). placed z old) more
  where
    x : ℕ
    x = f (get_or l i 0)

    front : List ℕ
    front = map f (take i l)

    size : length (map f (take i l)) ≡ i
    size = length-map (take i l) f ∙ length-take-le i l (omega arith)

    more : map f (take i l) ++ (f (get_or l i 0) ∷ []) ≡ map f (take (i + 1) l)
    more = sym (map-append f (take i l) (get_or l i 0 ∷ [])) ∙ ap (map f) (sym (take-suc l i 0 h) ∙ ap (λ (n : ℕ). take n l) (sym (add-one i)))

pub mapped_all : (f : ℕ → ℕ) (l old w : List ℕ) (i : ℕ) → i ≡ length l → w ≡ placed (map f (take i l)) old → w ≡ placed (map f l) old
mapped_all f l old w i e h =
    h ∙ ap (λ (n : ℕ). placed (map f (take n l)) old) e ∙ ap (λ (x : List ℕ). placed (map f x) old) (take-length l)

-- what stands behind them is as before
pub mapped_rest : (f : ℕ → ℕ) (l : List ℕ) (i : ℕ) → i < length l → get_or (placed (map f (take i l)) l) i 0 ≡ get_or l i 0
unfolding placed
mapped_rest f l i h =
    ap (λ (n : ℕ). get_or (map f (take i l) ++ drop n l) i 0) size
    ∙ ap (λ (n : ℕ). get_or (map f (take i l) ++ drop i l) n 0) (sym (omega (arith, size)))
    ∙ get_or-append-add (map f (take i l)) (drop i l) 0 0
    ∙ get_or-drop i l 0 0
    ∙ ap (λ (n : ℕ). get_or l n 0) (omega arith)
  where
    size : length (map f (take i l)) ≡ i
    size = length-map (take i l) f ∙ length-take-le i l (omega arith)
