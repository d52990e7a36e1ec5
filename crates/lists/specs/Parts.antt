-- A part of a slice: n entries from o on. What it holds at an index, after a store inside it or outside it, and how it splits; and a part that is filled
-- with the entries of another list, each where it stands there (`Filled`).
use Rattle.std.specs.Prelude.{◌≡◌, ℕ, zero, suc, ◌+◌, ◌-◌, ◌≤◌, ◌<◌, length, get_or, set}
use Rattle.std.proofs.Math.Path.{refl, sym, ap, subst}
use Rattle.std.proofs.Common.{◌∙◌, ap₂, zero-add, suc-add, length-append, length-take, length-drop, length-set, get_or-set_same, drop-drop, drop-cons, drop-set-lt, length-take-le, drop_at}
use mathlib.Core.List.{List, [], ◌∷◌, ◌++◌, append_assoc}
use native.Mathlib.Omega.{arith}
use Rattle.std.proofs.Math.ListN.{take, drop}
use Rattle.definitions.specs.Words.{placed}
use Rattle.lists.specs.Numbers.{split_le}
use Rattle.std.proofs.Math.Seq.{get_or-take, get_or-drop, take-add, take-set-lt, take-set-le, take-take, take-nil, take_at, drop-append-add}
use Rattle.std.proofs.lemmas.List.{set-get_or, drop-set-add, take-append-le}

module _ {ℓ} {A : Type ℓ} where
  -- the n entries from o on
  unfoldable pub part : ℕ → ℕ → List A → List A
  part o n w = take n (drop o w)

  -- as code takes it
  pub part_taken : (o m n : ℕ) (w : List A) → m ≡ n → take m (drop o w) ≡ part o n w
  unfolding part
  part_taken o m n w e = ap (λ (k : ℕ). take k (drop o w)) e

  pub part_length : (o n : ℕ) (w : List A) → o + n ≤ length w → length (part o n w) ≡ n
  unfolding part
  part_length o n w h = simp (length-take, length-drop) (omega arith)

  pub part_at : (o n : ℕ) (w : List A) (i : ℕ) (d : A) → i < n → get_or (part o n w) i d ≡ get_or w (o + i) d
  unfolding part
  part_at o n w i d h = get_or-take n (drop o w) i d h ∙ get_or-drop o w i d

  -- a store inside
  pub part_set : (o n : ℕ) (w : List A) (i : ℕ) (x : A) → i < n → part o n (set w (o + i) x) ≡ set (part o n w) i x
  unfolding part
  part_set o n w i x h = ap (take n) (drop-set-add o w i x) ∙ take-set-lt n (drop o w) i x h

  -- a store before it, or behind it
  pub part_set_before : (o n : ℕ) (w : List A) (j : ℕ) (x : A) → j < o → part o n (set w j x) ≡ part o n w
  unfolding part
  part_set_before o n w j x h = ap (take n) (drop-set-lt o w j x h)

  pub part_set_behind : (o n : ℕ) (w : List A) (j : ℕ) (x : A) → o + n ≤ j → part o n (set w j x) ≡ part o n w
  unfolding part
  part_set_behind o n w j x h =
      subst (λ (k : ℕ). take n (drop o (set w k x)) ≡ take n (drop o w)) e
      (ap (take n) (drop-set-add o w (j - o) x) ∙ take-set-le n (drop o w) (j - o) x (omega arith))
    where
      e : o + (j - o) ≡ j
      e = omega arith

  -- two parts in a row are one
  pub part_append : (o n m : ℕ) (w : List A) → part o (n + m) w ≡ part o n w ++ part (o + n) m w
  unfolding part
  part_append o n m w = take-add n m (drop o w) ∙ ap (λ (x : List A). take n (drop o w) ++ take m x) (drop-drop n o w)

  pub part_cons : (o n : ℕ) (w : List A) (d : A) → o < length w → part o (suc n) w ≡ get_or w o d ∷ part (suc o) n w
  unfolding part
  part_cons o n w d h = ap (take (suc n)) (drop-cons w o d h)

  -- a part that is the front of what stands from o on
  pub part_front : (o n : ℕ) (w x y : List A) → drop o w ≡ x ++ y → length x ≡ n → part o n w ≡ x
  unfolding part
  part_front o n w x y e h = ap (take n) e ∙ take_at x y n h

  pub part_none : (o : ℕ) (w : List A) → part o 0 w ≡ []
  unfolding part
  part_none o w = refl

  pub drop_take : (p k : ℕ) (l : List A) → drop p (take (p + k) l) ≡ take k (drop p l)
  drop_take zero k l = rw zero-add
  drop_take (suc p) k [] = rw (take-nil, take-nil)
  drop_take (suc p) k (a ∷ l) = rw suc-add (drop_take p k l)

  -- a part of a part
  pub part_part : (o n p m : ℕ) (w : List A) → p + m ≤ n → part p m (part o n w) ≡ part (o + p) m w
  unfolding part
  part_part o n p m w h =
      subst (λ (k : ℕ). take m (drop p (take k (drop o w))) ≡ take m (drop (o + p) w)) e
      (ap (take m) (drop_take p (n - p) (drop o w)) ∙ take-take m (n - p) (drop p (drop o w)) (omega arith) ∙ ap (take m) (drop-drop p o w))
    where
      e : p + (n - p) ≡ n
      e = omega arith

  -- slices that agree below m have the same parts there
  pub part_agree : (m o n : ℕ) (w v : List A) → take m v ≡ take m w → o + n ≤ m → part o n v ≡ part o n w
  unfolding part
  part_agree m o n w v e h =
      ap (λ (k : ℕ). part k n v) (sym (zero-add o))
      ∙ sym (part_part 0 m o n v h)
      ∙ ap (part o n) e
      ∙ part_part 0 m o n w h
      ∙ ap (λ (k : ℕ). part k n w) (zero-add o)

  -- ---- a slice that is filled with the entries of s, each where it stands in s

  -- the n entries from o on are filled
  abbrev pub Filled : List A → List A → ℕ → ℕ → Type ℓ
  Filled s w o n = part o n w ≡ part o n s

  pub filled_none : (s w : List A) (o : ℕ) → Filled s w o 0
  unfolding part
  filled_none s w o = refl

  pub filled_both : (s w : List A) (o n m : ℕ) → Filled s w o n → Filled s w (o + n) m → Filled s w o (n + m)
  filled_both s w o n m e f = part_append o n m w ∙ ap₂ {C = List A} (λ x y. x ++ y) e f ∙ sym (part_append o n m s)

  pub filled_at : (s w : List A) (o n i : ℕ) (d : A) → Filled s w o n → i < n → get_or w (o + i) d ≡ get_or s (o + i) d
  filled_at s w o n i d e h = sym (part_at o n w i d h) ∙ ap (λ (x : List A). get_or x i d) e ∙ part_at o n s i d h

  -- a store of the entry that stands there in s keeps what is filled
  pub filled_set : (s w : List A) (o n i : ℕ) (a d : A) → a ≡ get_or s i d → Filled s w o n → Filled s (set w i a) o n
  filled_set s w o n i a d q e = split_le o i (λ h. split_le (o + n) i (λ l. part_set_behind o n w i a l ∙ e) (λ l. inside h l)) (λ h. part_set_before o n w i a h ∙ e)
    where
      inside : o ≤ i → i < o + n → Filled s (set w i a) o n
      inside h l =
          subst (λ (k : ℕ). part o n (set w k a) ≡ part o n s) at
          (part_set o n w (i - o) a (omega arith)
          ∙ ap₂ {C = List A} (λ x b. set x (i - o) b) e (q ∙ ap (λ (k : ℕ). get_or s k d) (sym at) ∙ sym (part_at o n s (i - o) d (omega arith)))
          ∙ set-get_or (part o n s) (i - o) d)
        where
          at : o + (i - o) ≡ i
          at = omega arith

  -- and fills one entry more
  pub filled_more : (s w : List A) (o n : ℕ) (a d : A) → o + n < length w → o + n < length s → a ≡ get_or s (o + n) d → Filled s w o n → Filled s (set w (o + n) a) o (n + 1)
  filled_more s w o n a d h k q e =
      filled_both s (set w (o + n) a) o n 1 (filled_set s w o n (o + n) a d q e)
      (part_cons (o + n) 0 (set w (o + n) a) d (omega (arith, length-set w (o + n) a))
      ∙ ap₂ {C = List A} (λ b x. b ∷ x) (get_or-set_same w (o + n) a d h ∙ q) (part_none (suc (o + n)) (set w (o + n) a) ∙ sym (part_none (suc (o + n)) s))
      ∙ sym (part_cons (o + n) 0 s d k))

  -- n entries from o on are lent, and written over by z
  module _ (w z : List A) (o n : ℕ) (fits : o + n ≤ length w) (size : length z ≡ n) where
    pub lent_length : length (take o w ++ (z ++ drop n (drop o w))) ≡ length w
    lent_length = simp (length-append, length-append, length-take, length-drop, length-drop) (omega arith)

    pub lent_before : (b : ℕ) → b ≤ o → take b (take o w ++ (z ++ drop n (drop o w))) ≡ take b w
    lent_before b h = take-append-le b (take o w) (z ++ drop n (drop o w)) (omega (arith, length-take-le o w (omega arith))) ∙ take-take b o w h

    pub lent_behind : (b : ℕ) → o + n ≤ b → drop b (take o w ++ (z ++ drop n (drop o w))) ≡ drop b w
    lent_behind b h =
        ap (λ (i : ℕ). drop i (take o w ++ (z ++ drop n (drop o w)))) at
        ∙ drop-append-add (take o w) (z ++ drop n (drop o w)) (length z + k)
        ∙ drop-append-add z (drop n (drop o w)) k
        ∙ ap (drop k) (drop-drop n o w)
        ∙ drop-drop k (o + n) w
        ∙ ap (λ (i : ℕ). drop i w) back
      where
        k : ℕ
        k = b - (o + n)

        at : b ≡ length (take o w) + (length z + (b - (o + n)))
        at = omega (arith, length-take-le o w (omega arith))

        back : o + n + (b - (o + n)) ≡ b
        back = omega arith

    -- a list at the front of what is lent stands where the part begins
    pub lent_part : (l : List A) → z ≡ placed l (take n (drop o w)) → part o (length l) (take o w ++ (z ++ drop n (drop o w))) ≡ l
    unfolding placed
    lent_part l e =
        let rest = drop (length l) (take n (drop o w)) in
        part_front o (length l) (take o w ++ (z ++ drop n (drop o w))) l (rest ++ drop n (drop o w))
        (drop_at (take o w) (z ++ drop n (drop o w)) o (length-take-le o w (omega arith))
        ∙ ap (λ (x : List A). x ++ drop n (drop o w)) e
        ∙ append_assoc l rest (drop n (drop o w)))
        refl
