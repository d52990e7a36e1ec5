-- Runs of q bytes and their keys: the distinct runs are those of the distinct keys (`distinct_keys_lem`, `distinct_back`), and a run stands among all runs of a text as often as it
-- begins there (`count_keys`).
use Rattle.std.specs.Prelude.{◌≡◌, Bool, ◌⊎◌, drop, ltb}
use Rattle.std.proofs.Math.Path.{refl, sym, ap}
use Rattle.std.proofs.Common.{◌∙◌, ap₂, arith, length-append, length-take, length-drop}
use Rattle.std.proofs.Math.Bool.{true, false, cond}
use Rattle.std.proofs.Math.Logic.{inl, inr, ⊎_elim}
use mathlib.Core.List.Memᴰ.{cases_cons as in-cons}
use mathlib.Core.List.Memᴰ.{head as here}
use mathlib.Core.List.Memᴰ.{not-nil as in-nil}
use mathlib.Core.List.Memᴰ.{tail as there}
use mathlib.Core.List.{List, [], ◌∷◌, ◌++◌, map, map-append, map-map, Memᴰ as In}
use Prim.Native.Nat.{ℕ, zero, suc, ◌+◌, ◌-◌, ◌≤◌, ◌<◌}
use Rattle.std.proofs.Math.ListN.{length, take, length-map}
use Rattle.std.proofs.Math.Dec.{eqb}
use Rattle.definitions.specs.declared.Order.{Order}
use Rattle.definitions.specs.Words.{below, same, begins}
use Rattle.definitions.specs.Occurrences.{occurrences}
use Rattle.definitions.specs.Census.{runs_of, comes_before, entered, distinct, count_in}
use Rattle.lists.specs.Bools.{not_so}
use Rattle.lists.specs.Strings.{front_begins, begins_entries}
use Rattle.lists.specs.Numbers.{below_all, below_ext, below_stop, below_lt}
use Rattle.lyndon.specs.Ranks.{Bytes}
use Rattle.run_keys.specs.Keys.{key_of, run_with, key_before, key_same, key_back, bytes_take, bytes_drop}
use Rattle.key_counts.specs.Keys.{count_of, entered_key, distinct_keys}

-- a run of q bytes; a list of such runs
abbrev pub Run : ℕ → List ℕ → Type 0
Run q x = Bytes x × (length x ≡ q)

abbrev pub Runs : ℕ → List (List ℕ) → Type 0
Runs q l = (x : List ℕ) → In x l → Run q x

module _ (o : Order) (q : ℕ) where
  -- ---- distinct runs, distinct keys

  entered_only : (x : List ℕ) (l : List (List ℕ)) (z : List ℕ) → In z (entered o x l) → (z ≡ x) ⊎ In z l
  unfolding entered
  entered_only x [] z m = in-cons m
  entered_only x (y ∷ l) z m = go (same x y) refl (comes_before o x y) refl m (λ i. entered_only x l z i)
    where
      go : (b : Bool) → same x y ≡ b → (c : Bool) → comes_before o x y ≡ c → In z (cond (same x y) (y ∷ l) (cond (comes_before o x y) (x ∷ y ∷ l) (y ∷ entered o x l)))
          → (In z (entered o x l) → (z ≡ x) ⊎ In z l) → (z ≡ x) ⊎ In z (y ∷ l)
      go true e c f i ih = inr (rw e at i)
      go false e true f i ih = in-cons (rw (e, f) at i)
      go false e false f i ih =
          ⊎_elim (λ e. inr (here e)) (λ n. ⊎_elim (λ e. inl e) (λ a. inr (there a)) (ih n)) (in-cons (rw (e, f) at i))

  pub distinct_only : (l : List (List ℕ)) (z : List ℕ) → In z (distinct o l) → In z l
  unfolding distinct
  distinct_only [] z m = m
  distinct_only (x ∷ l) z m = ⊎_elim (λ e. here e) (λ i. there (distinct_only l z i)) (entered_only x (distinct o l) z m)

  entered_key_lem : (x : List ℕ) (l : List (List ℕ)) → Run q x → Runs q l → map (key_of o) (entered o x l) ≡ entered_key (key_of o x) (map (key_of o) l)
  unfolding entered entered_key comes_before
  entered_key_lem x [] h k = refl
  entered_key_lem x (y ∷ l) h k =
      let hy = k y (here refl) in
      let len : length x ≡ length y = h.1 ∙ sym hy.1 in
      rw (key_same o x y h.0 hy.0 len, key_before o x y h.0 hy.0 len) (go (eqb (key_of o x) (key_of o y)) (ltb (key_of o x) (key_of o y)) (entered_key_lem x l h (λ z m. k z (there m))))
    where
      go : (b c : Bool) → map (key_of o) (entered o x l) ≡ entered_key (key_of o x) (map (key_of o) l)
          → map (key_of o) (cond b (y ∷ l) (cond c (x ∷ y ∷ l) (y ∷ entered o x l))) ≡ cond b (key_of o y ∷ map (key_of o) l) (cond c (key_of o x ∷ key_of o y ∷ map (key_of o) l) (key_of o y ∷ entered_key (key_of o x) (map (key_of o) l)))
      go true c ih = refl
      go false true ih = refl
      go false false ih = ap {B = List ℕ} (λ r. key_of o y ∷ r) ih

  pub distinct_keys_lem : (l : List (List ℕ)) → Runs q l → map (key_of o) (distinct o l) ≡ distinct_keys (map (key_of o) l)
  unfolding distinct distinct_keys
  distinct_keys_lem [] h = refl
  distinct_keys_lem (x ∷ l) h =
      entered_key_lem x (distinct o l) (h x (here refl)) (λ z m. h z (there (distinct_only l z m)))
      ∙ ap (entered_key (key_of o x)) (distinct_keys_lem l (λ z m. h z (there m)))

  all_back : (l : List (List ℕ)) → Runs q l → map (run_with o q) (map (key_of o) l) ≡ l
  all_back [] h = refl
  all_back (x ∷ l) h =
      let hx = h x (here refl) in
      ap₂ {C = List (List ℕ)} (λ y r. y ∷ r) (ap (λ (n : ℕ). run_with o n (key_of o x)) (sym hx.1) ∙ key_back o x hx.0) (all_back l (λ z m. h z (there m)))

  pub distinct_back : (l : List (List ℕ)) → Runs q l → map (run_with o q) (distinct_keys (map (key_of o) l)) ≡ distinct o l
  distinct_back l h =
      ap (map (run_with o q)) (sym (distinct_keys_lem l h)) ∙ all_back (distinct o l) (λ z m. h z (distinct_only l z m))

-- ---- the runs of a text

in_runs : (f : ℕ → List ℕ) (l : List ℕ) (z : List ℕ) → In z (map f l) → (i : ℕ) × In i l × (z ≡ f i)
in_runs f [] z m = absurd (in-nil m)
in_runs f (a ∷ l) z m = ⊎_elim (λ e. (a, here refl, e)) (λ k. let (i, n, e) = in_runs f l z k in (i, there n, e)) (in-cons m)

count_append : (l : List ℕ) (z k : ℕ) → count_of (l ++ (z ∷ [])) k ≡ count_of l k + cond (eqb z k) 1 0
unfolding count_of
count_append [] z k = omega arith
count_append (y ∷ l) z k = omega (arith, count_append l z k)

-- how often a number stands among those of the first m places
count_below : (f : ℕ → ℕ) (k m : ℕ) → count_of (map f (below (λ i. true) m)) k ≡ length (below (λ i. eqb (f i) k) m)
unfolding below count_of
count_below f k zero = refl
count_below f k (suc m) =
    ap (λ (l : List ℕ). count_of l k) (map-append f (below (λ i. true) m) (m ∷ []))
    ∙ count_append (map f (below (λ i. true) m)) (f m) k
    ∙ omega (arith, count_below f k m, length-append (below (λ i. eqb (f i) k) m) (cond (eqb (f m) k) (m ∷ []) []), one (eqb (f m) k))
  where
    one : (b : Bool) → length (cond b (m ∷ []) []) ≡ cond b 1 0
    one true = refl
    one false = refl

module _ (o : Order) (q : ℕ) (text : List ℕ) (bytes : Bytes text) where
  pub runs_runs : Runs q (runs_of q text)
  unfolding runs_of
  runs_runs z m =
      let (i, k, e) = in_runs (λ (i : ℕ). take q (drop i text)) (below (λ i. true) (suc (length text) - q)) z m in
      let h = (below_lt (λ i. true) (suc (length text) - q) i k).0 in
      rw e (bytes_take q (drop i text) (bytes_drop i text bytes), simp (length-take, length-drop) (omega arith))

  -- its runs are as many as there are positions
  pub runs_number : length (runs_of q text) ≡ suc (length text) - q
  unfolding runs_of
  runs_number = length-map (below (λ i. true) (suc (length text) - q)) (λ (i : ℕ). take q (drop i text)) ∙ below_all (λ i. true) (suc (length text) - q) (λ k h. refl)

  -- a run of q bytes stands among them as often as it begins in the text
  pub count_keys : 0 < q → (x : List ℕ) → Run q x → count_of (map (key_of o) (runs_of q text)) (key_of o x) ≡ count_in text x
  unfolding runs_of count_in occurrences
  count_keys filled x h =
      ap (λ (l : List ℕ). count_of l (key_of o x)) (map-map (key_of o) run (below (λ i. true) m))
      ∙ count_below (λ i. key_of o (run i)) (key_of o x) m
      ∙ ap length (below_ext (λ i. eqb (key_of o (run i)) (key_of o x)) (λ i. begins x (drop i text)) m agrees)
      ∙ ap length (sym (below_stop (λ i. begins x (drop i text)) m (suc (length text) - m) (λ i a b. not_so (begins x (drop i text)) (λ e. past i a e))))
      ∙ ap (λ (n : ℕ). length (below (λ i. begins x (drop i text)) n)) whole
    where
      m : ℕ
      m = suc (length text) - q

      run : ℕ → List ℕ
      run i = take q (drop i text)

      whole : m + (suc (length text) - m) ≡ suc (length text)
      whole = omega arith

      agrees : (i : ℕ) → i < suc (length text) - q → eqb (key_of o (take q (drop i text))) (key_of o x) ≡ begins x (drop i text)
      agrees i l =
          let size : length (take q (drop i text)) ≡ length x = simp (length-take, length-drop) (omega (arith, h.1)) in
          let room : length x ≤ length (drop i text) = omega (arith, h.1, length-drop i text) in
          sym (key_same o (take q (drop i text)) x (bytes_take q (drop i text) (bytes_drop i text bytes)) h.0 size)
          ∙ ap (λ (n : ℕ). same (take n (drop i text)) x) (sym h.1)
          ∙ front_begins x (drop i text) room

      past : (i : ℕ) → suc (length text) - q ≤ i → begins x (drop i text) ≡ true → ⊥
      past i a e = omega (arith, (begins_entries x (drop i text) e).0, length-drop i text, h.1, filled)
