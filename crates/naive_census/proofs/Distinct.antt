-- Runs that are entered one by one stand in rising order, each once: the last run is one more exactly where it does not stand among them (`distinct_more`).
-- The runs are byte strings, so that their ranks tell them apart.
use mathlib.Core.Path.{◌≡◌, refl, sym, ◌∙◌, ap, subst}
use mathlib.Core.Bool.{Bool, true, false, cond, ◌||◌, false≢true}
use mathlib.Core.Logic.{⊎_elim}
use mathlib.Core.List.{List, [], ◌∷◌, map}
use Prim.Native.Nat.{ℕ, suc}
use lib.ListN.{length}
use Rattle.definitions.specs.declared.Order.{Order}
use Rattle.definitions.specs.Words.{same}
use Rattle.definitions.specs.Table.{rank_of, byte_of}
use Rattle.definitions.specs.Census.{comes_before, entered, distinct}
use Rattle.lists.specs.Bools.{contra, not_so, or_cases, or_left, or_right}
use Rattle.lists.specs.Strings.{same_eq, eq_same}
use Rattle.lyndon.specs.Lexical.{lexlt_lt, lt_lexlt, lexlt_not, lt_asym, lt_trans, not_lt}
use Rattle.lyndon.specs.Ranks.{Bytes, bytes_back}

-- x is one of these runs
unfoldable pub stands : List ℕ → List (List ℕ) → Bool
stands x [] = false
stands x (y ∷ runs) = same x y || stands x runs

-- each of these runs is a byte string
abbrev pub AllBytes : List (List ℕ) → Type 0
AllBytes runs = (x : List ℕ) → stands x runs ≡ true → Bytes x

module _ (o : Order) where
  -- the two outcomes of each test of `entered`
  module _ (x y : List ℕ) (runs : List (List ℕ)) where
    enter_same : same x y ≡ true → entered o x (y ∷ runs) ≡ y ∷ runs
    unfolding entered
    enter_same e = rw e

    module _ (n : same x y ≡ false) where
      enter_here : comes_before o x y ≡ true → entered o x (y ∷ runs) ≡ x ∷ y ∷ runs
      unfolding entered
      enter_here e = rw (n, e)

      enter_later : comes_before o x y ≡ false → entered o x (y ∷ runs) ≡ y ∷ entered o x runs
      unfolding entered
      enter_later e = rw (n, e)

  -- ---- which runs stand there

  stands_entered : (z x : List ℕ) (runs : List (List ℕ)) → stands z (entered o x runs) ≡ same z x || stands z runs
  unfolding stands entered
  stands_entered z x [] = refl
  stands_entered z x (y ∷ runs) = go (same x y) refl (comes_before o x y) refl (stands_entered z x runs)
    where
      twice : (a b : Bool) → a || b ≡ a || (a || b)
      twice true b = refl
      twice false b = refl

      swap : (a b c : Bool) → a || (b || c) ≡ b || (a || c)
      swap true true c = refl
      swap true false c = refl
      swap false b c = refl

      go : (a : Bool) → same x y ≡ a → (b : Bool) → comes_before o x y ≡ b → stands z (entered o x runs) ≡ same z x || stands z runs
          → stands z (entered o x (y ∷ runs)) ≡ same z x || (same z y || stands z runs)
      go true e b f ih =
          ap (stands z) (enter_same x y runs e)
          ∙ twice (same z y) (stands z runs)
          ∙ ap (λ (u : List ℕ). same z u || (same z y || stands z runs)) (sym (same_eq x y e))
      go false e true f ih = ap (stands z) (enter_here x y runs e f)
      go false e false f ih =
          ap (stands z) (enter_later x y runs e f)
          ∙ ap (λ (b : Bool). same z y || b) ih
          ∙ swap (same z y) (same z x) (stands z runs)

  stands_distinct : (z : List ℕ) (runs : List (List ℕ)) → stands z (distinct o runs) ≡ stands z runs
  unfolding stands distinct
  stands_distinct z [] = refl
  stands_distinct z (x ∷ runs) = stands_entered z x (distinct o runs) ∙ ap (λ (b : Bool). same z x || b) (stands_distinct z runs)

  -- ---- in rising order

  abbrev Rises : List (List ℕ) → Type 0
  Rises [] = Unit {0}
  Rises (y ∷ runs) = ((z : List ℕ) → stands z runs ≡ true → comes_before o y z ≡ true) × Rises runs

  both_ways : (x y : List ℕ) → comes_before o x y ≡ true → comes_before o y x ≡ true → ⊥
  unfolding comes_before
  both_ways x y e f =
      let a = map (rank_of o) x in
      let b = map (rank_of o) y in
      lt_asym a b (lexlt_lt a b e) (lexlt_lt b a f)

  chained : (x y z : List ℕ) → comes_before o x y ≡ true → comes_before o y z ≡ true → comes_before o x z ≡ true
  unfolding comes_before
  chained x y z e f =
      let a = map (rank_of o) x in
      let b = map (rank_of o) y in
      let c = map (rank_of o) z in
      lt_lexlt a c (lt_trans a b c (lexlt_lt a b e) (lexlt_lt b c f))

  other_way : (x y : List ℕ) → Bytes x → Bytes y → same x y ≡ false → comes_before o x y ≡ false → comes_before o y x ≡ true
  unfolding comes_before
  other_way x y p q n e =
      let a = map (rank_of o) x in
      let b = map (rank_of o) y in
      ⊎_elim
      (λ d. contra (eq_same x y (sym (bytes_back o x p) ∙ ap (map (byte_of o)) d ∙ bytes_back o y q)) n)
      (λ l. lt_lexlt b a l)
      (not_lt a b (lexlt_not a b e))

  rises_entered : (x : List ℕ) (runs : List (List ℕ)) → Bytes x → AllBytes runs → Rises runs → Rises (entered o x runs)
  unfolding stands entered
  rises_entered x [] p q r = (λ z e. absurd (false≢true e), tt)
  rises_entered x (y ∷ runs) p q r =
      go (same x y) refl (comes_before o x y) refl (rises_entered x runs p (λ z e. q z (or_right (same z y) (stands z runs) e)) r.1)
    where
      go : (a : Bool) → same x y ≡ a → (b : Bool) → comes_before o x y ≡ b → Rises (entered o x runs) → Rises (entered o x (y ∷ runs))
      go true e b f ih = subst Rises (sym (enter_same x y runs e)) r
      go false e true f ih =
          subst Rises (sym (enter_here x y runs e f)) (
            (λ z m. ⊎_elim
                (λ d. subst (λ (u : List ℕ). comes_before o x u ≡ true) (sym (same_eq z y d)) f)
                (λ d. chained x y z f (r.0 z d))
                (or_cases (same z y) (stands z runs) m)),
            r,
          )
      go false e false f ih =
          let after = other_way x y p (q y (or_left (same y y) (stands y runs) (eq_same y y refl))) e f in
          subst Rises (sym (enter_later x y runs e f)) (
            (λ z m. ⊎_elim
                (λ d. subst (λ (u : List ℕ). comes_before o y u ≡ true) (sym (same_eq z x d)) after)
                (λ d. r.0 z d)
                (or_cases (same z x) (stands z runs) (sym (stands_entered z x runs) ∙ m))),
            ih,
          )

  rises_distinct : (runs : List (List ℕ)) → AllBytes runs → Rises (distinct o runs)
  unfolding stands distinct
  rises_distinct [] q = tt
  rises_distinct (x ∷ runs) q =
      let rest : AllBytes runs = λ z e. q z (or_right (same z x) (stands z runs) e) in
      rises_entered x (distinct o runs) (q x (or_left (same x x) (stands x runs) (eq_same x x refl)))
      (λ z e. rest z (sym (stands_distinct z runs) ∙ e))
      (rises_distinct runs rest)

  -- ---- how many

  entered_length : (x : List ℕ) (runs : List (List ℕ)) → Rises runs → length (entered o x runs) ≡ cond (stands x runs) (length runs) (suc (length runs))
  unfolding stands entered
  entered_length x [] r = refl
  entered_length x (y ∷ runs) r = go (same x y) refl (comes_before o x y) refl (entered_length x runs r.1)
    where
      one : (b : Bool) (n : ℕ) → suc (cond b n (suc n)) ≡ cond b (suc n) (suc (suc n))
      one true n = refl
      one false n = refl

      go : (a : Bool) → same x y ≡ a → (b : Bool) → comes_before o x y ≡ b → length (entered o x runs) ≡ cond (stands x runs) (length runs) (suc (length runs))
          → length (entered o x (y ∷ runs)) ≡ cond (same x y || stands x runs) (suc (length runs)) (suc (suc (length runs)))
      go true e b f ih = ap length (enter_same x y runs e) ∙ rw e
      go false e true f ih =
          let none : stands x runs ≡ false = not_so (stands x runs) (λ m. both_ways x y f (r.0 x m)) in
          ap length (enter_here x y runs e f) ∙ rw (e, none)
      go false e false f ih = ap length (enter_later x y runs e f) ∙ ap suc ih ∙ one (stands x runs) (length runs) ∙ rw e

  -- one run more
  pub distinct_more : (x : List ℕ) (runs : List (List ℕ)) → AllBytes runs
      → length (distinct o (x ∷ runs)) ≡ cond (stands x runs) (length (distinct o runs)) (suc (length (distinct o runs)))
  unfolding distinct
  distinct_more x runs q =
      entered_length x (distinct o runs) (rises_distinct runs q)
      ∙ ap (λ (b : Bool). cond b (length (distinct o runs)) (suc (length (distinct o runs)))) (stands_distinct x runs)
