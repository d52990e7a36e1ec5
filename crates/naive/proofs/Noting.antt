-- Noting: the numbers noted at the front of a slice are those below the one reached of which a test holds. There are none at first (`none_noted`), and
-- each turn notes one more where the test holds of it (`noted`), and none where it fails (`passed`).
use mathlib.Core.Path.{◌≡◌, sym, ◌∙◌, ap, ap₂}
use mathlib.Core.Bool.{Bool, true, false}
use mathlib.Core.List.{List}
use Prim.Native.Nat.{ℕ, ◌+◌, ◌≤◌, ◌<◌}
use native.Mathlib.Omega.{arith}
use native.Mathlib.Numerals.{add-one}
use lib.ListN.{length, set}
use Rattle.definitions.specs.Words.{below, placed}
use Rattle.lists.specs.Numbers.{below_length, below_more, below_same, count_more}
use Rattle.lists.specs.Lists.{placed_more, Fronted, fronted_none}

module _ (f : ℕ → Bool) where
  pub none_noted : (old : List ℕ) → Fronted (below f 0) old 0 old
  unfolding below
  none_noted old = fronted_none old

  module _ (i : ℕ) {old out : List ℕ} {n : ℕ} (x : Fronted (below f i) old n out) where
    -- at most one for each number
    pub room : n ≤ i
    room = omega (arith, x.count, below_length f i)

    pub noted : {new : List ℕ} {m : ℕ} → i < length old → f i ≡ true → m ≡ n + 1 → new ≡ set out n i → Fronted (below f (i + 1)) old m new
    noted h e q r =
        rw (add-one i) record {
          count = omega (arith, x.count, count_more f i e);
          holds = r
              ∙ ap₂ {C = List ℕ} (λ y j. set y j i) x.holds x.count
              ∙ sym (placed_more (below f i) old i (omega (arith, below_length f i)))
              ∙ ap (λ (l : List ℕ). placed l old) (sym (below_more f i e));
        }

    pub passed : {new : List ℕ} {m : ℕ} → f i ≡ false → m ≡ n → new ≡ out → Fronted (below f (i + 1)) old m new
    passed e q r =
        rw (add-one i, below_same f i e) record { count = q ∙ x.count; holds = r ∙ x.holds }
