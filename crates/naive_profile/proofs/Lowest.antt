-- The lowest byte above 8 of those from an index on: one byte more before them, and at last the first of all (`lowest_first`), by which a drive is judged
-- (`profile_off`).
use mathlib.Core.Path.{◌≡◌, refl, sym, ◌∙◌, ap}
use mathlib.Core.Bool.{Bool, true, false, not, ◌&&◌}
use mathlib.Core.List.{List}
use Prim.Native.Nat.{ℕ, ◌≤◌, ◌<◌}
use native.Mathlib.Omega.{arith}
use lib.ListN.{length, get_or}
use lib.Dec.{ltb}
use borrow.Author.Tests.{lt-leb, le-leb}
use Rattle.definitions.specs.Words.{every, least}
use Rattle.definitions.specs.Profile.{on_heading, first_off, at_rest, is_profile}
use Rattle.lists.specs.Numbers.{split_lt, least_le, least_is, least_none, every_least}

-- of the bytes from i on, the lowest above 8 stands at k, or none does and k is the length
pub record LowestFrom (x : List ℕ) (i k : ℕ) : Type 0 where
  pub low : i ≤ k
  pub high : k ≤ length x
  pub off : k < length x → 8 < get_or x k 0
  pub on : (j : ℕ) → i ≤ j → j < k → get_or x j 0 ≤ 8

pub lowest_first : (x : List ℕ) (i k : ℕ) → i ≡ 0 → LowestFrom x i k → k ≡ first_off x
unfolding first_off on_heading
lowest_first x i k e p = sym (split_lt k (length x)
    (λ h. least_is (λ j. not (on_heading x j)) (length x) k h (rw (lt-leb (get_or x k 0) 8 (p.off h))) passed)
    (λ h. least_none (λ j. not (on_heading x j)) (length x) (λ j l. passed j (omega arith)) ∙ sym h)
    (λ h. absurd (omega (arith, p.high))))
  where
    passed : (j : ℕ) → j < k → not (on_heading x j) ≡ false
    passed j l = ap not (le-leb (get_or x j 0) 8 (p.on j (omega arith) l))

-- a drive is a profile drive where none is off heading and it is at rest
pub profile_off : (x : List ℕ) → is_profile x ≡ not (ltb (first_off x) (length x)) && at_rest x
unfolding is_profile first_off
profile_off x = go (every (on_heading x) (length x)) refl
  where
    go : (b : Bool) → every (on_heading x) (length x) ≡ b
        → every (on_heading x) (length x) && at_rest x ≡ not (ltb (least (λ i. not (on_heading x i)) (length x)) (length x)) && at_rest x
    go true e = rw (e, every_least (on_heading x) (length x) true e)
    go false e = rw (e, every_least (on_heading x) (length x) false e)

pub first_le : (x : List ℕ) → first_off x ≤ length x
unfolding first_off
first_le x = least_le (λ j. not (on_heading x j)) (length x)
