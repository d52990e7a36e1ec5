-- Bytes on and off heading: one more on heading (`all_more`), the first that is off (`off_is`), the byte at an index there and 0 (`zero_at`), and what the two checks then answer.
use mathlib.Core.Path.{◌≡◌, refl, sym, ◌∙◌, ap, subst}
use mathlib.Core.Bool.{Bool, true, false, not, ◌&&◌}
use mathlib.Core.List.{List, [], ◌∷◌}
use Prim.Native.Nat.{ℕ, zero, suc, ◌+◌, ◌-◌, ◌≤◌, ◌<◌}
use Prim.Native.Nat.compare
use native.Mathlib.Numerals.{add-one}
use native.Mathlib.Omega.{arith}
use lib.ListN.{length, take, drop, get_or, length-drop}
use lib.Seq.{length-take-le, get_or-take, get_or-drop}
use lib.Dec.{ltb, leb, eqb}
use denote.Ref.{Bor}
use borrow.Author.Tests.{lt-leb, le-leb, lt-ltb, le-ltb, ltb-true}
use Rattle.std.specs.Option.{MatchOption, option_eq, option_copied}
use Rattle.std.specs.List.{slice_get}
use Rattle.std.proofs.Common.{Option, Some, None}
use Rattle.definitions.specs.Words.{every}
use Rattle.definitions.specs.Profile.{on_heading, first_off, at_rest}
use Rattle.definitions.specs.Services.{done, refused, off_heading, not_at_rest}
use Rattle.lists.specs.Bools.{contra}
use Rattle.lists.specs.Numbers.{split_le, every_at, every_all, least_is, least_none}
use Rattle.lists.specs.Decisions.{checked}

module _ (x : List ℕ) where
  -- ---- one byte more

  pub all_more : (i : ℕ) (b : Bool) → b ≡ every (on_heading x) i → b && leb (get_or x i 0) 8 ≡ every (on_heading x) (i + 1)
  unfolding every on_heading
  all_more i b e = ap (λ (a : Bool). a && leb (get_or x i 0) 8) e ∙ sym (ap (every (on_heading x)) (add-one i))

  -- ---- the first that is off heading

  -- those before `start` are on heading, and of the others r is the first that is off
  pub off_is : (start : ℕ) → start ≤ length x → every (on_heading x) start ≡ true → (r : Option ℕ)
      → MatchOption r ((k : ℕ) → start ≤ k → k < length x → get_or x k 0 ≤ 8) (λ i. (start ≤ i) × (i < length x) × (8 < get_or x i 0) × ((k : ℕ) → start ≤ k → k < i → get_or x k 0 ≤ 8))
      → MatchOption r (first_off x ≡ length x) (λ i. (i ≡ first_off x) × (i < length x))
  unfolding first_off on_heading
  off_is start l e r h = go r h
    where
      on : (k : ℕ) → (start ≤ k → get_or x k 0 ≤ 8) → not (on_heading x k) ≡ false
      on k h = split_le start k (λ l. ap not (le-leb (get_or x k 0) 8 (h l))) (λ l. ap not (every_at (on_heading x) start e k l))

      go : (r : Option ℕ) → MatchOption r ((k : ℕ) → start ≤ k → k < length x → get_or x k 0 ≤ 8) (λ i. (start ≤ i) × (i < length x) × (8 < get_or x i 0) × ((k : ℕ) → start ≤ k → k < i → get_or x k 0 ≤ 8))
          → MatchOption r (first_off x ≡ length x) (λ i. (i ≡ first_off x) × (i < length x))
      go None h = least_none (λ j. not (on_heading x j)) (length x) (λ j k. on j (λ m. h j m k))
      go (Some i) (a, b, c, h) = (sym (least_is (λ j. not (on_heading x j)) (length x) i b (rw (lt-leb (get_or x i 0) 8 c)) (λ j k. on j (λ m. h j m k))), b)

  -- ---- a part more

  -- the part from a up to b is on heading, and so is all before it
  pub part_more : (a b : ℕ) → a ≤ b → b ≤ length x → every (on_heading x) a ≡ true
      → every (on_heading (take (b - a) (drop a x))) (length (take (b - a) (drop a x))) ≡ true → every (on_heading x) b ≡ true
  unfolding on_heading
  part_more a b l m h k =
      every_all (on_heading x) b (λ j i. split_le a j
      (λ g. subst (λ (y : ℕ). leb y 8 ≡ true) (within (j - a) (omega arith) ∙ ap (λ (i : ℕ). get_or x i 0) (omega arith)) (every_at (on_heading part) (length part) k (j - a) (omega (arith, size))))
      (λ g. every_at (on_heading x) a h j g))
    where
      part : List ℕ
      part = take (b - a) (drop a x)

      size : length part ≡ b - a
      size = length-take-le (b - a) (drop a x) (omega (arith, length-drop a x))

      within : (i : ℕ) → i < b - a → get_or part i 0 ≡ get_or x (a + i) 0
      within i g = get_or-take (b - a) (drop a x) i 0 g ∙ get_or-drop a x i 0

  -- ---- what the two checks answer

  pub off_refused : first_off x < length x → refused 11 (first_off x) ≡ checked (off_heading false x) (length x)
  off_refused h = rw (lt-ltb (first_off x) (length x) h)

  pub none_off : length x ≤ first_off x → done (length x) 0 ≡ checked (off_heading false x) (length x)
  none_off h = rw (le-ltb (first_off x) (length x) h)

  pub rest_refused : at_rest x ≡ false → refused 12 0 ≡ checked (not_at_rest false x) (length x)
  rest_refused h = rw h

  pub at_rest_fits : at_rest x ≡ true → done (length x) 0 ≡ checked (not_at_rest false x) (length x)
  at_rest_fits h = rw h

-- ---- a byte that is 0

zero_there : (x : List ℕ) (i : ℕ) → option_eq eqb (slice_get x i) (Some 0) ≡ ltb i (length x) && eqb (get_or x i 0) 0
zero_there [] i = sym (ap (λ (b : Bool). b && eqb 0 0) (le-ltb i 0 (omega arith)))
zero_there (a ∷ x) zero = sym (ap (λ (b : Bool). b && eqb a 0) (lt-ltb 0 (length (a ∷ x)) (omega arith)))
zero_there (a ∷ x) (suc i) = rw compare.suc-suc (zero_there x i)

copied_zero : (r : Option (Bor ℕ)) (v : Bor ℕ) → v.now ≡ 0 → option_eq (λ (a b : Bor ℕ). eqb a.now b.now) r (Some v) ≡ option_eq eqb (option_copied r) (Some 0)
copied_zero None v e = refl
copied_zero (Some a) v e = ap (eqb a.now) e

pub zero_at : (x : List ℕ) (i : ℕ) (r : Option (Bor ℕ)) (v : Bor ℕ) → v.now ≡ 0 → option_copied r ≡ slice_get x i
    → option_eq (λ (a b : Bor ℕ). eqb a.now b.now) r (Some v) ≡ ltb i (length x) && eqb (get_or x i 0) 0
zero_at x i r v e f = copied_zero r v e ∙ ap (λ (o : Option ℕ). option_eq eqb o (Some 0)) f ∙ zero_there x i

-- the first byte, and then the last
first_fails : (p q r b : Bool) → b ≡ p && q → b ≡ false → b ≡ p && (q && r)
first_fails true true r b e f = contra e f
first_fails true false r b e f = e
first_fails false q r b e f = e

both_hold : (p q s r b d : Bool) → b ≡ p && q → b ≡ true → d ≡ s && r → (p ≡ true → s ≡ true) → d ≡ p && (q && r)
both_hold true true s r b d e f g h = g ∙ rw (h refl)
both_hold true false s r b d e f g h = contra f e
both_hold false q s r b d e f g h = contra f e

module _ (x : List ℕ) (b : Bool) (e : b ≡ ltb 0 (length x) && eqb (get_or x 0 0) 0) where
  pub first_other : b ≡ false → b ≡ at_rest x
  unfolding at_rest
  first_other f = first_fails (ltb 0 (length x)) (eqb (get_or x 0 0) 0) (eqb (get_or x (length x - 1) 0) 0) b e f

  pub first_zero : b ≡ true → (d : Bool) → d ≡ ltb (length x - 1) (length x) && eqb (get_or x (length x - 1) 0) 0 → d ≡ at_rest x
  unfolding at_rest
  first_zero f d g =
      both_hold (ltb 0 (length x)) (eqb (get_or x 0 0) 0) (ltb (length x - 1) (length x)) (eqb (get_or x (length x - 1) 0) 0) b d e f g
      (λ t. let l = ltb-true 0 (length x) t in lt-ltb (length x - 1) (length x) (omega arith))
