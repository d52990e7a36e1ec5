-- A rule that is entered: it was met before, and nothing changes; or its entry and its place are stored, and the lengths stay (`sized_entered`).
-- Either way it is entered in the chain of what is left to test (`enters`).
use mathlib.Core.Path.{◌≡◌, sym, ◌∙◌, subst}
use mathlib.Core.Bool.{Bool, ◌&&◌}
use mathlib.Core.List.{List}
use Prim.Native.Nat.{ℕ, ◌+◌, ◌≤◌, ◌<◌}
use native.Mathlib.Omega.{arith}
use lib.ListN.{set, length-set}
use lib.Seq.{get_or-set_same, get_or-set_other}
use borrow.Author.Tests.{lt-ltb, le-ltb}
use Rattle.definitions.specs.declared.Order.{Order}
use Rattle.definitions.specs.Table.{rule_string, spelled, rule_count}
use Rattle.lists.specs.Numbers.{split_le}
use Rattle.lyndon.specs.Meeting.{after, meets}
use Rattle.lyndon.specs.Ruled.{halves}
use Rattle.lyndon.specs.Entries.{Entering, enter_old, enter_new}
use Rattle.lyndon.specs.Filling.{Stands}
use Rattle.layout.specs.Layout.{ENTRIES, PLACES, LENGTHS, length_in, entry_in}
use Rattle.lengths.specs.Lengths.{Sized}
use Rattle.lengths.proofs.Sizes.{rules_few}
use Rattle.entries.specs.Entries.{entered, StandsIn}

-- ---- the slice

pub entered_old : (w : List ℕ) (e q x : ℕ) → q < e → entered w e q x ≡ w
unfolding entered
entered_old w e q x h = rw (lt-ltb q e h)

pub entered_new : (w : List ℕ) (e q x : ℕ) → e ≤ q → entered w e q x ≡ set (set w (ENTRIES + q) e) (PLACES + q) x
unfolding entered
entered_new w e q x h = rw (le-ltb q e h)

-- a store behind the lengths
stored_sized : {t w : List ℕ} {n : ℕ} (i x : ℕ) → Sized t n w → n ≤ 2304 → PLACES ≤ i → Sized t n (set w i x)
stored_sized {t} {w} {n} i x s m h =
    let other : (r : ℕ) → r < n → length_in (set w i x) r ≡ length_in w r = λ r l. get_or-set_other w i (LENGTHS + r) x 0 (λ z. omega arith) in
    record {
      lent = record { shaped = s.lent.shaped; few = s.lent.few; long = simp length-set s.lent.long };
      short = λ r l. omega (arith, other r l, s.short r l);
      sizes = λ o r l. other r l ∙ s.sizes o r l;
    }

pub sized_entered : {t w : List ℕ} (e q x : ℕ) → Sized t (rule_count t) w → Sized t (rule_count t) (entered w e q x)
sized_entered {t} {w} e q x s =
    let few = rules_few s.lent in
    split_le e q (λ h. rw (entered_new w e q x h) (stored_sized (PLACES + q) x (stored_sized (ENTRIES + q) e s few (omega arith)) few (omega arith))) (λ h. rw (entered_old w e q x h) s)

-- ---- the chain

module _ {t w : List ℕ} {e n : ℕ} {b : Bool} (s : Sized t (rule_count t) w) (k : Entering (halves t) (rule_count t) (entry_in w) (StandsIn t w) e n b)
    (q x : ℕ) (low : q < n) (rule : q < rule_count t) (at : (o : Order) → Stands (spelled o t) (rule_string o t q) x) where
  abbrev Enters : List ℕ → Type 0
  Enters v = Entering (halves t) (rule_count t) (entry_in v) (StandsIn t v) (after e q) n (meets (halves t) e q && b)

  new : e ≤ q → Enters (set (set w (ENTRIES + q) e) (PLACES + q) x)
  new l =
      let few = rules_few s.lent in
      let long = s.lent.long in
      enter_new k q l low rule
      (get_or-set_other (set w (ENTRIES + q) e) (PLACES + q) (ENTRIES + q) x 0 (λ y. omega arith) ∙ get_or-set_same w (ENTRIES + q) e 0 (omega arith))
      (λ o. subst (Stands (spelled o t) (rule_string o t q)) (sym (get_or-set_same (set w (ENTRIES + q) e) (PLACES + q) x 0 (simp length-set (omega arith)))) (at o))
      (λ i c d. get_or-set_other (set w (ENTRIES + q) e) (PLACES + q) (ENTRIES + i) x 0 (λ y. omega arith) ∙ get_or-set_other w (ENTRIES + q) (ENTRIES + i) e 0 (λ y. d (omega arith)))
      (λ i c d f o. subst (Stands (spelled o t) (rule_string o t i)) (sym (get_or-set_other (set w (ENTRIES + q) e) (PLACES + q) (PLACES + i) x 0 (λ y. d (omega arith)) ∙ get_or-set_other w (ENTRIES + q) (PLACES + i) e 0 (λ y. omega arith))) (f o))

  pub enters : Entering (halves t) (rule_count t) (entry_in (entered w e q x)) (StandsIn t (entered w e q x)) (after e q) n (meets (halves t) e q && b)
  enters = split_le e q (λ h. subst Enters (sym (entered_new w e q x h)) (new h)) (λ h. subst Enters (sym (entered_old w e q x h)) (enter_old k q h))
