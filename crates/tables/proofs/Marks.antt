-- Whether of the first symbols the first alone is the mark, decided with one symbol more a turn: b says that it is not so.
use mathlib.Core.Path.{◌≡◌, refl}
use mathlib.Core.Bool.{Bool, true, false, not, ◌||◌, true≢false}
use mathlib.Core.List.{List}
use Prim.Native.Nat.{ℕ, ◌+◌, ◌<◌}
use native.Mathlib.Omega.{arith}
use lib.ListN.{get_or}
use lib.Dec.{eqb}
use borrow.Author.Tests.{eqb-true, eqb-false, not-true, not-false}
use Rattle.lists.specs.Numbers.{split_lt}
use Rattle.tables.specs.Loading.{Front}

abbrev pub Decided : Bool → List ℕ → ℕ → Type 0
Decided b w n = (b ≡ false → Front w n) × (b ≡ true → Front w n → ⊥)

pub first_decided : (w : List ℕ) → Decided (not (eqb (get_or w 0 0) 0)) w 1
first_decided w =
    (λ e. record { mark = eqb-true (get_or w 0 0) 0 (not-false (eqb (get_or w 0 0) 0) e); samples = λ k p l. absurd (omega arith) }, λ e f. absurd (eqb-false (get_or w 0 0) 0 (not-true (eqb (get_or w 0 0) 0) e) f.mark))

pub next_decided : (w : List ℕ) (i : ℕ) (b : Bool) → 0 < i → Decided b w i → Decided (b || eqb (get_or w i 0) 0) w (i + 1)
next_decided w i false h d =
    let f = d.0 refl in (
      λ e. record { mark = f.mark; samples = λ k p l. split_lt k i (f.samples k p) (λ q. rw q (let z = eqb-false (get_or w i 0) 0 e in omega arith)) (λ m. absurd (omega arith)) },
      λ e g. absurd (omega (arith, g.samples i h (omega arith), eqb-true (get_or w i 0) 0 e)),
    )
next_decided w i true h d = (λ e. absurd (true≢false e), λ e g. d.1 refl (record { mark = g.mark; samples = λ k p l. g.samples k p (omega arith) }))
