-- How long is what a loop writes turn by turn (`turns_most`), and how it stands at the front of a slice: nothing at first (`turns_none`), room for one turn more
-- (`turns_spare`, `turns_room`), one turn more in the rest of the slice (`turns_stored`), and all (`turns_all`).
use mathlib.Core.Path.{◌≡◌, sym, ◌∙◌, ap}
use mathlib.Core.List.{List, ◌++◌, append_assoc, append-nil}
use Prim.Native.Nat.{ℕ, zero, suc, ◌+◌, ◌-◌, ◌*◌, ◌≤◌, ◌<◌}
use native.Mathlib.Omega.{arith}
use native.Mathlib.Numerals.{add-one}
use native.Mathlib.Nat.{mul-suc, add-le-add, mul-le-mul_left}
use lib.ListN.{length, take, drop, length-append}
use Rattle.definitions.specs.Words.{placed}
use Rattle.lists.specs.Lists.{placed_length, placed_both, Fronted, fronted_none, fronted_as}
use Rattle.lines.specs.Turns.{turns}

-- the first turn, and those behind it
pub turns_first : (f : ℕ → List ℕ) (n : ℕ) → turns f (suc n) ≡ f 0 ++ turns (λ i. f (suc i)) n
unfolding turns
turns_first f zero = sym (append-nil (f 0))
turns_first f (suc n) = ap (λ (l : List ℕ). l ++ f (suc n)) (turns_first f n) ∙ append_assoc (f 0) (turns (λ i. f (suc i)) n) (f (suc n))

-- at most k bytes a turn
pub turns_most : (f : ℕ → List ℕ) (k n : ℕ) → ((i : ℕ) → i < n → length (f i) ≤ k) → length (turns f n) ≤ k * n
unfolding turns
turns_most f k zero h = omega arith
turns_most f k (suc n) h =
    let more = add-le-add (turns_most f k n (λ i l. h i (omega arith))) (h n (omega arith)) in
    omega (arith, length-append (turns f n) (f n), mul-suc k n)

-- a front of n bytes, and behind it, in the rest of the slice, m more
pub both_stored : (u v old w z : List ℕ) (n m : ℕ) → length u + length v ≤ length old → n ≡ length u → w ≡ placed u old → m ≡ length v
    → z ≡ placed v (take (length w - n) (drop n w))
    → (n + m ≡ length (u ++ v)) × (take n w ++ (z ++ drop (length w - n) (drop n w)) ≡ placed (u ++ v) old)
both_stored u v old w z n m h e f g i =
    (omega (arith, length-append u v), placed_both u v old w z n e h f i)

-- what is written, with old there before, once i turns have given n bytes
module _ (f : ℕ → List ℕ) {old w : List ℕ} where
  -- room for one turn more, and so many bytes besides
  pub turns_spare : (k spare i n : ℕ) {m : ℕ} → ((j : ℕ) → j < n → length (f j) ≤ k) → i < n → k * n + spare ≤ length old → Fronted (turns f i) old m w → m + k + spare ≤ length old
  turns_spare k spare i n most h room x = omega (arith, x.count, turns_most f k i (λ j l. most j (omega arith)), mul-suc k i, mul-le-mul_left k h)

  pub turns_room : (k i n : ℕ) {m : ℕ} → ((j : ℕ) → j < n → length (f j) ≤ k) → i < n → k * n ≤ length old → Fronted (turns f i) old m w → m + k ≤ length old
  turns_room k i n most h room x = omega (arith, turns_spare k 0 i n most h (omega arith) x)

  pub turns_stored : {v z : List ℕ} (i : ℕ) {n m : ℕ} → v ≡ f i → n + length (f i) ≤ length old → Fronted (turns f i) old n w → m ≡ length v
      → z ≡ placed v (take (length w - n) (drop n w))
      → (length (take n w ++ (z ++ drop (length w - n) (drop n w))) ≡ length old)
      × Fronted (turns f (i + 1)) old (n + m) (take n w ++ (z ++ drop (length w - n) (drop n w)))
  unfolding turns
  turns_stored {v} {z} i {n} {m} e room x q r =
      let more : turns f i ++ v ≡ turns f (i + 1) = ap (λ (y : List ℕ). turns f i ++ y) e ∙ ap (turns f) (sym (add-one i)) in
      let size : length v ≡ length (f i) = ap length e in
      let (count, whole) = both_stored (turns f i) v old w z n m (omega (arith, x.count)) x.count x.holds q r in (
        ap length whole ∙ placed_length (turns f i ++ v) old (omega (arith, x.count, length-append (turns f i) v)),
        record { count = count ∙ ap length more; holds = whole ∙ ap (λ (y : List ℕ). placed y old) more },
      )

  pub turns_all : {l : List ℕ} (i n : ℕ) {m : ℕ} → i ≡ n → turns f n ≡ l → Fronted (turns f i) old m w → (m ≡ length l) × (w ≡ placed l old)
  turns_all i n e g x = fronted_as (ap (turns f) e ∙ g) x

pub turns_none : (f : ℕ → List ℕ) (old : List ℕ) → Fronted (turns f 0) old 0 old
unfolding turns
turns_none f old = fronted_none old
