-- How many digits a number has, how long its line is, and how it is written: digits from the last to the first, then the end of the line.
use mathlib.Core.Path.{◌≡◌, refl, sym, ◌∙◌, ap}
use mathlib.Core.Bool.{Bool, true, false, cond}
use mathlib.Core.List.{List, [], ◌∷◌, ◌++◌}
use Prim.Native.Nat.{ℕ, zero, suc, ◌+◌, ◌-◌, ◌/◌, ◌%◌, ◌^◌, ◌≤◌, ◌<◌}
use native.Mathlib.Omega.{arith}
use native.Mathlib.Nat.{pow-suc}
use lib.ListN.{length, set, length-append}
use lib.Dec.{ltb}
use borrow.Author.Tests.{lt-ltb, le-ltb}
use Rattle.definitions.specs.Words.{placed}
use Rattle.lists.specs.Lists.{placed_none, placed_more, placed_last}
use Rattle.definitions.specs.Programs.{digits, digits_up_to, digit_count, decimal, line}

-- ---- lengths

digits_length : (k n : ℕ) → length (digits k n) ≡ k
unfolding digits
digits_length zero n = refl
digits_length (suc k) n = length-append (digits k (n / 10)) ((48 + n % 10) ∷ []) ∙ omega (arith, digits_length k (n / 10))

digits_range : (k n : ℕ) → (0 < digits_up_to k n) × (digits_up_to k n ≤ suc k)
unfolding digits_up_to
digits_range zero n = (omega arith, omega arith)
digits_range (suc k) n = go (ltb n 10) (digits_range k (n / 10))
  where
    go : (b : Bool) → (0 < digits_up_to k (n / 10)) × (digits_up_to k (n / 10) ≤ suc k)
        → (0 < cond b 1 (suc (digits_up_to k (n / 10)))) × (cond b 1 (suc (digits_up_to k (n / 10))) ≤ suc (suc k))
    go true h = (omega arith, omega arith)
    go false h = (omega arith, omega arith)

pub count_range : (n : ℕ) → (0 < digit_count n) × (digit_count n ≤ 10)
unfolding digit_count
count_range n = digits_range 9 n

-- where n - 1 digits are counted, what is left of the number has up to 10 - n + 1
pub count_starts : (m : ℕ) → digit_count m + 1 ≡ 1 + digits_up_to (10 - 1) m
unfolding digit_count
count_starts m = omega arith

pub count_small : (k rest : ℕ) → rest < 10 → digits_up_to k rest ≡ 1
unfolding digits_up_to
count_small zero rest h = refl
count_small (suc k) rest h = rw (lt-ltb rest 10 h)

pub count_more : (n rest : ℕ) → n < 10 → 10 ≤ rest → digits_up_to (10 - n) rest ≡ suc (digits_up_to (10 - (n + 1)) (rest / 10))
unfolding digits_up_to
count_more n rest h l =
    let e : 10 - n ≡ suc (10 - (n + 1)) = omega arith in
    ap (λ (k : ℕ). digits_up_to k rest) e ∙ (rw (le-ltb rest 10 l))

pub count_ends : (n rest : ℕ) → 10 ≤ n → digits_up_to (10 - n) rest ≡ 1
unfolding digits_up_to
count_ends n rest h =
    let e : 10 - n ≡ 0 = omega arith in
    ap (λ (k : ℕ). digits_up_to k rest) e

pub decimal_length : (n : ℕ) → length (decimal n) ≡ digit_count n
unfolding decimal
decimal_length n = digits_length (digit_count n) n

pub line_most : (n : ℕ) → length (line (decimal n)) ≤ 11
unfolding line
line_most n = omega (arith, length-append (decimal n) (10 ∷ []), decimal_length n, (count_range n).1)

-- below 10, below 100 and so on: one digit, two and so on
digits_most : (m k n : ℕ) → n < 10 ^ suc k → digits_up_to m n ≤ suc k
unfolding digits_up_to
digits_most zero k n h = omega arith
digits_most (suc m) zero n h = rw (lt-ltb n 10 h) (omega arith)
digits_most (suc m) (suc k) n h = go (ltb n 10) (digits_most m k (n / 10) (omega (arith, pow-suc 10 (suc k))))
  where
    go : (b : Bool) → digits_up_to m (n / 10) ≤ suc k → cond b 1 (suc (digits_up_to m (n / 10))) ≤ suc (suc k)
    go true l = omega arith
    go false l = omega arith

pub decimal_most : (k n : ℕ) → n < 10 ^ suc k → length (decimal n) ≤ suc k
unfolding digit_count
decimal_most k n h = omega (arith, decimal_length n, digits_most 9 k n h)

-- ---- digits from the last to the first

pub digit_stored : (i n : ℕ) (out : List ℕ) → 0 < i → i ≤ length out
    → placed (digits (i - 1) (n / 10)) (set out (i - 1) (48 + n % 10)) ≡ placed (digits i n) out
unfolding digits
digit_stored zero n out h k = absurd (omega arith)
digit_stored (suc j) n out h k =
    let x = 48 + n % 10 in
    let less : suc j - 1 ≡ j = omega arith in
    ap (λ (m : ℕ). placed (digits m (n / 10)) (set out m x)) less
    ∙ ap (λ (m : ℕ). placed (digits j (n / 10)) (set out m x)) (sym (digits_length j (n / 10)))
    ∙ sym (placed_last (digits j (n / 10)) out x (omega (arith, digits_length j (n / 10))))

-- none is left
pub digits_none : (i n : ℕ) (out : List ℕ) → i ≡ 0 → placed (digits i n) out ≡ out
unfolding digits
digits_none i n out e = ap (λ (k : ℕ). placed (digits k n) out) e ∙ placed_none out

-- ---- what the functions leave

-- bytes, and one more behind them
one_stored : (x : ℕ) (l old out : List ℕ) (k : ℕ) → length l < length old → k ≡ length l → out ≡ placed l old
    → (k + 1 ≡ length (l ++ (x ∷ []))) × (set out k x ≡ placed (l ++ (x ∷ [])) old)
one_stored x l old out k h e f = (
  omega (arith, length-append l (x ∷ [])),
  ap (λ (o : List ℕ). set o k x) f ∙ ap (λ (m : ℕ). set (placed l old) m x) e ∙ sym (placed_more l old x h),
)

-- what stands in a line, and the byte that ends it
pub line_stored : (l old out : List ℕ) (k : ℕ) → length l < length old → k ≡ length l → out ≡ placed l old
    → (k + 1 ≡ length (line l)) × (set out k 10 ≡ placed (line l) old)
unfolding line
line_stored l old out k h e f = one_stored 10 l old out k h e f

pub decimal_stored : (n x k : ℕ) (old out : List ℕ) → length (decimal n) < length old → k ≡ digit_count n → out ≡ placed (digits k n) old
    → (k + 1 ≡ length (decimal n ++ (x ∷ []))) × (set out k x ≡ placed (decimal n ++ (x ∷ [])) old)
unfolding decimal
decimal_stored n x k old out h e f =
    one_stored x (decimal n) old out k h (omega (arith, digits_length (digit_count n) n)) (f ∙ ap (λ (m : ℕ). placed (digits m n) old) e)
