-- The key of a run: a number whose digits to base 256 are the ranks of the samples less 1. Runs of one length compare as their keys do (`key_before`, `key_same`), and a
-- run comes back from its key (`key_back`).
use Rattle.std.specs.Prelude.{◌≡◌, ◌&&◌, ◌||◌, drop, ltb, eqb}
use Rattle.std.proofs.Math.Path.{refl, sym, ap, subst}
use Rattle.std.proofs.Common.{◌∙◌, mul_assoc, take-suc}
use mathlib.Core.List.Memᴰ.{head as here}
use mathlib.Core.List.Memᴰ.{tail as there}
use mathlib.Core.List.{List, [], ◌∷◌, ◌++◌, map}
use Prim.Native.Nat.{ℕ, zero, suc, ◌+◌, ◌-◌, ◌*◌, ◌/◌, ◌%◌, ◌^◌, ◌≤◌, ◌<◌}
use native.Mathlib.Omega.{arith}
use Rattle.std.proofs.Math.Nat.{add-mul, suc-mul, pow-suc, mul_comm, mul-le-mul_right, pow-le-pow_right}
use Rattle.std.proofs.Math.Numerals.{add-one}
use Rattle.std.proofs.Math.ListN.{length, take, get_or, length-append}
use Rattle.std.proofs.Math.Seq.{take-length}
use borrow.Author.Tests.{ltb-true, lt-ltb, le-ltb, eqb-true, eq-eqb, ne_eqb}
use Rattle.definitions.specs.declared.Order.{Order}
use Rattle.definitions.specs.Words.{same, lexlt}
use Rattle.definitions.specs.Table.{rank_of, byte_of}
use Rattle.lists.specs.Bools.{bool_ext, or_left}
use Rattle.lists.specs.Numbers.{split_lt}
use Rattle.lists.specs.Members.{at_in, in_take, in_drop}
use Rattle.lyndon.specs.Ranks.{Bytes, rank_range, byte_of_rank}

-- a sample as a digit
unfoldable pub digit_of : Order → ℕ → ℕ
digit_of o b = rank_of o b - 1

unfoldable pub key_of : Order → List ℕ → ℕ
key_of o [] = 0
key_of o (b ∷ run) = digit_of o b * 256 ^ length run + key_of o run

-- the run of q samples with the key k
unfoldable pub run_with : Order → ℕ → ℕ → List ℕ
run_with o zero k = []
run_with o (suc q) k = run_with o q (k / 256) ++ (byte_of o (suc (k % 256)) ∷ [])

-- ---- parts of a string of bytes

pub bytes_take : (i : ℕ) (l : List ℕ) → Bytes l → Bytes (take i l)
bytes_take i l h b m = h b (in_take i l b m)

pub bytes_drop : (i : ℕ) (l : List ℕ) → Bytes l → Bytes (drop i l)
bytes_drop i l h b m = h b (in_drop i l b m)

-- ---- two numbers by their highest digits, a and b, and the rest

number_less : (a b P x y : ℕ) → x < P → y < P → ltb (a * P + x) (b * P + y) ≡ ltb a b || (eqb a b && ltb x y)
number_less a b P x y h k = split_lt a b
    (λ l. lt-ltb (a * P + x) (b * P + y) (omega (arith, mul-le-mul_right P l, suc-mul a P)) ∙ sym (or_left (ltb a b) (eqb a b && ltb x y) (lt-ltb a b l)))
    (λ e. rw (le-ltb a b (omega arith), eq-eqb a b e, e) (bool_ext (ltb (b * P + x) (b * P + y)) (ltb x y) (λ g. lt-ltb x y (omega (arith, ltb-true (b * P + x) (b * P + y) g))) (λ g. lt-ltb (b * P + x) (b * P + y) (omega (arith, ltb-true x y g)))))
    (λ l. rw (le-ltb a b (omega arith), ne_eqb a b (λ e. omega arith)) (le-ltb (a * P + x) (b * P + y) (omega (arith, mul-le-mul_right P l, suc-mul b P))))

number_same : (a b P x y : ℕ) → x < P → y < P → eqb (a * P + x) (b * P + y) ≡ eqb a b && eqb x y
number_same a b P x y h k = split_lt a b
    (λ l. rw (ne_eqb a b (λ e. omega arith)) (ne_eqb (a * P + x) (b * P + y) (λ e. omega (arith, mul-le-mul_right P l, suc-mul a P))))
    (λ e. rw (eq-eqb a b e, e) (bool_ext (eqb (b * P + x) (b * P + y)) (eqb x y) (λ g. eq-eqb x y (omega (arith, eqb-true (b * P + x) (b * P + y) g))) (λ g. eq-eqb (b * P + x) (b * P + y) (omega (arith, eqb-true x y g)))))
    (λ l. rw (ne_eqb a b (λ e. omega arith)) (ne_eqb (a * P + x) (b * P + y) (λ e. omega (arith, mul-le-mul_right P l, suc-mul b P))))

module _ (o : Order) where
  digit_is : (b : ℕ) → b < 256 → rank_of o b ≡ suc (digit_of o b)
  unfolding digit_of
  digit_is b h = omega (arith, rank_range o b h)

  pub digit_range : (b : ℕ) → b < 256 → digit_of o b < 256
  unfolding digit_of
  digit_range b h = omega (arith, rank_range o b h)

  -- ---- one sample more

  key_behind : (run : List ℕ) (b : ℕ) → key_of o (run ++ (b ∷ [])) ≡ key_of o run * 256 + digit_of o b
  unfolding key_of
  key_behind [] b = omega arith
  key_behind (a ∷ run) b =
      let P = 256 ^ length run in
      let d = digit_of o a in
      let size : length (run ++ (b ∷ [])) ≡ suc (length run) = length-append run (b ∷ []) ∙ add-one (length run) in
      let high : d * 256 ^ length (run ++ (b ∷ [])) ≡ d * P * 256 = ap (λ (n : ℕ). d * 256 ^ n) size ∙ ap (λ (n : ℕ). d * n) (pow-suc 256 (length run)) ∙ sym (mul_assoc d P 256) in
      omega (arith, high, key_behind run b, add-mul (d * P) (key_of o run) 256)

  pub key_more : (run : List ℕ) (i : ℕ) → i < length run → key_of o (take (i + 1) run) ≡ key_of o (take i run) * 256 + digit_of o (get_or run i 0)
  key_more run i h =
      ap (λ (n : ℕ). key_of o (take n run)) (add-one i)
      ∙ ap (key_of o) (take-suc run i 0 h)
      ∙ key_behind (take i run) (get_or run i 0)

  -- ---- how great a key is

  pub key_range : (run : List ℕ) → Bytes run → key_of o run < 256 ^ length run
  unfolding key_of
  key_range [] h = omega arith
  key_range (b ∷ run) h =
      let P = 256 ^ length run in
      let d = digit_of o b in
      let most : suc d * P ≤ 256 * P = mul-le-mul_right P (digit_range b (h b (here refl))) in
      omega (arith, most, suc-mul d P, mul_comm P 256, pow-suc 256 (length run), key_range run (λ x m. h x (there m)))

  -- eight digits fit in 64 bits
  pub key_fits : (run : List ℕ) → Bytes run → length run ≤ 8 → key_of o run < 18446744073709551616
  key_fits run h l = omega (arith, key_range run h, pow-le-pow_right {n = 256} (omega arith) {i = length run} {j = 8} l)

  -- ---- keys compare as runs do

  ranks_same : (a b : ℕ) → a < 256 → b < 256 → (ltb (rank_of o a) (rank_of o b) ≡ ltb (digit_of o a) (digit_of o b)) × (eqb (rank_of o a) (rank_of o b) ≡ eqb (digit_of o a) (digit_of o b)) × (eqb a b ≡ eqb (digit_of o a) (digit_of o b))
  unfolding digit_of
  ranks_same a b h k =
      let ra = (rank_range o a h).0 in
      let rb = (rank_range o b k).0 in (
        bool_ext (ltb (rank_of o a) (rank_of o b)) (ltb (digit_of o a) (digit_of o b))
            (λ e. lt-ltb (rank_of o a - 1) (rank_of o b - 1) (omega (arith, ltb-true (rank_of o a) (rank_of o b) e)))
            (λ e. lt-ltb (rank_of o a) (rank_of o b) (omega (arith, ltb-true (rank_of o a - 1) (rank_of o b - 1) e))),
        bool_ext (eqb (rank_of o a) (rank_of o b)) (eqb (digit_of o a) (digit_of o b))
            (λ e. eq-eqb (rank_of o a - 1) (rank_of o b - 1) (ap (λ (n : ℕ). n - 1) (eqb-true (rank_of o a) (rank_of o b) e)))
            (λ e. eq-eqb (rank_of o a) (rank_of o b) (omega (arith, eqb-true (rank_of o a - 1) (rank_of o b - 1) e))),
        bool_ext (eqb a b) (eqb (digit_of o a) (digit_of o b))
            (λ e. eq-eqb (rank_of o a - 1) (rank_of o b - 1) (ap (λ (n : ℕ). rank_of o n - 1) (eqb-true a b e)))
            (λ e. eq-eqb a b (sym (byte_of_rank o a h) ∙ ap (byte_of o) (omega (arith, eqb-true (rank_of o a - 1) (rank_of o b - 1) e)) ∙ byte_of_rank o b k)),
      )

  pub key_before : (x y : List ℕ) → Bytes x → Bytes y → length x ≡ length y → lexlt (map (rank_of o) x) (map (rank_of o) y) ≡ ltb (key_of o x) (key_of o y)
  unfolding lexlt key_of
  key_before [] [] h k e = refl
  key_before [] (b ∷ y) h k e = absurd (omega arith)
  key_before (a ∷ x) [] h k e = absurd (omega arith)
  key_before (a ∷ x) (b ∷ y) h k e =
      let len : length x ≡ length y = omega arith in
      let hx : Bytes x = λ c m. h c (there m) in
      let hy : Bytes y = λ c m. k c (there m) in
      let (less, equal, bytes) = ranks_same a b (h a (here refl)) (k b (here refl)) in
      let yr : key_of o y < 256 ^ length x = subst (λ (n : ℕ). key_of o y < 256 ^ n) (sym len) (key_range y hy) in
      rw (less, equal, key_before x y hx hy len, ← len) (sym (number_less (digit_of o a) (digit_of o b) (256 ^ length x) (key_of o x) (key_of o y) (key_range x hx) yr))

  pub key_same : (x y : List ℕ) → Bytes x → Bytes y → length x ≡ length y → same x y ≡ eqb (key_of o x) (key_of o y)
  unfolding same key_of
  key_same [] [] h k e = refl
  key_same [] (b ∷ y) h k e = absurd (omega arith)
  key_same (a ∷ x) [] h k e = absurd (omega arith)
  key_same (a ∷ x) (b ∷ y) h k e =
      let len : length x ≡ length y = omega arith in
      let hx : Bytes x = λ c m. h c (there m) in
      let hy : Bytes y = λ c m. k c (there m) in
      let (less, equal, bytes) = ranks_same a b (h a (here refl)) (k b (here refl)) in
      let yr : key_of o y < 256 ^ length x = subst (λ (n : ℕ). key_of o y < 256 ^ n) (sym len) (key_range y hy) in
      rw (bytes, key_same x y hx hy len, ← len) (sym (number_same (digit_of o a) (digit_of o b) (256 ^ length x) (key_of o x) (key_of o y) (key_range x hx) yr))

  -- ---- a run comes back from its key

  back_front : (run : List ℕ) → Bytes run → (i : ℕ) → i ≤ length run → run_with o i (key_of o (take i run)) ≡ take i run
  unfolding run_with
  back_front run h zero l = refl
  back_front run h (suc i) l =
      let b = get_or run i 0 in
      let hb = h b (at_in run i (omega arith)) in
      let d = digit_of o b in
      let dr = digit_range b hb in
      let e : key_of o (take (suc i) run) ≡ key_of o (take i run) * 256 + d = ap (λ (n : ℕ). key_of o (take n run)) (sym (add-one i)) ∙ key_more run i (omega arith) in
      let high : key_of o (take (suc i) run) / 256 ≡ key_of o (take i run) = omega arith in
      let low : key_of o (take (suc i) run) % 256 ≡ d = omega arith in
      rw (high, low, back_front run h i (omega arith)) (ap (λ (x : ℕ). take i run ++ (x ∷ [])) (ap (byte_of o) (sym (digit_is b hb)) ∙ byte_of_rank o b hb) ∙ sym (take-suc run i 0 (omega arith)))

  pub key_back : (run : List ℕ) → Bytes run → run_with o (length run) (key_of o run) ≡ run
  key_back run h =
      ap (λ (x : List ℕ). run_with o (length run) (key_of o x)) (sym (take-length run)) ∙ back_front run h (length run) (omega arith) ∙ take-length run
