-- The input split at its first byte 10: the motif is its front, and the drive stands behind that byte.
use mathlib.Core.Path.{◌≡◌, refl, sym, ◌∙◌, ap}
use mathlib.Core.Bool.{Bool, true, false, cond}
use mathlib.Core.List.Memᴰ.{tail as there}
use mathlib.Core.List.{List, [], ◌∷◌, Memᴰ as In}
use Prim.Native.Nat.{ℕ, suc, ◌+◌, ◌-◌, ◌≤◌, ◌<◌, min}
use native.Mathlib.Omega.{arith}
use native.Mathlib.Numerals.{add-one}
use lib.ListN.{length, take, drop, get_or}
use lib.Dec.{eqb}
use borrow.Author.Tests.{eq-eqb, ne_eqb}
use Rattle.definitions.specs.Programs.{motif_of, drive_of}
use Rattle.lists.specs.Numbers.{split_le}
use Rattle.lyndon.specs.Ranks.{Bytes, slice_bytes}

motif_front : (s : List ℕ) → take (length (motif_of s)) s ≡ motif_of s
unfolding motif_of
motif_front [] = refl
motif_front (b ∷ s) = go (eqb b 10) (motif_front s)
  where
    go : (t : Bool) → take (length (motif_of s)) s ≡ motif_of s → take (length (cond t [] (b ∷ motif_of s))) (b ∷ s) ≡ cond t [] (b ∷ motif_of s)
    go true ih = refl
    go false ih = ap {B = List ℕ} (λ l. b ∷ l) ih

pub motif_taken : (s : List ℕ) (n : ℕ) → n ≡ length (motif_of s) → take (n - 0) s ≡ motif_of s
motif_taken s n e =
    let all : n - 0 ≡ length (motif_of s) = omega arith in
    ap (λ (k : ℕ). take k s) all ∙ motif_front s

pub motif_fits : (s : List ℕ) → length (motif_of s) ≤ length s
unfolding motif_of
motif_fits [] = omega arith
motif_fits (b ∷ s) = go (eqb b 10) (motif_fits s)
  where
    go : (t : Bool) → length (motif_of s) ≤ length s → length (cond t [] (b ∷ motif_of s)) ≤ suc (length s)
    go true ih = omega arith
    go false ih = omega arith

-- the drive behind byte 10, and where there is none
drive_behind : (s : List ℕ) → length (motif_of s) < length s → drop (suc (length (motif_of s))) s ≡ drive_of s
unfolding motif_of drive_of
drive_behind [] h = absurd (omega arith)
drive_behind (b ∷ s) h = go (eqb b 10) (λ k. drive_behind s k) h
  where
    go : (t : Bool) → (length (motif_of s) < length s → drop (suc (length (motif_of s))) s ≡ drive_of s)
        → length (cond t [] (b ∷ motif_of s)) < suc (length s) → drop (length (cond t [] (b ∷ motif_of s))) s ≡ cond t s (drive_of s)
    go true ih k = refl
    go false ih k = ih (omega arith)

drive_none : (s : List ℕ) → length s ≤ length (motif_of s) → drop (length (motif_of s)) s ≡ drive_of s
unfolding motif_of drive_of
drive_none [] h = refl
drive_none (b ∷ s) h = go (eqb b 10) (λ k. drive_none s k) h
  where
    go : (t : Bool) → (length s ≤ length (motif_of s) → drop (length (motif_of s)) s ≡ drive_of s)
        → suc (length s) ≤ length (cond t [] (b ∷ motif_of s)) → drop (length (cond t [] (b ∷ motif_of s))) (b ∷ s) ≡ cond t s (drive_of s)
    go true ih k = absurd (omega arith)
    go false ih k = ih (omega arith)

-- where the drive starts, n bytes being the motif
pub drive_starts : (s : List ℕ) (n : ℕ) → n ≡ length (motif_of s) → (min (n + 1) (length s) ≤ length s) × (drop (min (n + 1) (length s)) s ≡ drive_of s)
drive_starts s n e = (
  omega arith,
  split_le (length s) n
      (λ h. let last : min (n + 1) (length s) ≡ length (motif_of s) = omega (arith, motif_fits s) in ap (λ (k : ℕ). drop k s) last ∙ drive_none s (omega arith))
      (λ h. let next : min (n + 1) (length s) ≡ suc (length (motif_of s)) = omega arith in ap (λ (k : ℕ). drop k s) next ∙ drive_behind s (omega arith)),
)

-- the motif ends at the first byte 10
pub ten_here : (b : ℕ) (s : List ℕ) → b ≡ 10 → length (motif_of (b ∷ s)) ≡ 0
unfolding motif_of
ten_here b s e = rw (eq-eqb b 10 e)

pub ten_later : (b : ℕ) (s : List ℕ) → (b ≡ 10 → ⊥) → length (motif_of (b ∷ s)) ≡ length (motif_of s) + 1
unfolding motif_of
ten_later b s n = rw (ne_eqb b 10 n) (sym (add-one (length (motif_of s))))

pub no_byte : length (motif_of []) ≡ 0
unfolding motif_of
no_byte = refl

-- ---- the drive's samples are bytes of the input

in_drive_lem : (s : List ℕ) (x : ℕ) → In x (drive_of s) → In x s
unfolding drive_of
in_drive_lem [] x m = m
in_drive_lem (b ∷ s) x m = go (eqb b 10) (λ k. in_drive_lem s x k) m
  where
    go : (t : Bool) → (In x (drive_of s) → In x s) → In x (cond t s (drive_of s)) → In x (b ∷ s)
    go true ih k = there k
    go false ih k = there (ih k)

pub drive_bytes : (s : List ℕ) → ((i : ℕ) → i < length s → get_or s i 0 < 256) → Bytes (drive_of s)
drive_bytes s h x m = slice_bytes s h x (in_drive_lem s x m)
