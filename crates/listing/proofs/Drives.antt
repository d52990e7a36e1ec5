-- Positions in the drive, of occurrences in strings that stand in the marked text: those of two strings in a row (`drive_append`,
-- `drive_behind`), at a join (`drive_cut`), at one place (`drive_before`, `drive_there`), and in the whole (`drive_marked`).
use Rattle.std.specs.Prelude.{Option, Some, None, MatchOption, unwrap_or}
use mathlib.Core.Path.{◌≡◌, refl, sym, ◌∙◌, ap, ap₂}
use mathlib.Core.Bool.{Bool, true, false, cond}
use mathlib.Core.List.{List, [], ◌∷◌, ◌++◌, map, append_assoc}
use Prim.Native.Nat.{ℕ, zero, suc, ◌+◌, ◌-◌, ◌≤◌, ◌<◌}
use native.Mathlib.Omega.{arith}
use native.Mathlib.Numerals.{one-add}
use lib.ListN.{length, drop}
use lib.Seq.{drop-drop}
use lib.Dec.{ltb}
use borrow.Author.Tests.{lt-ltb, le-ltb}
use Rattle.definitions.specs.Words.{begins}
use Rattle.definitions.specs.Occurrences.{occurrences}
use Rattle.lists.specs.Numbers.{split_le}
use Rattle.lyndon.specs.Occurrences.{occurrences_first}
use Rattle.joins.specs.Joining.{cut_place}
use Rattle.listing.specs.Listing.{in_drive, cut_places}

-- one place: passed over before `first`, else counted from there
abbrev one : ℕ → ℕ → List ℕ
one first k = cond (ltb k first) [] ((k - first) ∷ [])

pub drive_append : (first at : ℕ) (x y : List ℕ) → in_drive first at (x ++ y) ≡ in_drive first at x ++ in_drive first at y
unfolding in_drive
drive_append first at [] y = refl
drive_append first at (k ∷ x) y =
    ap (λ (l : List ℕ). one first (at + k) ++ l) (drive_append first at x y) ∙ sym (append_assoc (one first (at + k)) (in_drive first at x) (in_drive first at y))

pub drive_behind : (first at n : ℕ) (l : List ℕ) → in_drive first at (map (λ (k : ℕ). n + k) l) ≡ in_drive first (at + n) l
unfolding in_drive
drive_behind first at n [] = refl
drive_behind first at n (k ∷ l) =
    let e : at + (n + k) ≡ at + n + k = omega arith in
    ap₂ {C = List ℕ} (λ x y. one first x ++ y) e (drive_behind first at n l)

-- an occurrence that is cut at c, by where the join is
pub drive_cut : (first at n c : ℕ) → c ≤ n → in_drive first at (cut_place n c) ≡ in_drive first 0 (cut_place (at + n) c)
unfolding in_drive cut_place
drive_cut first at n zero h = refl
drive_cut first at n (suc c) h =
    let e : at + (n - suc c) ≡ 0 + (at + n - suc c) = omega arith in
    ap (λ (k : ℕ). one first k ++ []) e

-- the same, where the cut is an option: it is that cut, or there is none and it is 0
abbrev pub IsCut : Option ℕ → ℕ → Type 0
IsCut o k = MatchOption o (k ≡ 0) (λ (c : ℕ). (c ≡ k) × (0 < c))

pub cut_same : (n k : ℕ) (o : Option ℕ) → IsCut o k → cut_places n o ≡ cut_place n k
unfolding cut_places cut_place
cut_same n zero None e = refl
cut_same n (suc k) None e = absurd (omega arith)
cut_same n zero (Some c) (e, h) = absurd (omega arith)
cut_same n (suc k) (Some c) (e, h) = ap (λ (i : ℕ). (n - i) ∷ []) e

pub cut_number : (k : ℕ) (o : Option ℕ) → IsCut o k → unwrap_or o 0 ≡ k
cut_number k None e = sym e
cut_number k (Some c) (e, h) = e

pub drive_cut_none : (first n : ℕ) (o : Option ℕ) → o ≡ None → in_drive first 0 (cut_places n o) ≡ []
unfolding in_drive cut_places
drive_cut_none first n o e = rw e refl

pub drive_cut_some : (first n c : ℕ) (o : Option ℕ) → o ≡ Some c → in_drive first (n - c) (0 ∷ []) ≡ in_drive first 0 (cut_places n o)
unfolding in_drive cut_places
drive_cut_some first n c o e =
    let at : n - c + 0 ≡ 0 + (n - c) = omega arith in
    rw e (ap (λ (k : ℕ). one first k ++ []) at)

-- at one place
pub drive_before : (first at : ℕ) → at < first → in_drive first at (0 ∷ []) ≡ []
unfolding in_drive
drive_before first at h = rw (lt-ltb (at + 0) first (omega arith))

pub drive_there : (first at : ℕ) → first ≤ at → in_drive first at (0 ∷ []) ≡ (at - first) ∷ []
unfolding in_drive
drive_there first at h =
    let e : at + 0 - first ≡ at - first = omega arith in
    rw (le-ltb (at + 0) first (omega arith)) (ap (λ (k : ℕ). k ∷ []) e)

-- the mark stands first: in the drive, from a place on
one_moved : (first k : ℕ) → one (suc first) (0 + suc k) ≡ one first (0 + k)
one_moved first k =
    split_le first k
    (λ h. let e : 0 + suc k - suc first ≡ 0 + k - first = omega arith in
    rw (le-ltb (0 + suc k) (suc first) (omega arith), le-ltb (0 + k) first (omega arith)) (ap (λ (i : ℕ). i ∷ []) e))
    (λ h. rw (lt-ltb (0 + suc k) (suc first) (omega arith), lt-ltb (0 + k) first (omega arith)))

drive_moved : (first : ℕ) (l : List ℕ) → in_drive (suc first) 0 (map suc l) ≡ in_drive first 0 l
unfolding in_drive
drive_moved first [] = refl
drive_moved first (k ∷ l) = ap₂ {C = List ℕ} (λ x y. x ++ y) (one_moved first k) (drive_moved first l)

drive_all : (l : List ℕ) → in_drive 0 0 l ≡ l
unfolding in_drive
drive_all [] = refl
drive_all (k ∷ l) =
    let e : 0 + k - 0 ≡ k = omega arith in
    rw (le-ltb (0 + k) 0 (omega arith)) (ap₂ {C = List ℕ} (λ x y. x ∷ y) e (drive_all l))

none_at_start : (b : Bool) (from : ℕ) → in_drive (suc from) 0 (cond b (0 ∷ []) []) ≡ []
unfolding in_drive
none_at_start true from = drive_before (suc from) 0 (omega arith)
none_at_start false from = refl

drive_from : (from : ℕ) (p s : List ℕ) → 0 < length p → in_drive from 0 (occurrences p s) ≡ occurrences p (drop from s)
drive_from zero p s h = drive_all (occurrences p s)
drive_from (suc from) p s h =
    ap (in_drive (suc from) 0) (occurrences_first p s h)
    ∙ drive_append (suc from) 0 (cond (begins p s) (0 ∷ []) []) (map suc (occurrences p (drop 1 s)))
    ∙ ap₂ {C = List ℕ} (λ x y. x ++ y) (none_at_start (begins p s) from) (drive_moved from (occurrences p (drop 1 s)) ∙ drive_from from p (drop 1 s) h)
    ∙ ap (occurrences p) (drop-drop from 1 s ∙ ap (λ (n : ℕ). drop n s) (one-add from))

pub drive_marked : (from : ℕ) (p s : List ℕ) → 0 < length p → in_drive (from + 1) 0 (map suc (occurrences p s)) ≡ occurrences p (drop from s)
drive_marked from p s h =
    let e : from + 1 ≡ suc from = omega arith in
    ap (λ (n : ℕ). in_drive n 0 (map suc (occurrences p s))) e ∙ drive_moved from (occurrences p s) ∙ drive_from from p s h
