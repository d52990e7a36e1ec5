-- The mark first and nowhere else: a string of ranks is a marked drive exactly when its first symbol alone is the mark and it is not too long
-- (`is_marked`, `marked_drive`, `drive_marked`).
use Rattle.std.specs.Prelude.{◌≡◌, refl, Bool, true, cond, ◌&&◌, ℕ, zero, suc, ◌≤◌, ◌<◌, length, drop, get_or, ltb, leb, eqb}
use Rattle.std.proofs.Common.{sym, ◌∙◌, ap₂, subst, arith, ltb-true, leb-true, eqb-true, lt-ltb, le-leb, eq-eqb, ne_eqb}
use mathlib.Core.List.Memᴰ.{head as here}
use mathlib.Core.List.Memᴰ.{tail as there}
use mathlib.Core.List.{List, [], ◌∷◌, map, Memᴰ as In}
use Rattle.std.proofs.lemmas.List.{length-map}
use Rattle.definitions.specs.declared.Order.{Order}
use Rattle.definitions.specs.Words.{every}
use Rattle.definitions.specs.Table.{rank_of, byte_of, marked}
use Rattle.lists.specs.Bools.{and_left, and_right, and_intro}
use Rattle.lists.specs.Numbers.{every_at, every_all}
use Rattle.lists.specs.Members.{in_at, at_in, in_map}
use Rattle.lyndon.specs.Ranks.{Bytes, rank_of_byte, byte_range, rank_range, marked_length}

-- symbol i of x is the mark if it is the first, and else it is not
unfoldable pub mark_at : List ℕ → ℕ → Bool
mark_at x i = cond (eqb i 0) (eqb (get_or x i 0) 0) (ltb 0 (get_or x i 0))

-- x is the mark and then at most 2,047 symbols, none of which is the mark
unfoldable pub is_marked : List ℕ → Bool
is_marked x = ltb 0 (length x) && (leb (length x) 2048 && every (mark_at x) (length x))

pub mark_first : (x : List ℕ) → mark_at x 0 ≡ eqb (get_or x 0 0) 0
unfolding mark_at
mark_first x = refl

pub mark_later : (x : List ℕ) (i : ℕ) → 0 < i → mark_at x i ≡ ltb 0 (get_or x i 0)
unfolding mark_at
mark_later x i h = rw (ne_eqb i 0 (λ e. omega arith))

-- ---- the same as facts

pub record Fronted (x : List ℕ) : Type 0 where
  pub filled : 0 < length x
  pub short : length x ≤ 2048
  pub mark : get_or x 0 0 ≡ 0
  pub samples : (i : ℕ) → 0 < i → i < length x → 0 < get_or x i 0

pub marked_is : (x : List ℕ) → is_marked x ≡ true → Fronted x
unfolding is_marked
marked_is x e =
    let f = and_right (ltb 0 (length x)) (leb (length x) 2048 && every (mark_at x) (length x)) e in
    let all = every_at (mark_at x) (length x) (and_right (leb (length x) 2048) (every (mark_at x) (length x)) f) in
    let h = ltb-true 0 (length x) (and_left (ltb 0 (length x)) (leb (length x) 2048 && every (mark_at x) (length x)) e) in
    record {
      filled = h;
      short = leb-true (length x) 2048 (and_left (leb (length x) 2048) (every (mark_at x) (length x)) f);
      mark = eqb-true (get_or x 0 0) 0 (sym (mark_first x) ∙ all 0 h);
      samples = λ i l m. ltb-true 0 (get_or x i 0) (sym (mark_later x i l) ∙ all i m);
    }

pub is_marked_lem : (x : List ℕ) → Fronted x → is_marked x ≡ true
unfolding is_marked
is_marked_lem x f =
    and_intro (ltb 0 (length x)) (leb (length x) 2048 && every (mark_at x) (length x)) (lt-ltb 0 (length x) f.filled)
    (and_intro (leb (length x) 2048) (every (mark_at x) (length x)) (le-leb (length x) 2048 f.short) (every_all (mark_at x) (length x) at))
  where
    at : (i : ℕ) → i < length x → mark_at x i ≡ true
    at zero l = mark_first x ∙ eq-eqb (get_or x 0 0) 0 f.mark
    at (suc i) l = mark_later x (suc i) (omega arith) ∙ lt-ltb 0 (get_or x (suc i) 0) (f.samples (suc i) (omega arith) l)

-- ---- marked drives

ranks_back : (o : Order) (l : List ℕ) → ((a : ℕ) → In a l → (0 < a) × (a < 257)) → map (rank_of o) (map (byte_of o) l) ≡ l
ranks_back o [] h = refl
ranks_back o (a ∷ l) h =
    ap₂ {C = List ℕ} (λ x m. x ∷ m) (rank_of_byte o a (h a (here refl)).0 (h a (here refl)).1) (ranks_back o l (λ x m. h x (there m)))

-- the mark and then samples
pub marked_drive : (o : Order) (x : List ℕ) → is_marked x ≡ true → ((a : ℕ) → In a x → a < 257)
    → (marked o (map (byte_of o) (drop 1 x)) ≡ x) × Bytes (map (byte_of o) (drop 1 x)) × (length (map (byte_of o) (drop 1 x)) ≤ 2047)
unfolding marked
marked_drive o x e k = go x k (marked_is x e)
  where
    go : (y : List ℕ) → ((a : ℕ) → In a y → a < 257) → Fronted y
        → (0 ∷ map (rank_of o) (map (byte_of o) (drop 1 y)) ≡ y) × Bytes (map (byte_of o) (drop 1 y)) × (length (map (byte_of o) (drop 1 y)) ≤ 2047)
    go [] r f = absurd (omega (arith, f.filled))
    go (a ∷ l) r f = (
      ap₂ {C = List ℕ} (λ z m. z ∷ m) (sym f.mark) (ranks_back o l (λ b m. (low b m, r b (there m)))),
      λ b m. let (c, i, q) = in_map (byte_of o) b l m in rw q (byte_range o c (r c (there i))),
      omega (arith, length-map l (byte_of o), f.short),
    )
      where
        low : (b : ℕ) → In b l → 0 < b
        low b m = let (i, q, g) = in_at b l m in subst (λ (z : ℕ). 0 < z) g (f.samples (suc i) (omega arith) (omega arith))

pub drive_marked : (o : Order) (text : List ℕ) → length text ≤ 2047 → Bytes text → is_marked (marked o text) ≡ true
unfolding marked
drive_marked o text h b = is_marked_lem (marked o text) record {
  filled = omega arith;
  short = omega (arith, marked_length o text);
  mark = refl;
  samples = λ i l k. behind i l k;
}
  where
    behind : (i : ℕ) → 0 < i → i < length (marked o text) → 0 < get_or (marked o text) i 0
    behind zero l k = absurd (omega arith)
    behind (suc i) l k =
        let (c, m, e) = in_map (rank_of o) (get_or (map (rank_of o) text) i 0) text (at_in (map (rank_of o) text) i (omega arith)) in
        rw e (rank_range o c (b c m)).0
