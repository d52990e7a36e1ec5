-- Occurrences: a position stands in the list exactly when the pattern begins there (`occurrence_is`, `is_occurrence`), rising, each once
-- (`occurrences_rising`). Those in mark ++ text are those in the text, one further on (`occurrences_marked`).
use Rattle.std.specs.Prelude.{◌≡◌, refl, Bool, true, false, cond, ◌&&◌, ◌↔◌, ℕ, suc, ◌+◌, ◌≤◌, ◌<◌, length, take, drop, eqb}
use Rattle.std.proofs.Common.{sym, ◌∙◌, ap, ap₂, arith, length-append, length-drop, take-append-drop, eqb-true, eq-eqb, ne_eqb}
use mathlib.Core.List.Memᴰ.{head as here}
use mathlib.Core.List.Memᴰ.{tail as there}
use mathlib.Core.List.{List, [], ◌∷◌, ◌++◌, map, append-nil, Memᴰ as In}
use Rattle.std.proofs.lemmas.List.{length-map}
use Rattle.std.proofs.Math.Seq.{take-append_seam, drop-length}
use Rattle.definitions.specs.declared.Order.{Order}
use Rattle.definitions.specs.Words.{below, begins}
use Rattle.definitions.specs.Table.{rank_of, byte_of, marked}
use Rattle.definitions.specs.Occurrences.{occurrences}
use Rattle.lists.specs.Bools.{bool_ext}
use Rattle.lists.specs.Numbers.{Rising, below_length, below_in, below_lt, below_rising, below_ext, below_shift}
use Rattle.lists.specs.Members.{drop_map, in_drop, in_none}
use Rattle.lists.specs.Strings.{begins_rest, rest_begins}
use Rattle.lyndon.specs.Ranks.{Bytes, byte_of_rank, rank_range}

-- p begins at place i of s
abbrev pub BeginsAt : List ℕ → List ℕ → ℕ → Type 0
BeginsAt p s i = (i + length p ≤ length s) × (take (length p) (drop i s) ≡ p)

pub begins_at : (p s : List ℕ) (i : ℕ) → i ≤ length s → begins p (drop i s) ≡ true → BeginsAt p s i
begins_at p s i h e =
    let (r, q) = begins_rest p (drop i s) e in (
      omega (arith, simp (length-append, length-drop) at (ap length q)),
      ap (take (length p)) q ∙ take-append_seam p r,
    )

pub at_begins : (p s : List ℕ) (i : ℕ) → BeginsAt p s i → begins p (drop i s) ≡ true
at_begins p s i (h, e) =
    rest_begins p (drop i s) (drop (length p) (drop i s))
    (sym (take-append-drop (length p) (drop i s)) ∙ ap (λ (x : List ℕ). x ++ drop (length p) (drop i s)) e)

-- ---- a position is listed exactly when the pattern begins there

occurrence_is : (p s : List ℕ) (i : ℕ) → In i (occurrences p s) → BeginsAt p s i
unfolding occurrences
occurrence_is p s i m =
    let (l, e) = below_lt (λ k. begins p (drop k s)) (suc (length s)) i m in
    begins_at p s i (omega arith) e

is_occurrence : (p s : List ℕ) (i : ℕ) → BeginsAt p s i → In i (occurrences p s)
unfolding occurrences
is_occurrence p s i h = below_in (λ k. begins p (drop k s)) (suc (length s)) i (omega (arith, h.0)) (at_begins p s i h)

pub occurrence : (p s : List ℕ) (i : ℕ) → In i (occurrences p s) ↔ BeginsAt p s i
occurrence p s i = (occurrence_is p s i, is_occurrence p s i)

-- rising, so each once
pub occurrences_rising : (p s : List ℕ) → Rising (occurrences p s)
unfolding occurrences
occurrences_rising p s = below_rising (λ k. begins p (drop k s)) (suc (length s))

-- how many there can be
pub occurrences_most : (p s : List ℕ) → length (occurrences p s) ≤ suc (length s)
unfolding occurrences
occurrences_most p s = below_length (λ i. begins p (drop i s)) (suc (length s))

-- a pattern that is not empty does not begin at the end
pub occurrences_fewer : (p s : List ℕ) → 0 < length p → length (occurrences p s) ≤ length s
unfolding occurrences below begins
occurrences_fewer [] s h = absurd (omega arith)
occurrences_fewer (a ∷ p) s h = rw (drop-length s, append-nil) (below_length (λ i. begins (a ∷ p) (drop i s)) (length s))

-- a pattern that is longer than the string occurs nowhere
pub longer_nowhere : (p s : List ℕ) → length s < length p → occurrences p s ≡ []
longer_nowhere p s h = in_none (occurrences p s) (λ i m. omega (arith, (occurrence_is p s i m).0))

-- those in a string: one at its start, if the pattern begins there, and those behind its first symbol
pub occurrences_first : (p s : List ℕ) → 0 < length p → occurrences p s ≡ cond (begins p s) (0 ∷ []) [] ++ map suc (occurrences p (drop 1 s))
unfolding occurrences below begins
occurrences_first [] s h = absurd (omega arith)
occurrences_first (a ∷ p) [] h = refl
occurrences_first (a ∷ p) (b ∷ s) h = below_shift (λ k. begins (a ∷ p) (drop k (b ∷ s))) (suc (length s))

-- ---- the marked text

-- ranks begin where bytes begin
pub begins_ranks : (o : Order) (p s : List ℕ) → Bytes p → Bytes s → begins (map (rank_of o) p) (map (rank_of o) s) ≡ begins p s
unfolding begins
begins_ranks o [] s hp hs = refl
begins_ranks o (a ∷ p) [] hp hs = refl
begins_ranks o (a ∷ p) (b ∷ s) hp hs =
    ap₂ {C = Bool} (λ x y. x && y)
    (bool_ext (eqb (rank_of o a) (rank_of o b)) (eqb a b)
    (λ e. eq-eqb a b (sym (byte_of_rank o a (hp a (here refl))) ∙ ap (byte_of o) (eqb-true (rank_of o a) (rank_of o b) e) ∙ byte_of_rank o b (hs b (here refl))))
    (λ e. eq-eqb (rank_of o a) (rank_of o b) (ap (rank_of o) (eqb-true a b e))))
    (begins_ranks o p s (λ x m. hp x (there m)) (λ x m. hs x (there m)))

-- no sample is the mark
not_mark : (o : Order) (p s : List ℕ) → 0 < length p → Bytes p → begins (map (rank_of o) p) (0 ∷ s) ≡ false
unfolding begins
not_mark o [] s h hp = absurd (omega arith)
not_mark o (a ∷ p) s h hp = rw (ne_eqb (rank_of o a) 0 (λ e. omega (arith, (rank_range o a (hp a (here refl))).0)))

pub occurrences_marked : (o : Order) (p s : List ℕ) → 0 < length p → Bytes p → Bytes s
    → occurrences (map (rank_of o) p) (marked o s) ≡ map suc (occurrences p s)
unfolding occurrences marked
occurrences_marked o p s h hp hs =
    below_shift test (suc (length (map (rank_of o) s)))
    ∙ rw (not_mark o p (map (rank_of o) s) h hp, length-map s (rank_of o))
    (ap (map suc) (below_ext (λ k. test (suc k)) (λ k. begins p (drop k s)) (suc (length s))
    (λ k l. ap (begins (map (rank_of o) p)) (drop_map (rank_of o) k s) ∙ begins_ranks o p (drop k s) hp (λ b m. hs b (in_drop k s b m)))))
  where
    test : ℕ → Bool
    test k = begins (map (rank_of o) p) (drop k (0 ∷ map (rank_of o) s))
