-- The scan on samples. A run of one sample begins; a word goes on up to the first difference d of the tails x, from its start, and y, from behind it. There it
-- stops (`samples_stopped`) or is one longer word (`samples_grown`). Then its whole copies are left (`samples_left`).
use mathlib.Core.Path.{◌≡◌, sym, ◌∙◌, ap, subst}
use mathlib.Core.Bool.{Bool, true, false, ◌&&◌}
use mathlib.Core.List.{List, ◌++◌, map}
use Prim.Native.Nat.{ℕ, ◌+◌, ◌-◌, ◌*◌, ◌/◌, ◌≤◌, ◌<◌}
use native.Mathlib.Omega.{arith}
use lib.ListN.{length, take, drop, get_or, length-map, length-drop}
use lib.Seq.{drop-drop, get_or-drop}
use lib.Dec.{ltb}
use borrow.Author.Tests.{ltb-true, ltb-false, lt-ltb, le-ltb}
use Rattle.definitions.specs.declared.Order.{Order}
use Rattle.definitions.specs.Words.{below, first_difference}
use Rattle.definitions.specs.Table.{rank_of, byte_of}
use Rattle.definitions.specs.Occurrences.{is_listed}
use Rattle.lists.specs.Bools.{and_left, and_right}
use Rattle.lists.specs.Numbers.{split_lt}
use Rattle.lists.specs.Lists.{tail_taken}
use Rattle.lists.specs.Members.{map_at, take_map, drop_map}
use Rattle.lists.specs.FirstDifference.{difference_right, difference_unlike, difference_fronts, difference_most, difference_further}
use Rattle.lyndon.specs.Ranks.{byte_of_rank}
use Rattle.runs.specs.Runs.{Running, Stopped, Reached, Scanned, run_cuts}
use Rattle.runs.proofs.WholeCopies.{placed_run}
use Rattle.runs.proofs.Scanning.{scan_first, scan_agreed, scan_greater, scan_left}

-- a run of one sample
pub samples_first : (o : Order) (p : List ℕ) (start : ℕ) → start < length p → Running (map (rank_of o) p) start start (start + 1)
samples_first o p start h = scan_first (map (rank_of o) p) start (omega (arith, length-map p (rank_of o)))

-- a tail, as code takes it
abbrev tail : List ℕ → ℕ → List ℕ
tail l i = take (length l - i) (drop i l)

module _ (o : Order) (p : List ℕ) (start word : ℕ) (r : Running (map (rank_of o) p) start start (start + word)) where
  abbrev ranks : List ℕ
  ranks = map (rank_of o) p

  abbrev x : List ℕ
  x = tail p start

  abbrev y : List ℕ
  y = tail x word

  earlier : x ≡ drop start p
  earlier = tail_taken p start

  later : y ≡ drop (start + word) p
  later = tail_taken x word ∙ ap (drop word) earlier ∙ drop-drop word start p

  size : length ranks ≡ length p
  size = length-map p (rank_of o)

  left_size : length x ≡ length p - start
  left_size = ap length earlier ∙ length-drop start p

  right_size : length y ≡ length p - (start + word)
  right_size = ap length later ∙ length-drop (start + word) p

  -- ---- where d is 0, and where it is not

  pub samples_alike : word < length x → get_or x 0 0 ≡ get_or y 0 0 → 0 < first_difference x y
  samples_alike h e = difference_further x y 0 (omega arith) (omega arith) (omega (arith, left_size, right_size)) e

  pub samples_unlike : (get_or x 0 0 ≡ get_or y 0 0 → ⊥) → 0 ≡ first_difference x y
  samples_unlike n = omega (arith, difference_most x y 0 n)

  pub samples_ended : length x ≤ word → 0 ≡ first_difference x y
  samples_ended h = omega (arith, difference_right x y, left_size, right_size)

  -- ---- the word, and d samples more

  module _ (d : ℕ) (e : d ≡ first_difference x y) where
    pub samples_within : (0 < word) × (d ≤ length y) × (length y ≤ length x) × (start + word + d ≤ length p)
    samples_within =
        let h : d ≤ length y = omega (arith, e, difference_right x y) in
        (omega (arith, r.high), h, omega (arith, left_size, right_size), omega (arith, size, r.inside, right_size))

    -- the ranks of the d samples from a place on
    fronts : (i : ℕ) → take d (drop i ranks) ≡ map (rank_of o) (take d (drop i p))
    fronts i = ap (take d) (drop_map (rank_of o) i p) ∙ take_map (rank_of o) d (drop i p)

    agreed : Running ranks start (start + d) (start + word + d)
    agreed =
        scan_agreed ranks start (start + word) d r (omega (arith, size, samples_within.3))
        (fronts (start + word)
        ∙ ap (λ (l : List ℕ). map (rank_of o) (take d l)) (sym later)
        ∙ ap (map (rank_of o)) (subst (λ (k : ℕ). take k y ≡ take k x) (sym e) (sym (difference_fronts x y)))
        ∙ ap (λ (l : List ℕ). map (rank_of o) (take d l)) earlier
        ∙ sym (fronts start))

    -- where y goes on, the two samples there have different ranks
    module _ (bytes : (i : ℕ) → i < length p → get_or p i 0 < 256) (h : d < length y) where
      left : get_or x d 0 ≡ get_or p (start + d) 0
      left = ap (λ (l : List ℕ). get_or l d 0) earlier ∙ get_or-drop start p d 0

      right : get_or y d 0 ≡ get_or p (start + word + d) 0
      right = ap (λ (l : List ℕ). get_or l d 0) later ∙ get_or-drop (start + word) p d 0

      left_rank : get_or ranks (start + d) 0 ≡ rank_of o (get_or x d 0)
      left_rank = map_at (rank_of o) p (start + d) (omega (arith, right_size)) ∙ ap (rank_of o) (sym left)

      right_rank : get_or ranks (start + word + d) 0 ≡ rank_of o (get_or y d 0)
      right_rank = map_at (rank_of o) p (start + word + d) (omega (arith, right_size)) ∙ ap (rank_of o) (sym right)

      other_rank : rank_of o (get_or x d 0) ≡ rank_of o (get_or y d 0) → ⊥
      other_rank q =
          let m = byte_of_rank o (get_or x d 0) (omega (arith, left, bytes (start + d) (omega (arith, right_size)))) in
          let n = byte_of_rank o (get_or y d 0) (omega (arith, right, bytes (start + word + d) (omega (arith, right_size)))) in
          difference_unlike x y (omega (arith, e, left_size, right_size)) (omega (arith, e))
          (subst (λ (k : ℕ). get_or x k 0 ≡ get_or y k 0) e (sym m ∙ ap (byte_of o) q ∙ n))

    -- whether it grows there: the test of `grows`
    module _ (bytes : (i : ℕ) → i < length p → get_or p i 0 < 256) (t : Bool)
        (test : t ≡ (ltb d (length y) && ltb (rank_of o (get_or x d 0)) (rank_of o (get_or y d 0)))) where
      stopped : t ≡ false → Stopped ranks start (start + d) (start + word + d)
      stopped q =
          record {
            running = agreed;
            broken = λ l.
                let h : d < length y = omega (arith, size, right_size) in
                let n : ltb (rank_of o (get_or x d 0)) (rank_of o (get_or y d 0)) ≡ false = rw (lt-ltb d (length y) h) at (sym test ∙ q) in
                split_lt (rank_of o (get_or y d 0)) (rank_of o (get_or x d 0))
                (λ k. omega (arith, left_rank bytes h, right_rank bytes h))
                (λ k. absurd (other_rank bytes h (sym k)))
                (λ k. absurd (omega (arith, ltb-false (rank_of o (get_or x d 0)) (rank_of o (get_or y d 0)) n)));
          }

      -- the run that goes so far, as `run_of` places it
      pub samples_stopped : t ≡ false → (first back end next : ℕ)
          → (first ≡ start) × (back ≡ start + d) × (end ≡ start + word + d) × (next ≡ start + (1 + d / word) * word) → (first ≡ start) × Scanned ranks start back end next
      samples_stopped q first back end next (f, b, m, n) = (f, placed_run word d samples_within.0 ranks start back end next (stopped q) b m n)

      pub samples_grown : t ≡ true → Running ranks start start (start + (word + (d + 1)))
      samples_grown q =
          let both = sym test ∙ q in
          let h : d < length y = ltb-true d (length y) (and_left (ltb d (length y)) (ltb (rank_of o (get_or x d 0)) (rank_of o (get_or y d 0))) both) in
          let l = ltb-true (rank_of o (get_or x d 0)) (rank_of o (get_or y d 0)) (and_right (ltb d (length y)) (ltb (rank_of o (get_or x d 0)) (rank_of o (get_or y d 0))) both) in
          let same : start + word + d + 1 ≡ start + (word + (d + 1)) = omega arith in
          subst (λ (i : ℕ). Running ranks start start i) same
          (scan_greater ranks start (start + d) (start + word + d) agreed (omega (arith, size, right_size)) (omega (arith, l, left_rank bytes h, right_rank bytes h)))

  -- y is empty: it grows no further
  pub samples_empty : length x ≤ word → false ≡ (ltb 0 (length y) && ltb (rank_of o (get_or x 0 0)) (rank_of o (get_or y 0 0)))
  samples_empty h = rw (le-ltb 0 (length y) (omega (arith, left_size, right_size)))

-- the whole copies are left, and the listed cuts of the run are passed
pub samples_left : (o : Order) (p : List ℕ) (start back end next : ℕ) → Reached (map (rank_of o) p) start → Scanned (map (rank_of o) p) start back end next
    → Reached (map (rank_of o) p) next × (below (is_listed (map (rank_of o) p)) next ≡ below (is_listed (map (rank_of o) p)) start ++ run_cuts start back end next (length p))
samples_left o p start back end next r s =
    let (a, b) = scan_left (map (rank_of o) p) start back end r s.stopped next s.copies s.low s.high in
    (a, b ∙ ap (λ (n : ℕ). below (is_listed (map (rank_of o) p)) start ++ run_cuts start back end next n) (length-map p (rank_of o)))
