-- The longest Lyndon word that begins at a position, by its definition: it is one, no longer one begins there, and it ends inside the string (`length_is`,
-- `length_most`, `length_inside`). It is the first word of the forest from there on, so the array is what the pass from right to left leaves (`array_longests`).
use Rattle.std.specs.Prelude.{◌≡◌, refl, true, false, List, [], ◌∷◌, ◌++◌, map, ℕ, zero, suc, ◌+◌, ◌≤◌, ◌<◌, length, take, drop, get_or, replicate}
use Rattle.std.proofs.Common.{sym, ◌∙◌, ap, ap₂, arith, length-take, length-drop, take-append-drop, get_or-take}
use Rattle.std.proofs.lemmas.Simd.{map-map}
use borrow.Author.Tests.{lt-ltb, le-ltb}
use Rattle.std.proofs.Math.ListN.{length-map}
use Rattle.std.proofs.Math.Seq.{take-append_seam}
use Rattle.definitions.specs.Words.{below, placed, lexlt, lyndon, lyndon_length, lyndon_array}
use Rattle.definitions.specs.declared.Order.{Order}
use Rattle.definitions.specs.Grammar.{leaf, word}
use Rattle.definitions.specs.Table.{rank_of, table_of, text_of}
use Rattle.definitions.specs.Services.{Answer, done, refused, outcome_of, first_met, cleared, outcome, slices_after, Serves, Answers, table_checks, lyndon_length_service, lyndon_array_service}
use Rattle.lists.specs.Bools.{not_so}
use Rattle.lists.specs.Numbers.{below_shift, greatest_is}
use Rattle.lyndon.specs.Lexical.{lexlt_lt, lt_irrefl}
use Rattle.lyndon.specs.Words.{lyndon_is, is_lyndon}
use Rattle.lyndon.specs.Forest.{merge, merge_false, forest, first_length, longest, longests, longest_is, longest_fits, longest_most}
use Rattle.lyndon.specs.Stored.{Stored, Acceptable, passes, table_text}
use Rattle.lyndon.specs.Finds.{same_number}

-- ---- one position

-- no Lyndon word longer than the forest's first word begins s
no_longer : (s : List ℕ) (k : ℕ) → longest s < k → k ≤ length s → lyndon (take k s) ≡ false
no_longer s k h l =
    not_so (lyndon (take k s)) (λ e. absurd (omega (arith, simp length-take at (longest_most s (take k s) (drop k s) (sym (take-append-drop k s)) (lyndon_is (take k s) e)))))

pub length_longest : (s : List ℕ) (i : ℕ) → lyndon_length s i ≡ longest (drop i s)
unfolding lyndon_length
length_longest s i =
    let rest = drop i s in
    greatest_is (λ k. lyndon (take k rest)) (length rest) (longest rest) (longest_fits rest)
    (λ h. is_lyndon (take (longest rest) rest) (longest_is rest (omega (arith, h, longest_fits rest)))) (no_longer rest)

pub length_is : (s : List ℕ) (i : ℕ) → i < length s → lyndon (take (lyndon_length s i) (drop i s)) ≡ true
length_is s i h = rw (length_longest s i) (is_lyndon (take (longest (drop i s)) (drop i s)) (longest_is (drop i s) (simp length-drop (omega arith))))

pub length_most : (s : List ℕ) (i k : ℕ) → lyndon_length s i < k → i + k ≤ length s → lyndon (take k (drop i s)) ≡ false
length_most s i k h l = no_longer (drop i s) k (omega (arith, length_longest s i)) (simp length-drop (omega arith))

pub length_inside : (s : List ℕ) (i : ℕ) → i < length s → i + lyndon_length s i ≤ length s
length_inside s i h = omega (arith, length_longest s i, simp length-drop at (longest_fits (drop i s)))

-- ---- the array

pub array_longests : (s : List ℕ) → lyndon_array s ≡ longests s
unfolding lyndon_array lyndon_length longests below
array_longests [] = refl
array_longests (a ∷ s) = rw (below_shift (λ k. true) (length s)) (ap₂ {C = List ℕ} (λ x l. x ∷ l) (length_longest (a ∷ s) 0) (behind ∙ array_longests s))
  where
    behind : map (lyndon_length (a ∷ s)) (map (λ (k : ℕ). suc k) (below (λ k. true) (length s))) ≡ map (lyndon_length s) (below (λ k. true) (length s))
    behind = map-map (lyndon_length (a ∷ s)) (λ (k : ℕ). suc k) (below (λ k. true) (length s))

longests_length : (s : List ℕ) → length (longests s) ≡ length s
unfolding longests
longests_length [] = refl
longests_length (a ∷ s) = ap suc (longests_length s)

longests_at : (s : List ℕ) (i : ℕ) → i < length s → get_or (longests s) i 0 ≡ longest (drop i s)
unfolding longests
longests_at [] i h = absurd (omega arith)
longests_at (a ∷ s) zero h = refl
longests_at (a ∷ s) (suc i) h = longests_at s i (omega arith)

pub array_length : (s : List ℕ) → length (lyndon_array s) ≡ length s
array_length s = rw (array_longests s) (longests_length s)

-- each entry is what is asked for one position
pub array_at : (s : List ℕ) (i : ℕ) → i < length s → get_or (lyndon_array s) i 0 ≡ lyndon_length s i
array_at s i h = rw (array_longests s) (longests_at s i h ∙ sym (length_longest s i))

-- ---- equal samples

-- none is smaller than the next, so none is joined
equal_forest : (a n : ℕ) → forest (replicate (suc n) a) ≡ leaf a ∷ forest (replicate n a)
unfolding forest merge
equal_forest a zero = refl
equal_forest a (suc n) =
    rw (equal_forest a n) (merge_false (leaf a) (leaf a) (forest (replicate n a)) (not_so (lexlt (word (leaf a)) (word (leaf a))) (λ e. lt_irrefl (word (leaf a)) (lexlt_lt (word (leaf a)) (word (leaf a)) e))))

equal_samples : (a n : ℕ) → lyndon_array (replicate n a) ≡ replicate n 1
unfolding longests longest first_length word
equal_samples a n = array_longests (replicate n a) ∙ go n
  where
    go : (n : ℕ) → longests (replicate n a) ≡ replicate n 1
    go zero = refl
    go (suc n) = ap₂ {C = List ℕ} (λ x l. x ∷ l) (ap first_length (equal_forest a n)) (go n)

equal_ranks : (o : Order) (b n : ℕ) → map (rank_of o) (replicate n b) ≡ replicate n (rank_of o b)
equal_ranks o b zero = refl
equal_ranks o b (suc n) = ap (λ (l : List ℕ). rank_of o b ∷ l) (equal_ranks o b n)

-- of a drive of equal samples
pub equal_drive : (o : Order) (b n : ℕ) → lyndon_array (map (rank_of o) (replicate n b)) ≡ replicate n 1
equal_drive o b n = rw (equal_ranks o b n) (equal_samples (rank_of o b) n)

-- ---- the services, for an accepted table and a work slice that is long enough

module _ (o : Order) (t work : List ℕ) (accepted : Acceptable o t) (long : 16384 ≤ length work) where
  abbrev ranks : List ℕ
  ranks = map (rank_of o) (text_of o t)

  -- the single call answers an entry of the array
  pub single : (i : ℕ) → i < length (text_of o t) → outcome (lyndon_length_service o t i work) ≡ done (get_or (lyndon_array ranks) i 0) 0
  unfolding outcome lyndon_length_service table_checks first_met
  single i h =
      rw (le-ltb (length work) 16384 long, accepted.0, accepted.1, accepted.2, le-ltb (length (text_of o t)) (i + 1) (omega arith), array_at ranks i (simp length-map (omega arith)))

  -- a position behind the last sample is refused; of the empty drive, every one
  pub past_end : (i : ℕ) → length (text_of o t) ≤ i → outcome (lyndon_length_service o t i work) ≡ refused 8 0
  unfolding outcome lyndon_length_service table_checks first_met
  past_end i h = rw (le-ltb (length work) 16384 long, accepted.0, accepted.1, accepted.2, lt-ltb (length (text_of o t)) (i + 1) (omega arith))

  -- the other call, with room in the result slice, answers that there is an entry for each sample
  module _ (result : List ℕ) (room : length (text_of o t) ≤ length result) where
    size : length (lyndon_array ranks) ≡ length (text_of o t)
    size = array_length ranks ∙ length-map (text_of o t) (rank_of o)

    pub whole : outcome (lyndon_array_service o t work result) ≡ done (length (text_of o t)) 0
    unfolding outcome lyndon_array_service table_checks first_met
    whole = rw (le-ltb (length work) 16384 long, accepted.0, accepted.1, accepted.2, size, le-ltb (length result) (length (text_of o t)) room)

    written : slices_after (lyndon_array_service o t work result) ≡ cleared work ∷ (lyndon_array ranks ++ drop (length (lyndon_array ranks)) result) ∷ []
    unfolding slices_after lyndon_array_service table_checks first_met placed
    written = rw (le-ltb (length work) 16384 long, accepted.0, accepted.1, accepted.2, size, le-ltb (length result) (length (text_of o t)) room)

    -- of every call that serves and answers k: so many entries are the array, and each is what the single call answers
    pub array_returned : (r : Answer) {work' result' : List ℕ} (k : ℕ) → Serves (lyndon_array_service o t work result) (Answers r) (work' ∷ result' ∷ []) → outcome_of r ≡ done k 0
        → (k ≡ length (text_of o t)) × (take k result' ≡ lyndon_array ranks) × ((i : ℕ) → i < k → outcome (lyndon_length_service o t i work) ≡ done (get_or result' i 0) 0)
    array_returned r {work'} {result'} k v e =
        let q : length (text_of o t) ≡ k = same_number (length (text_of o t)) k (sym (v.answer ∙ whole) ∙ e) in
        let held : result' ≡ lyndon_array ranks ++ drop (length (lyndon_array ranks)) result = ap (λ (l : List (List ℕ)). get_or l 1 []) (v.slices ∙ written) in
        let g : take k result' ≡ lyndon_array ranks = ap₂ {C = List ℕ} take (sym (size ∙ q)) held ∙ take-append_seam (lyndon_array ranks) (drop (length (lyndon_array ranks)) result) in (
          sym q,
          g,
          λ i h. single i (omega arith) ∙ ap (λ (m : ℕ). done m 0) (ap (λ (l : List ℕ). get_or l i 0) (sym g) ∙ get_or-take k result' i 0 h),
        )

-- the empty drive refuses every position
pub empty_refuses : (o : Order) (chair : ℕ) → Stored [] chair → (work : List ℕ) → 16384 ≤ length work → (i : ℕ) → outcome (lyndon_length_service o (table_of o [] chair) i work) ≡ refused 8 0
empty_refuses o chair ok work long i =
    past_end o (table_of o [] chair) work ((passes o (table_of o [] chair)).1 ([], chair, ok, refl)) long i (rw (table_text o [] chair ok) (omega arith))
