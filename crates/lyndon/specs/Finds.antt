-- Demand 3 of the services' definitions: for an accepted table, a pattern of 1 to 2,047 samples (at least 2 where the table holds steps) and slices that are long
-- enough, locating is done (`located`), and the entries that it answers for are the list of all finds, whatever the slices held; counting alone answers that list's
-- length, and the same tests (`returned`). Pair rules: Pairs.antt. Likewise the list of a pattern's cuts (`cuts_returned`).
use Rattle.std.specs.Prelude.{◌≡◌, refl, ◌↔◌, ℕ, ◌+◌, ◌-◌, ◌*◌, ◌≤◌, ◌<◌}
use Rattle.std.proofs.Common.{◌∙◌, ⊎_elim, arith}
use Rattle.std.proofs.Math.Path.{ap, ap₂, subst, sym}
use mathlib.Core.List.Memᴰ.{append_right as in_right}
use mathlib.Core.List.Memᴰ.{cases_cons as in-cons}
use mathlib.Core.List.Memᴰ.{head as here}
use mathlib.Core.List.Memᴰ.{not-nil as in-nil}
use mathlib.Core.List.{List, [], ◌∷◌, ◌++◌, map, Memᴰ as In}
use Rattle.std.proofs.Math.ListN.{length, take, drop, get_or}
use Rattle.std.proofs.Math.Seq.{take-append_seam}
use borrow.Author.Tests.{le-ltb, ne_eqb, not-false}
use Rattle.definitions.specs.declared.Order.{Order}
use Rattle.definitions.specs.declared.Content.{Content}
use Rattle.definitions.specs.declared.Content.TheVariants.{Samples, Steps}
use Rattle.std.specs.declared.result.Result.TheVariants.{Ok}
use Rattle.definitions.specs.declared.Search.{Search}
use Rattle.definitions.specs.Words.{placed}
use Rattle.definitions.specs.Table.{rank_of, table_of, text_of, is_table}
use Rattle.definitions.specs.Occurrences.{listed_cuts, pattern_cuts, tests}
use Rattle.definitions.specs.Steps.{to_steps, from_steps, step_finds, searched, finds}
use Rattle.definitions.specs.Services.{Answer, done, refused, outcome_of, alone, tests_made, first_met, cleared, work_slice, result_too_short, outcome, slices_after, Serves, Answers, Searches, table_checks, pattern_checks, search_checks, count_service, locate_service, cuts_service}
use Rattle.lists.specs.Numbers.{Rising}
use Rattle.lists.specs.Members.{in_none}
use Rattle.lists.specs.Decisions.{Passed, none, more, both_passed, passed_all}
use Rattle.lyndon.specs.Ranks.{Bytes}
use Rattle.lyndon.specs.Stored.{Stored, Acceptable, accepted_stored, table_text}
use Rattle.lyndon.specs.Cuts.{Live}
use Rattle.lyndon.specs.Listed.{WordAgain, listed_cut, listed_rising, listed_twice, Largest, listed_bound}
use Rattle.lyndon.specs.Joins.{Suffices, listed_suffice}
use Rattle.lyndon.specs.Occurrences.{BeginsAt, occurrence, occurrences_rising}
use Rattle.lyndon.specs.Steps.{FollowsAt, follows, steps_rising, two_samples, to_bytes, from_bytes, to_length, restored, moved_by, moved_bytes, moved_length, drive_moved}

-- what is demanded of the list l of all positions at which something is found
pub record AllFinds (Found : ℕ → Type 0) (l : List ℕ) : Type 0 where
  -- a position stands in it exactly when it is found there
  pub exactly : (i : ℕ) → In i l ↔ Found i
  -- positions rise, so each stands once
  pub rising : Rising l
  -- nothing is found unlisted before the first, between two neighbours or after the last
  pub before : (k : ℕ) (m : List ℕ) → l ≡ k ∷ m → (i : ℕ) → i < k → Found i → ⊥
  pub between : (m : List ℕ) (j k : ℕ) (r : List ℕ) → l ≡ m ++ j ∷ k ∷ r → (i : ℕ) → j < i → i < k → Found i → ⊥
  pub after : (m : List ℕ) (j : ℕ) → l ≡ m ++ j ∷ [] → (i : ℕ) → j < i → Found i → ⊥
  -- it is empty exactly when nothing is found
  pub empty : (l ≡ []) ↔ ((i : ℕ) → Found i → ⊥)

-- what stands in a rising list is not before its first entry, and stands behind an entry where it is greater
before_first : (l : List ℕ) (k i : ℕ) → Rising (k ∷ l) → i < k → In i (k ∷ l) → ⊥
before_first l k i r h m = ⊎_elim (λ e. omega arith) (λ n. omega (arith, r.0 i n)) (in-cons m)

rising_drop : (l m : List ℕ) → Rising (l ++ m) → Rising m
rising_drop [] m r = r
rising_drop (k ∷ l) m r = rising_drop l m r.1

stands_behind : (l : List ℕ) (j : ℕ) (m : List ℕ) (i : ℕ) → Rising (l ++ j ∷ m) → j < i → In i (l ++ j ∷ m) → In i m
stands_behind [] j m i r h n = ⊎_elim (λ e. absurd (omega arith)) (λ x. x) (in-cons n)
stands_behind (k ∷ l) j m i r h n = ⊎_elim
    (λ e. absurd (omega (arith, r.0 j (in_right l (here refl)))))
    (λ x. stands_behind l j m i r.1 h x)
    (in-cons n)

-- the first two demands give the others
all_finds : (Found : ℕ → Type 0) (l : List ℕ) → ((i : ℕ) → In i l ↔ Found i) → Rising l → AllFinds Found l
all_finds Found l x r =
    record {
      exactly = x;
      rising = r;
      before = λ k m e i h f. before_first m k i (subst Rising e r) h (stands i e f);
      between = λ m j k n e i h h' f. before_first n k i (rising_drop m (j ∷ k ∷ n) (subst Rising e r)).1 h' (stands_behind m j (k ∷ n) i (subst Rising e r) h (stands i e f));
      after = λ m j e i h f. in-nil (stands_behind m j [] i (subst Rising e r) h (stands i e f));
      empty = (λ e i f. in-nil (stands i e f), λ h. in_none l (λ i m. h i ((x i).0 m)));
    }
  where
    stands : (i : ℕ) {m : List ℕ} → l ≡ m → Found i → In i m
    stands i e f = subst (λ (y : List ℕ). In i y) e ((x i).1 f)

-- the pattern p begins at position i of the text; or, where the text is steps, the same steps follow from position i of the drive that was rearranged
abbrev pub FoundAt : Content → List ℕ → List ℕ → ℕ → Type 0
FoundAt Samples p text i = BeginsAt p text i
FoundAt Steps p text i = FollowsAt p (from_steps text) i

pub found_all : (c : Content) (p text : List ℕ) → 0 < length (searched c p) → Bytes p → Bytes text → AllFinds (FoundAt c p text) (finds c p text)
unfolding finds
found_all Samples p text h hp ht = all_finds (BeginsAt p text) (finds Samples p text) (occurrence p text) (occurrences_rising p text)
found_all Steps p text h hp ht =
    all_finds (FollowsAt p (from_steps text)) (finds Steps p text) (follows p (from_steps text) (two_samples p h) hp (from_bytes text ht)) (steps_rising p (from_steps text))

-- success with the same number
pub same_number : (a b : ℕ) → done a 0 ≡ done b 0 → a ≡ b
same_number a b e = cc

-- a pattern passes its checks
passes_search : (c : Content) (p : List ℕ) → 0 < length (searched c p) → length p ≤ 2047 → Passed (search_checks c p)
unfolding search_checks pattern_checks searched
passes_search Samples p h k = more _ (ne_eqb (length p) 0 (λ e. omega arith)) (more _ (le-ltb 2047 (length p) k) none)
passes_search Steps p h k =
    let l = two_samples p h in
    more _ (ne_eqb (length p) 0 (λ e. omega arith)) (more _ (le-ltb 2047 (length p) k) (more _ (ne_eqb (length p) 1 (λ e. omega arith)) none))

-- premises: the table is accepted; the pattern has a sample, or a step where the table holds steps, and at most 2,047 samples; the work slice is long enough
module _ (o : Order) (t : List ℕ) (c : Content) (p work : List ℕ) (accepted : Acceptable o t) (filled : 0 < length (searched c p)) (short : length p ≤ 2047)
    (long : 16384 ≤ length work) where
  abbrev all : List ℕ
  all = finds c p (text_of o t)

  abbrev made : ℕ
  made = length (tests o t (searched c p))

  passes : Passed (search_checks c p ++ table_checks o t (length work))
  unfolding table_checks
  passes =
      both_passed (passes_search c p filled short)
      (more _ (le-ltb (length work) 16384 long) (more _ accepted.0 (more _ accepted.1 (more _ accepted.2 none))))

  pub counted : outcome (count_service o t c p work) ≡ done (length all) made
  unfolding outcome count_service
  counted = passed_all (λ x. refused x.number x.place) (done (length all) made) passes

  -- with room for the list in the result slice
  module _ (result : List ℕ) (room : length all ≤ length result) where
    passes_all : Passed ((search_checks c p ++ table_checks o t (length work)) ++ (result_too_short (length all) (length result) ∷ []))
    passes_all = both_passed passes (more _ (le-ltb (length result) (length all) room) none)

    pub located : outcome (locate_service o t c p work result) ≡ done (length all) made
    unfolding outcome locate_service
    located = passed_all (λ x. refused x.number x.place) (done (length all) made) passes_all

    -- the returned list is the front of the result slice, as many entries as success says; the rest is as it was
    written : slices_after (locate_service o t c p work result) ≡ cleared work ∷ (all ++ drop (length all) result) ∷ []
    unfolding slices_after locate_service placed
    written =
        ap₂ {C = List (List ℕ)} (λ x y. x ∷ y ∷ []) (passed_all (work_slice work).if_refused (cleared work) passes_all)
        (passed_all (λ x. result) (placed all result) passes_all)

    -- of every call that serves and answers k
    pub returned : Bytes p → (r : Search) {work' result' : List ℕ} (k : ℕ) → Serves (locate_service o t c p work result) (Searches r) (work' ∷ result' ∷ []) → r.answer ≡ Ok k
        → AllFinds (FoundAt c p (text_of o t)) (take k result') × (length (take k result') ≡ k) × (r.tests ≡ made) × (outcome (count_service o t c p work) ≡ done k made)
    unfolding outcome_of alone tests_made
    returned hp r {work'} {result'} k v e =
        let d : done k 0 ≡ done (length all) 0 = sym (ap outcome_of e) ∙ v.answer.answer ∙ ap alone located in
        let q : length all ≡ k = cc in
        let held : result' ≡ all ++ drop (length all) result = ap (λ (l : List (List ℕ)). get_or l 1 []) (v.slices ∙ written) in
        let g : take k result' ≡ all = ap₂ {C = List ℕ} take (sym q) held ∙ take-append_seam all (drop (length all) result) in (
          subst (AllFinds (FoundAt c p (text_of o t))) (sym g) (found_all c p (text_of o t) filled hp (accepted_stored o t (not-false (is_table o t) accepted.2)).bytes),
          ap length g ∙ q,
          v.answer.tests ∙ ap tests_made located,
          counted ∙ ap (λ (m : ℕ). done m made) q,
        )

-- a drive that is rearranged can be stored, and a search of its table by steps finds what the definition says of the drive as it was
pub rearranged_stored : (x : List ℕ) (chair : ℕ) → Stored x chair → Stored (to_steps x) chair
rearranged_stored x chair ok = record { short = omega (arith, to_length x, ok.short); bytes = to_bytes x ok.bytes; chairs = ok.chairs }

pub drive_searched : (o : Order) (p x : List ℕ) (chair : ℕ) → Stored x chair → finds Steps p (text_of o (table_of o (to_steps x) chair)) ≡ step_finds p x
unfolding finds
drive_searched o p x chair ok =
    ap (λ (text : List ℕ). step_finds p (from_steps text)) (table_text o (to_steps x) chair (rearranged_stored x chair ok)) ∙ ap (step_finds p) (restored x ok.bytes)

-- so the same is found in the tables of two drives that differ by a number added to every sample
pub table_moved : (o : Order) (k : ℕ) (p x : List ℕ) (chair : ℕ) → Stored x chair
    → finds Steps p (text_of o (table_of o (to_steps (moved_by k x)) chair)) ≡ finds Steps p (text_of o (table_of o (to_steps x) chair))
table_moved o k p x chair ok =
    drive_searched o p (moved_by k x) chair (record { short = omega (arith, moved_length k x, ok.short); bytes = moved_bytes k x; chairs = ok.chairs })
    ∙ drive_moved k p x ok.bytes
    ∙ sym (drive_searched o p x chair ok)

-- ---- the cuts of a pattern

-- what is demanded of the list l of the cuts of p
pub record AllCuts (p l : List ℕ) : Type 0 where
  -- a cut stands in it exactly when it is live and is not dropped because of an earlier cut
  pub exactly : (c : ℕ) → In c l ↔ (Live p c × ((d : ℕ) → 0 < d → d < c → WordAgain p d c → ⊥))
  -- cuts rise, so each stands once
  pub rising : Rising l
  -- of two cuts the earlier tail is at least twice as long
  pub twice : (c d : ℕ) → In c l → In d l → c < d → 2 * (length p - d) ≤ length p - c
  -- there are at most 1 + k, where 2 ^ k is the largest power of 2 up to the length
  pub few : (k : ℕ) → Largest (length p) k → length l ≤ 1 + k
  -- they suffice at every join
  pub suffices : Suffices p l

pub all_cuts : (p : List ℕ) → AllCuts p (listed_cuts p)
all_cuts p = record { exactly = listed_cut p; rising = listed_rising p; twice = listed_twice p; few = listed_bound p; suffices = listed_suffice p }

module _ (o : Order) (p result : List ℕ) (filled : 0 < length p) (short : length p ≤ 2047) (room : length (pattern_cuts o p) ≤ length result) where
  pub cuts_listed : outcome (cuts_service o p result) ≡ done (length (pattern_cuts o p)) 0
  unfolding outcome cuts_service pattern_checks first_met
  cuts_listed = rw (ne_eqb (length p) 0 (λ e. omega arith), le-ltb 2047 (length p) short, le-ltb (length result) (length (pattern_cuts o p)) room)

  cuts_written : slices_after (cuts_service o p result) ≡ (pattern_cuts o p ++ drop (length (pattern_cuts o p)) result) ∷ []
  unfolding slices_after cuts_service pattern_checks first_met placed
  cuts_written = rw (ne_eqb (length p) 0 (λ e. omega arith), le-ltb 2047 (length p) short, le-ltb (length result) (length (pattern_cuts o p)) room)

  -- of every call that serves and answers k
  pub cuts_returned : (r : Answer) {result' : List ℕ} (k : ℕ) → Serves (cuts_service o p result) (Answers r) (result' ∷ []) → outcome_of r ≡ done k 0
      → AllCuts (map (rank_of o) p) (take k result') × (length (take k result') ≡ k)
  unfolding pattern_cuts
  cuts_returned r {result'} k v e =
      let cuts = listed_cuts (map (rank_of o) p) in
      let q : length cuts ≡ k = same_number (length cuts) k (sym (v.answer ∙ cuts_listed) ∙ e) in
      let held : result' ≡ cuts ++ drop (length cuts) result = ap (λ (l : List (List ℕ)). get_or l 0 []) (v.slices ∙ cuts_written) in
      let g : take k result' ≡ cuts = ap₂ {C = List ℕ} take (sym q) held ∙ take-append_seam cuts (drop (length cuts) result) in
      (subst (AllCuts (map (rank_of o) p)) (sym g) (all_cuts (map (rank_of o) p)), ap length g ∙ q)
