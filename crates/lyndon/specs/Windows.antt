-- A search makes no more tests than a scan of the marked drive has windows (`tests_most`, `accepted_tests_most`). A window of a string lies in one of its halves or is cut at
-- their join, and the tests of a string's rule are among the latter; so the strings that are met in visiting a tree are tested at most as often as its word has windows.
use Rattle.std.specs.Prelude.{◌≡◌, true, take, get_or, leb}
use Rattle.std.proofs.Math.Path.{refl, ap}
use Rattle.std.proofs.Common.{⊎_elim, take-suc, take_all}
use mathlib.Core.List.Memᴰ.{head as here}
use mathlib.Core.List.Memᴰ.{tail as there}
use mathlib.Core.List.{List, [], ◌∷◌, ◌++◌, map, Memᴰ as In}
use Prim.Native.Nat.{ℕ, zero, suc, ◌+◌, ◌-◌, ◌≤◌, ◌<◌}
use native.Mathlib.Omega.{arith}
use Rattle.std.proofs.Math.ListN.{length, length-append}
use Rattle.std.proofs.lemmas.List.{length-map}
use borrow.Author.Tests.{leb-true, not-false}
use Rattle.definitions.specs.declared.Order.{Order}
use Rattle.definitions.specs.Words.{cut_of, least}
use Rattle.definitions.specs.Grammar.{Tree, leaf, node, word, lyndon_tree, left_of, right_of, index_of, meet, visit, order}
use Rattle.definitions.specs.Table.{rank_of, marked, table_of, text_of, is_table, is_pair, left_half, right_half, strings, rule_string, rule_count}
use Rattle.definitions.specs.Occurrences.{fits_join, pattern_cuts, tests_of, tests_below, tests}
use Rattle.lists.specs.Bools.{either, and_left, and_right}
use Rattle.lists.specs.Numbers.{Rising, split_le}
use Rattle.lyndon.specs.Words.{Lyndon}
use Rattle.lyndon.specs.Factorization.{Std, std_left, std_right}
use Rattle.lyndon.specs.Trees.{LyndonTree, tree_of}
use Rattle.lyndon.specs.Numbering.{meet_old, meet_new}
use Rattle.lyndon.specs.Ranks.{marked_lyndon, marked_length}
use Rattle.lyndon.specs.Tests.{fitting, tests_pair, tests_symbol}
use Rattle.lyndon.specs.Stored.{Stored, Acceptable, table_text, table_accepted, accepted_stored, accepted_strings}
use Rattle.lyndon.specs.Listed.{listed_live, listed_rising}
use Rattle.lyndon.specs.Pairs.{pair_halves}
use Rattle.lyndon.specs.Shapes.{strings_length}

-- the windows of m symbols in k symbols, for m from 1 on
abbrev windows : ℕ → ℕ → ℕ
windows m k = k - (m - 1)

-- rising cuts of which those that fit lie behind low, up to high
fitting_range : (m u v low high : ℕ) (cuts : List ℕ) → Rising cuts → ((c : ℕ) → In c cuts → fits_join m u v c ≡ true → (low < c) × (c ≤ high))
    → fitting m u v cuts ≤ high - low
unfolding fitting
fitting_range m u v low high [] r h = omega arith
fitting_range m u v low high (c ∷ cuts) r h =
    ⊎_elim
    (λ e. rw e (omega (arith, h c (here refl) e, fitting_range m u v c high cuts r.1 (λ d i f. (r.0 d i, (h d (there i) f).1)))))
    (λ e. rw e (omega (arith, fitting_range m u v low high cuts r.1 (λ d i. h d (there i)))))
    (either (fits_join m u v c))

module _ (m : ℕ) (cuts : List ℕ) where
  -- the cuts that fit the join of a string's halves
  tried : List ℕ → ℕ
  tried x = fitting m (length (left_of x)) (length (right_of x)) cuts

  tried_one : (a : ℕ) → tried (a ∷ []) ≡ fitting m 1 0 cuts
  unfolding tried left_of right_of cut_of least
  tried_one a = refl

  tried_halves : (u v : List ℕ) → Std u v → tried (u ++ v) ≡ fitting m (length u) (length v) cuts
  unfolding tried
  tried_halves u v d = rw (std_left u v d, std_right u v d)

  -- those of all strings together
  tried_in : List (List ℕ) → ℕ
  tried_in [] = 0
  tried_in (x ∷ S) = tried x + tried_in S

  tried_more : (S : List (List ℕ)) (x : List ℕ) → tried_in (S ++ (x ∷ [])) ≡ tried_in S + tried x
  unfolding tried_in
  tried_more [] x = omega arith
  tried_more (y ∷ S) x = omega (arith, tried_more S x)

  tried_meet : (S : List (List ℕ)) (x : List ℕ) → tried_in (meet S x) ≤ tried_in S + tried x
  tried_meet S x = split_le (length S) (index_of x S)
      (λ h. rw (meet_new S x h) (omega (arith, tried_more S x)))
      (λ h. rw (meet_old S x h) (omega arith))

  -- ---- the windows of a word

  module _ (rise : Rising cuts) (inside : (c : ℕ) → In c cuts → (0 < c) × (c < m)) where
    -- the windows of two sides and the cuts that fit their join are windows of the two together
    join_windows : (u v : ℕ) → fitting m u v cuts + windows m u + windows m v ≤ windows m (u + v)
    unfolding fits_join
    join_windows u v =
        sides (m - 1) (fitting m u v cuts)
        (fitting_range m u v (m - 1 - v) (u - (u - (m - 1))) cuts rise
        (λ c i e.
        let h = inside c i in
        let l = leb-true c u (and_left (leb c u) (leb (m - c) v) e) in
        let r = leb-true (m - c) v (and_right (leb c u) (leb (m - c) v) e) in
        (omega arith, omega arith)))
      where
        sides : (k n : ℕ) → n ≤ u - (u - k) - (k - v) → n + (u - k) + (v - k) ≤ u + v - k
        sides k n h = omega arith

    -- visiting a tree adds at most the windows of its word
    visit_windows : (S : List (List ℕ)) (t : Tree) → LyndonTree t → tried_in (visit S t) ≤ tried_in S + windows m (length (word t))
    unfolding visit word
    visit_windows S (leaf a) h = omega (arith, tried_meet S (a ∷ []), tried_one a, join_windows 1 0)
    visit_windows S (node l r) h =
        omega (
          arith,
          visit_windows S l h.0,
          visit_windows (visit S l) r h.1,
          tried_meet (visit (visit S l) r) (word l ++ word r),
          tried_halves (word l) (word r) h.2,
          join_windows (length (word l)) (length (word r)),
          length-append (word l) (word r),
        )

    order_windows : (w : List ℕ) → Lyndon w → tried_in (order w) ≤ windows m (length w)
    unfolding order tried_in
    order_windows w h = omega (arith, visit_windows [] (lyndon_tree w) (tree_of w h).0, ap length (tree_of w h).1)

  -- ---- the tests of a table's rules

  module _ (o : Order) (t : List ℕ) (a : is_table o t ≡ true) where
    rule_tests : (r : ℕ) → length (tests_of o t m cuts r) ≤ tried (rule_string o t r)
    rule_tests r =
        ⊎_elim
        (λ e. let (f, d) = pair_halves o t a r e in rw f (omega (arith, tests_pair o t m r cuts e, tried_halves (left_half o t r) (right_half o t r) d)))
        (λ e. rw (tests_symbol o t m r cuts e) (omega arith))
        (either (is_pair t r))

    below_tests : (n : ℕ) → n ≤ rule_count t → length (tests_below o t m cuts n) ≤ tried_in (take n (strings o t (rule_count t)))
    unfolding tests_below rule_string
    below_tests zero h = omega arith
    below_tests (suc n) h =
        let S = strings o t (rule_count t) in
        rw (take-suc S n [] (omega (arith, strings_length o t (rule_count t))))
        (omega (arith, length-append (tests_below o t m cuts n) (tests_of o t m cuts n), below_tests n (omega arith), rule_tests n, tried_more (take n S) (get_or S n [])))

    table_tests : length (tests_below o t m cuts (rule_count t)) ≤ tried_in (order (marked o (text_of o t)))
    table_tests =
        rw (take_all (rule_count t) (strings o t (rule_count t)) (omega (arith, strings_length o t (rule_count t))), accepted_strings o t a) at (below_tests (rule_count t) (omega arith))

table_windows : (o : Order) (t : List ℕ) → is_table o t ≡ true → (p : List ℕ) → length (tests o t p) ≤ (length (text_of o t) + 2) - length p
unfolding tests pattern_cuts
table_windows o t a p =
    let q = map (rank_of o) p in
    omega (
      arith,
      table_tests (length p) (pattern_cuts o p) o t a,
      order_windows (length p) (pattern_cuts o p) (listed_rising q) (λ c i. let l = listed_live q c i in (l.0, omega (arith, l.1, length-map p (rank_of o))))
          (marked o (text_of o t)) (marked_lyndon o (text_of o t) (accepted_stored o t a).bytes),
      marked_length o (text_of o t),
    )

-- a search tests no more places than a scan of the marked drive has windows
pub tests_most : (o : Order) (text : List ℕ) (chair : ℕ) → Stored text chair → (p : List ℕ) → length (tests o (table_of o text chair) p) ≤ (length text + 2) - length p
tests_most o text chair ok p = rw (table_text o text chair ok) at (table_windows o (table_of o text chair) (table_accepted o text chair ok) p)

pub accepted_tests_most : (o : Order) (t : List ℕ) → Acceptable o t → (p : List ℕ) → length (tests o t p) ≤ (length (text_of o t) + 2) - length p
accepted_tests_most o t h = table_windows o t (not-false (is_table o t) h.2)
