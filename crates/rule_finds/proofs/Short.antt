-- A string that is shorter than the pattern: nothing is found in its rule (`short_found`), and nothing tested (`short_tests`); where the root's is, nothing is in any (`short_all`, `short_text`, `short_search`), since every rule's
-- string stands in what the root spells. And a string of two symbols or more is a pair's (`long_pair`).
use mathlib.Core.Path.{◌≡◌, refl, sym, ◌∙◌, ap, subst}
use mathlib.Core.Bool.{Bool, true, false}
use mathlib.Core.List.{List, [], ◌∷◌, ◌++◌, map}
use Prim.Native.Nat.{ℕ, ◌+◌, ◌-◌, ◌≤◌, ◌<◌}
use native.Mathlib.Omega.{arith}
use lib.ListN.{length, take, drop, get_or, replicate, length-append, length-map, length-take, length-drop, length-replicate, get_or-replicate}
use lib.Seq.{length-take-le, drop_at}
use Rattle.definitions.specs.declared.Order.{Order}
use Rattle.definitions.specs.Table.{rank_of, table_of, rule_string, spelled, is_pair, left_half, right_half, rule_count}
use Rattle.definitions.specs.Occurrences.{occurrences, straddling, tests_of, tests}
use Rattle.lists.specs.Bools.{contra}
use Rattle.lists.specs.Parts.{part_at, part_front}
use Rattle.lyndon.specs.Joins.{occurrences_join}
use Rattle.lyndon.specs.Occurrences.{longer_nowhere}
use Rattle.lyndon.specs.Ranks.{marked_length}
use Rattle.lyndon.specs.Ruled.{PairOf}
use Rattle.lyndon.specs.Stored.{rule_range, table_spelled}
use Rattle.lyndon.specs.Tests.{tests_pair, tests_symbol, fitting_none}
use Rattle.lyndon.specs.Windows.{tests_most}
use Rattle.layout.specs.Layout.{TABLE, FOUND, length_in}
use Rattle.decoding.specs.declared.Rule.TheVariants.{Pair}
use Rattle.decoding.specs.Decoding.{rule_in, left_in, right_in}
use Rattle.decoding.proofs.Rules.{pair_unless}
use Rattle.state.specs.State.{Loaded}
use Rattle.joins.proofs.Joining.{cut_place_none}
use Rattle.rule_finds.specs.Found.{occurs_in, across_join, FoundIn}
use Rattle.rule_finds.specs.Searching.{Pattern, Searched}
use Rattle.rule_finds.proofs.Standing.{lent_outside, placed_outside, placed_symbol, pair_stands}

no_members : (l : List ℕ) → length l ≡ 0 → l ≡ []
no_members [] e = refl
no_members (k ∷ l) e = absurd (omega arith)

short_straddling : (p u v : List ℕ) → length u + length v < length p → straddling p u v ≡ []
short_straddling p u v h =
    let behind = map (λ (k : ℕ). length u + k) (occurrences p v) in
    let none = sym (occurrences_join p u v (omega arith)) ∙ longer_nowhere p (u ++ v) (omega (arith, length-append u v)) in
    no_members (straddling p u v) (omega (arith, ap length none, length-append (occurrences p u) (straddling p u v ++ behind), length-append (straddling p u v) behind))

module _ (o : Order) (text : List ℕ) (chair : ℕ) (w : List ℕ) (h : Loaded o text chair w) where
  abbrev t : List ℕ
  t = table_of o text chair

  -- ---- one rule
  module _ (r : ℕ) (low : r < rule_count (table_of o text chair)) where
    small : r < 2304
    small = omega (arith, rule_range o text chair h.kept.stored)

    pub long_pair : 2 ≤ length_in w r → rule_in w r ≡ Pair (left_in w r) (right_in w r)
    long_pair l = pair_unless w r small (λ a b s. omega (arith, h.sizes r low, ap length ((placed_symbol o text chair w h r low a b s).string o)))

    halves : is_pair (table_of o text chair) r ≡ true → PairOf (table_of o text chair) r (left_in w r) (right_in w r)
    halves q = (pair_stands o text chair w h r low (left_in w r) (right_in w r) (pair_unless w r small (λ a b s. contra q (placed_symbol o text chair w h r low a b s).no_pair))).pair

    half_sizes : is_pair (table_of o text chair) r ≡ true → length (left_half o (table_of o text chair) r) + length (right_half o (table_of o text chair) r) ≡ length_in w r
    half_sizes q =
        let k = halves q in
        omega (arith, h.sizes r low, ap length (k.left_half_lem o), ap length (k.right_half_lem o), ap length (k.string o), length-append (rule_string o t (left_in w r)) (rule_string o t (right_in w r)))

    -- and it has no tests
    pub short_tests : (m : ℕ) (cuts : List ℕ) → length_in w r < m → length (tests_of o (table_of o text chair) m cuts r) ≡ 0
    short_tests m cuts l = go (is_pair t r) refl
      where
        go : (b : Bool) → is_pair (table_of o text chair) r ≡ b → length (tests_of o (table_of o text chair) m cuts r) ≡ 0
        go true e = tests_pair o t m r cuts e ∙ fitting_none m (length (left_half o t r)) (length (right_half o t r)) cuts (omega (arith, half_sizes e))
        go false e = ap length (tests_symbol o t m r cuts e)

    pub short_found : (p : List ℕ) → length_in w r < length p → FoundIn o (table_of o text chair) p r 0
    unfolding occurs_in across_join
    short_found p l =
        record {
          number = sym (ap length (longer_nowhere p (rule_string o t r) (omega (arith, h.sizes r low))));
          small = omega arith;
          inside = λ q. omega arith;
          cut = λ q. short_straddling p (left_half o t r) (right_half o t r) (omega (arith, half_sizes q)) ∙ sym (cut_place_none (length (left_half o t r)) 0 refl);
          no_cut = λ q. refl;
        }

    -- no rule's string is longer than the root's
    root_longest : length_in w r ≤ length_in w (rule_count (table_of o text chair) - 1)
    unfolding spelled
    root_longest =
        let most = rule_range o text chair h.kept.stored in
        omega (arith, h.sizes r low, h.sizes (rule_count t - 1) (omega arith), (h.places r low).inside, ap length (table_spelled o text chair h.kept.stored))

  -- ---- the text, and all rules

  -- the root's string is the text and the mark
  pub root_size : (rules : ℕ) → rules ≡ rule_count (table_of o text chair) → length_in w (rules - 1) ≡ length text + 1
  unfolding spelled
  root_size rules e =
      let most = rule_range o text chair h.kept.stored in
      let root = ap (λ (i : ℕ). length_in w (i - 1)) e in
      omega (arith, root, h.sizes (rule_count t - 1) (omega arith), ap length (table_spelled o text chair h.kept.stored), marked_length o text)

  pub short_text : (p : List ℕ) (from rules : ℕ) → rules ≡ rule_count (table_of o text chair) → length_in w (rules - 1) < length p → 0 ≡ length (occurrences p (drop from text))
  short_text p from rules e l = sym (ap length (longer_nowhere p (drop from text) (omega (arith, root_size rules e, length-drop from text))))

  pub short_search : (p : List ℕ) (rules : ℕ) → rules ≡ rule_count (table_of o text chair) → length_in w (rules - 1) < length p → 0 ≡ length (tests o (table_of o text chair) p)
  short_search p rules e l = omega (arith, root_size rules e, tests_most o text chair h.kept.stored p)

  -- n words from FOUND on are cleared
  pub short_all : (p z : List ℕ) (n rules : ℕ) → Pattern p → rules ≡ rule_count (table_of o text chair) → length_in w (rules - 1) < length p → n ≡ rules
      → z ≡ replicate (length (take n (drop FOUND w))) 0 → Searched o p text chair (take FOUND w ++ (z ++ drop n (drop FOUND w)))
  short_all p z n rules q e l f g =
      record {
        loaded = placed_outside o text chair w v (lent_outside w z FOUND n (omega arith) room (omega (arith, h.kept.long)) zeros) h;
        pattern = q;
        found = λ r low. subst (FoundIn o t P r) (sym (cleared r (omega arith))) (short_found r low P (omega (arith, size, root_longest r low, root)));
      }
    where
      v : List ℕ
      v = take FOUND w ++ (z ++ drop n (drop FOUND w))

      P : List ℕ
      P = map (rank_of o) p

      size : length (map (rank_of o) p) ≡ length p
      size = length-map p (rank_of o)

      root : length_in w (rules - 1) ≡ length_in w (rule_count (table_of o text chair) - 1)
      root = ap (λ (i : ℕ). length_in w (i - 1)) e

      room : FOUND + n ≤ TABLE
      room = omega (arith, rule_range o text chair h.kept.stored)

      lent : length (take n (drop FOUND w)) ≡ n
      lent = simp (length-take, length-drop) (omega (arith, room, h.kept.long))

      zeros : length z ≡ n
      zeros = ap length g ∙ length-replicate {A = ℕ} (length (take n (drop FOUND w))) 0 ∙ lent

      cleared : (r : ℕ) → r < n → get_or (take FOUND w ++ (z ++ drop n (drop FOUND w))) (FOUND + r) 0 ≡ 0
      cleared r k =
          sym (part_at FOUND n v r 0 k)
          ∙ ap (λ (x : List ℕ). get_or x r 0) (part_front FOUND n v z (drop n (drop FOUND w)) (drop_at (take FOUND w) (z ++ drop n (drop FOUND w)) FOUND (length-take-le FOUND w (omega (arith, room, h.kept.long)))) zeros ∙ g)
          ∙ get_or-replicate (length (take n (drop FOUND w))) r 0 0 (omega (arith, lent))
