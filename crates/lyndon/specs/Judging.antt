-- A table judged by its own rules: its strings are those of rules that are visited in turn (`rules_visited`) and its words those of these strings' rules
-- (`rules_words`), so it is the table of a drive and a chair number exactly when it is `Sound` (`judged`).
use Rattle.std.specs.Prelude.{◌≡◌, ◌↔◌, ℕ, suc, ◌+◌, ◌-◌, ◌*◌, ◌/◌, ◌%◌, ◌≤◌, ◌<◌, length, get_or}
use Rattle.std.proofs.Math.Path.{refl, sym, ap, ap₂}
use Rattle.std.proofs.Common.{◌∙◌, subst, ⊎_elim, arith, length-append}
use Rattle.std.proofs.Math.Bool.{true}
use mathlib.Core.List.Memᴰ.{cases_cons as in-cons}
use mathlib.Core.List.Memᴰ.{not-nil as in-nil}
use mathlib.Core.List.{List, [], ◌∷◌, ◌++◌, Memᴰ as In}
use Rattle.std.proofs.Math.Seq.{ext_get_or}
use Rattle.definitions.specs.declared.Order.{Order}
use Rattle.definitions.specs.Words.{every}
use Rattle.definitions.specs.Grammar.{lyndon_tree, index_of, meet, visit, order, rule_of}
use Rattle.definitions.specs.Grammar as grammar
use Rattle.definitions.specs.Table.{rank_of_number, marked, word_of, words, table_of, is_table, strings, rule_string, spelled, text_of, chair_of, rule_count}
use Rattle.lists.specs.Bools.{and_left, and_intro}
use Rattle.lists.specs.Numbers.{split_le}
use Rattle.lyndon.specs.Factorization.{std_left, std_right}
use Rattle.lyndon.specs.Trees.{tree_of, tree_leaf, tree_node}
use Rattle.lyndon.specs.Numbering.{index_at, index_first}
use Rattle.lyndon.specs.Rules.{rules_for, rules_length, rule_at_lem, rule_symbol, rule_pair}
use Rattle.lyndon.specs.Ranks.{Bytes, number_of_rank_lem}
use Rattle.lyndon.specs.Encoding.{first_word, second_word, beside, words_length, words_first, words_second}
use Rattle.lyndon.specs.Stored.{Stored, accepted, accepted_stored, accepted_spelled, accepted_strings, table_words}
use Rattle.lyndon.specs.Pairs.{pair_halves}
use Rattle.lyndon.specs.Shapes.{Shaped, strings_length, string_filled, string_ranks, chair_small}
use Rattle.lyndon.specs.Meeting.{meets, in_turn, after_all, after_new, visit_all, strings_at, Lawful, all_met}
use Rattle.lyndon.specs.Ruled.{halves, Ruled, symbol, pair, ruled, halves_fall}
use Rattle.lyndon.specs.Standard.{ordered, rule_lyndon, rule_standard, standard_ordered}
use Rattle.lyndon.specs.Twins.{is_new, once_new, strings_once}
use Rattle.lyndon.specs.Marks.{is_marked, marked_drive, drive_marked}
use Rattle.lyndon.specs.Accepted.{accepted_once, accepted_lyndon}

-- the rules of a table, each in order and no two alike
module _ (o : Order) (t : List ℕ) (s : Shaped t) (new : every (is_new t) (rule_count t) ≡ true) (e : every (ordered o t) (rule_count t) ≡ true) where
  visit_rule : (r : ℕ) → r < rule_count t → (met : List (List ℕ)) → visit met (lyndon_tree (rule_string o t r)) ≡ meet (visit_all met (strings_at (strings o t (rule_count t)) (halves t r))) (rule_string o t r)
  unfolding visit visit_all rule_string
  visit_rule r h met = go (ruled t s r h)
    where
      go : Ruled t r → visit met (lyndon_tree (rule_string o t r)) ≡ meet (visit_all met (strings_at (strings o t (rule_count t)) (halves t r))) (rule_string o t r)
      go (symbol n _ k) = rw (k.string o, k.no_halves, tree_leaf (rank_of_number o n))
      go (pair u v k) =
          let (d, l) = rule_standard o t s e r u v h k in
          let lu = rule_lyndon o t s e u (omega (arith, k.left)) in
          let lv = rule_lyndon o t s e v (omega (arith, k.right)) in
          let tu = lyndon_tree (rule_string o t u) in
          let tv = lyndon_tree (rule_string o t v) in
          ap (visit met) (ap lyndon_tree (k.string o) ∙ tree_node (rule_string o t u) (rule_string o t v) lu lv d l)
          ∙ ap₂ {C = List (List ℕ)} (λ (q : List ℕ) (x : List ℕ). meet (visit_all met (strings_at (strings o t (rule_count t)) q)) x) (sym k.both_halves)
          (ap₂ {C = List ℕ} (λ x y. x ++ y) (tree_of (rule_string o t u) lu).1 (tree_of (rule_string o t v) lv).1 ∙ sym (k.string o))

  -- their strings are visited in turn
  pub rules_visited : Lawful (halves t) (strings o t (rule_count t))
  unfolding rule_string
  rules_visited =
      let size = strings_length o t (rule_count t) in
      record {
        falls = halves_fall t s;
        once = λ i j h k. strings_once o t s new e i j (omega arith) (omega arith);
        visits = λ r h met. visit_rule r (omega arith) met;
      }

  -- a rule's string stands where the rule does
  string_index : (r : ℕ) → r < rule_count t → index_of (rule_string o t r) (strings o t (rule_count t)) ≡ r
  unfolding rule_string
  string_index r h =
      let S = strings o t (rule_count t) in
      let size = strings_length o t (rule_count t) in
      let first = index_first (rule_string o t r) S r (omega arith) refl in
      strings_once o t s new e (index_of (rule_string o t r) S) r (omega arith) h (index_at (rule_string o t r) S (omega arith))

  -- the rule of a rule's string has its two words
  rule_words_lem : (r : ℕ) → r < rule_count t
      → (first_word o (rule_of (strings o t (rule_count t)) (rule_string o t r)) ≡ get_or t (2 * r) 0)
      × (second_word (beside (chair_of t) r) (rule_of (strings o t (rule_count t)) (rule_string o t r)) ≡ get_or t (2 * r + 1) 0)
  unfolding first_word second_word
  rule_words_lem r h = go (ruled t s r h)
    where
      S : List (List ℕ)
      S = strings o t (rule_count t)

      go : Ruled t r → (first_word o (rule_of S (rule_string o t r)) ≡ get_or t (2 * r) 0) × (second_word (beside (chair_of t) r) (rule_of S (rule_string o t r)) ≡ get_or t (2 * r + 1) 0)
      go (symbol n _ k) =
          let rule : rule_of S (rule_string o t r) ≡ grammar.symbol (rank_of_number o n) = ap (rule_of S) (k.string o) ∙ rule_symbol S (rank_of_number o n ∷ []) (omega arith) in
          (rw rule (ap (word_of 0) (number_of_rank_lem o n k.number) ∙ sym k.first), rw rule (ap (word_of 3) (sym k.beside) ∙ sym k.second))
      go (pair u v k) =
          let (d, l) = rule_standard o t s e r u v h k in
          let a = string_filled o t s u (omega (arith, k.left)) in
          let b = string_filled o t s v (omega (arith, k.right)) in
          let x = rule_string o t u in
          let y = rule_string o t v in
          let rule : rule_of S (rule_string o t r) ≡ grammar.pair u v =
          ap (rule_of S) (k.string o)
          ∙ rule_pair S (x ++ y) (simp length-append (omega arith))
          ∙ ap₂ {C = grammar.Rule} (λ i j. grammar.pair i j)
          (ap (λ (z : List ℕ). index_of z S) (std_left x y d) ∙ string_index u (omega (arith, k.left)))
          (ap (λ (z : List ℕ). index_of z S) (std_right x y d) ∙ string_index v (omega (arith, k.right))) in
          (rw rule (sym k.first), rw rule (sym k.second))

  -- so its words are those of the rules of its strings
  pub rules_words : words o (chair_of t) (rules_for (strings o t (rule_count t))) ≡ t
  unfolding rule_string
  rules_words = ext_get_or 0 (words o (chair_of t) K) t long at
    where
      K : List grammar.Rule
      K = rules_for (strings o t (rule_count t))

      size : length K ≡ rule_count t
      size = rules_length (strings o t (rule_count t)) ∙ strings_length o t (rule_count t)

      long : length (words o (chair_of t) K) ≡ length t
      long = omega (arith, words_length o (chair_of t) K, size, s.even)

      at : (i : ℕ) → i < length (words o (chair_of t) K) → get_or (words o (chair_of t) K) i 0 ≡ get_or t i 0
      at i h = split_le (i % 2) 0
          (λ z. subst (λ (j : ℕ). get_or (words o (chair_of t) K) j 0 ≡ get_or t j 0) (omega arith) (words_first o (chair_of t) K (i / 2) (omega (arith, long, size)) ∙ ap (first_word o) (rule_at_lem (strings o t (rule_count t)) (i / 2)) ∙ (rule_words_lem (i / 2) (omega (arith, long))).0))
          (λ z. subst (λ (j : ℕ). get_or (words o (chair_of t) K) j 0 ≡ get_or t j 0) (omega arith) (words_second o (chair_of t) K (i / 2) (omega (arith, long, size)) ∙ ap (second_word (beside (chair_of t) (i / 2))) (rule_at_lem (strings o t (rule_count t)) (i / 2)) ∙ (rule_words_lem (i / 2) (omega (arith, long))).1))

-- ---- the theorem

-- a table that passes by its own rules
pub record Sound (o : Order) (t : List ℕ) : Type 0 where
  -- the root spells the mark and then at most 2,047 symbols, none of which is the mark
  pub root : is_marked (spelled o t) ≡ true
  -- no two rules have the same words, what stands beside a symbol aside
  pub distinct : every (is_new t) (rule_count t) ≡ true
  -- the halves of every pair are in order
  pub standard : every (ordered o t) (rule_count t) ≡ true
  -- the root meets all rules in their order
  pub met : meets (halves t) 0 (rule_count t - 1) ≡ true

module _ (o : Order) (t : List ℕ) (s : Shaped t) where
  -- the root is the last rule
  root : ℕ
  root = rule_count t - 1

  last : suc root ≡ rule_count t
  unfolding root
  last = omega (arith, s.even, s.filled)

  root_small : (q : ℕ) → In q (root ∷ []) → q < length (strings o t (rule_count t))
  root_small q i = ⊎_elim (λ e. omega (arith, strings_length o t (rule_count t), last)) (λ m. absurd (in-nil m)) (in-cons i)

  spelled_drive : is_marked (spelled o t) ≡ true → (marked o (text_of o t) ≡ spelled o t) × Bytes (text_of o t) × (length (text_of o t) ≤ 2047)
  unfolding text_of spelled root
  spelled_drive m = marked_drive o (spelled o t) m (string_ranks o t s root (omega (arith, last)))

  chair_range : chair_of t < 65536
  unfolding chair_of
  chair_range = chair_small t s

  -- the root meets all rules in their order exactly when its grammar has their strings
  module _ (new : every (is_new t) (rule_count t) ≡ true) (e : every (ordered o t) (rule_count t) ≡ true) where
    met_order : meets (halves t) 0 root ≡ true → order (spelled o t) ≡ strings o t (rule_count t)
    unfolding order spelled rule_string visit_all in_turn after_all root
    met_order m =
        (all_met (rules_visited o t s new e) (root ∷ []) root_small).0
        (and_intro (meets (halves t) 0 root) true m refl, after_new 0 root (omega arith) ∙ last ∙ sym (strings_length o t (rule_count t)))

    order_met : order (spelled o t) ≡ strings o t (rule_count t) → meets (halves t) 0 root ≡ true
    unfolding order spelled rule_string visit_all in_turn root
    order_met f = and_left (meets (halves t) 0 root) true ((all_met (rules_visited o t s new e) (root ∷ []) root_small).1 f).0

  sound_table : Sound o t → is_table o t ≡ true
  unfolding root
  sound_table k = (accepted o t).1 (text_of o t, chair_of t, stored, sym table)
    where
      drive : (marked o (text_of o t) ≡ spelled o t) × Bytes (text_of o t) × (length (text_of o t) ≤ 2047)
      drive = spelled_drive k.root

      stored : Stored (text_of o t) (chair_of t)
      stored = record { short = drive.2; bytes = drive.1; chairs = chair_range }

      table : table_of o (text_of o t) (chair_of t) ≡ t
      table =
          table_words o (text_of o t) (chair_of t) stored
          ∙ ap (λ (x : List (List ℕ)). words o (chair_of t) (rules_for x)) (ap order drive.0 ∙ met_order k.distinct k.standard k.met)
          ∙ rules_words o t s k.distinct k.standard

  table_sound : is_table o t ≡ true → Sound o t
  unfolding root
  table_sound a = record { root = marks; distinct = distinct; standard = standard; met = order_met distinct standard whole }
    where
      ok : Stored (text_of o t) (chair_of t)
      ok = accepted_stored o t a

      marks : is_marked (spelled o t) ≡ true
      marks = rw (accepted_spelled o t a) (drive_marked o (text_of o t) ok.short ok.bytes)

      whole : order (spelled o t) ≡ strings o t (rule_count t)
      whole = ap order (accepted_spelled o t a) ∙ sym (accepted_strings o t a)

      distinct : every (is_new t) (rule_count t) ≡ true
      distinct = once_new o t s (accepted_once o t a)

      standard : every (ordered o t) (rule_count t) ≡ true
      standard = standard_ordered o t s (accepted_lyndon o t a) (λ q f. (pair_halves o t a q f).1)

  -- a table is the table of a drive and a chair number exactly when it is sound
  pub judged : (is_table o t ≡ true) ↔ Sound o t
  judged = (table_sound, sound_table)
