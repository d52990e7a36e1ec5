-- From a marked text to its table: with the ends of its Lyndon words known, its rules can be numbered (`ended_numbers`), and with the chair number
-- stored beside the mark they are its table (`tabled`).
use mathlib.Core.Path.{◌≡◌, refl, sym, ◌∙◌, ap, ap₂, subst}
use mathlib.Core.List.{List, [], ◌∷◌}
use Prim.Native.Nat.{ℕ, ◌+◌, ◌*◌, ◌≤◌, ◌<◌}
use native.Mathlib.Omega.{arith}
use native.Mathlib.Nat.{zero-add, sub-zero}
use native.Mathlib.Numerals.{add-one}
use lib.ListN.{length, take, get_or, set, length-set}
use Rattle.definitions.specs.declared.Order.{Order}
use Rattle.definitions.specs.Grammar.{order, Rule, symbol, rules_of}
use Rattle.definitions.specs.Table.{marked, words, word_of, table_of}
use Rattle.definitions.specs.Words.{placed}
use Rattle.lists.specs.Lists.{placed_length, placed_front}
use Rattle.lists.specs.Numbers.{split_le}
use Rattle.lists.specs.Members.{at_in}
use Rattle.lists.specs.Parts.{part, part_length, part_at, part_set, part_set_behind, part_agree}
use Rattle.lyndon.specs.Forest.{forest, longests}
use Rattle.lyndon.specs.Ranks.{slice_bytes, marked_lyndon, behind_mark, marked_symbols, marked_length}
use Rattle.lyndon.specs.Sequence.{order_filled}
use Rattle.lyndon.specs.Rules.{rules_for, rules_length, rule_at_lem, rule_symbol}
use Rattle.lyndon.specs.Encoding.{first_word, second_word, words_cons}
use Rattle.lyndon.specs.Closings.{start, run, closings_of, Enough, forest_enough, run_rules}
use Rattle.lyndon.specs.Stored.{Stored, storable, order_most, table_words, table_length_lem}
use Rattle.layout.specs.Layout.{LONGEST, CLOSINGS, STACK, TABLE, CHAIR, WORK, BESIDE_SYMBOL}
use Rattle.ends.specs.Areas.{Ended}
use Rattle.stack.specs.Areas.{Rules, Below}
use Rattle.numbering.specs.Numbering.{numbered, Numberable}
use Rattle.grammar.specs.Built.{Marked, Built}

-- ---- from the ends to the rules

module _ (o : Order) (n chair : ℕ) (w₀ w : List ℕ) (m : Marked o n chair w₀) (e : Ended (part 0 n w₀) 0 w) (same : length w ≡ length w₀) where
  area : length (part 0 n w₀) ≡ n
  area = part_length 0 n w₀ (omega (arith, m.long, m.size, m.stored.short))

  ended_text : part 0 n w ≡ marked o m.text
  ended_text = ap (λ (k : ℕ). part 0 k w) (sym area) ∙ e.text ∙ m.front

  pub ended_first : part LONGEST n w ≡ longests (marked o m.text)
  ended_first = ap (λ (k : ℕ). part LONGEST k w) (sym area ∙ sym (sub-zero (length (part 0 n w₀)))) ∙ e.first ∙ ap longests m.front

  ended_close : part CLOSINGS n w ≡ closings_of (forest (marked o m.text))
  ended_close =
      ap (λ (k : ℕ). part CLOSINGS k w) (sym area ∙ sym (sub-zero (length (part 0 n w₀)))) ∙ e.close ∙ ap (λ (s : List ℕ). closings_of (forest s)) m.front

  pub ended_numbered : numbered n w ≡ rules_of (marked o m.text)
  unfolding numbered
  ended_numbered =
      ap₂ {C = List Rule} (λ x y. (run start x y).rules) ended_text ended_close ∙ run_rules (marked o m.text) (marked_lyndon o m.text m.stored.bytes)

  pub rules_size : length (rules_of (marked o m.text)) ≡ length (order (marked o m.text))
  unfolding rules_of rules_for
  rules_size = rules_length (order (marked o m.text))

  pub ended_numbers : Numberable n w
  unfolding marked
  ended_numbers =
      record {
        filled = omega (arith, m.size);
        short = omega (arith, m.size, m.stored.short);
        long = omega (arith, m.long);
        mark = sym (rank_at 0 (omega (arith, m.size)));
        samples = λ i z h. subst (λ (x : ℕ). 0 < x) (rank_at i h) (behind_mark o m.text m.stored.bytes i z (omega (arith, m.size)));
        ranks = λ i h. subst (λ (x : ℕ). x < 257) (rank_at i h) (marked_symbols o m.text m.stored.bytes (get_or (marked o m.text) i 0) (at_in (marked o m.text) i (omega (arith, m.size, marked_length o m.text))));
        enough = subst (Enough 0) (sym ended_close) (forest_enough 0 (forest (marked o m.text)));
        room = omega (arith, ap length ended_numbered, rules_size, order_most o m.text chair m.stored);
      }
    where
      rank_at : (i : ℕ) → i < n → get_or (marked o m.text) i 0 ≡ get_or w i 0
      rank_at i h = ap (λ (l : List ℕ). get_or l i 0) (sym ended_text) ∙ part_at 0 n w i 0 h ∙ ap (λ (k : ℕ). get_or w k 0) (zero-add i)

  -- ---- and the chair number

  -- the first rule is the mark's, so the chair number stands in word 1
  words_chair : (K : List Rule) (c a : ℕ) → 0 < length K → get_or K 0 (symbol 0) ≡ symbol a → words o c K ≡ set (words o 0 K) 1 (word_of 3 c)
  unfolding second_word
  words_chair [] c a h q = absurd (omega arith)
  words_chair (x ∷ K) c a h q =
      words_cons o c x K
      ∙ ap₂ {C = List ℕ} (λ y z. first_word o x ∷ y ∷ z) (ap (second_word c) q) refl
      ∙ sym (ap (λ (l : List ℕ). set l 1 (word_of 3 c)) (words_cons o 0 x K))

  abbrev S : List (List ℕ)
  S = order (marked o m.text)

  some_string : 0 < length S
  some_string = order_filled (marked o m.text) (marked_lyndon o m.text m.stored.bytes)

  -- no string stands before the first, so it has no parts
  mark_first : (a : ℕ) × (get_or (rules_of (marked o m.text)) 0 (symbol 0) ≡ symbol a)
  unfolding rules_of rules_for
  mark_first = split_le 2 (length (get_or S 0 []))
      (λ h.
      let k = (storable o m.text chair m.stored).numbered in
      let at = k.once 0 some_string in
      let (p, q) = k.parts (get_or S 0 []) (omega (arith, at, some_string)) h in
      absurd (omega (arith, at)))
      (λ h. (get_or (get_or S 0 []) 0 0, rule_at_lem S 0 ∙ rule_symbol S (get_or S 0 []) h))

  chaired : set (words o 0 (rules_of (marked o m.text))) 1 (BESIDE_SYMBOL + chair) ≡ words o chair (rules_for (order (marked o m.text)))
  unfolding word_of rules_of rules_for
  chaired = let (a, q) = mark_first in sym (words_chair (rules_for S) chair a (omega (arith, some_string, rules_length S)) q)

  pub tabled : (v : List ℕ) → Rules o (rules_of (marked o m.text)) v → Below w v → Built o m.text chair (set v CHAIR (BESIDE_SYMBOL + chair))
  tabled v r b =
      record {
        long = simp length-set r.long;
        ranks = subst (λ (k : ℕ). part 0 k u ≡ marked o m.text) m.size (kept 0 n (omega (arith, short)) ∙ ended_text);
        first = subst (λ (k : ℕ). part LONGEST k u ≡ longests (marked o m.text)) m.size (kept LONGEST n (omega (arith, short)) ∙ ended_first);
        table =
            ap (λ (k : ℕ). part TABLE k u) count
            ∙ part_set TABLE (2 * length K) v 1 (BESIDE_SYMBOL + chair) (omega (arith, some_string, rules_size))
            ∙ ap (λ (l : List ℕ). set l 1 (BESIDE_SYMBOL + chair)) r.table
            ∙ chaired
            ∙ sym (table_words o m.text chair m.stored);
      }
    where
      u : List ℕ
      u = set v CHAIR (BESIDE_SYMBOL + chair)

      K : List Rule
      K = rules_of (marked o m.text)

      short : n ≤ 2048
      short = omega (arith, m.size, m.stored.short)

      kept : (a k : ℕ) → a + k ≤ STACK → part a k u ≡ part a k w
      kept a k h = part_set_behind a k v CHAIR (BESIDE_SYMBOL + chair) (omega arith) ∙ part_agree STACK a k w v b h

      count : length (table_of o m.text chair) ≡ 2 * length K
      count = table_length_lem o m.text chair m.stored ∙ ap (λ (k : ℕ). 2 * k) (sym rules_size)

-- ---- a text that is placed

pub stored_here : (text : List ℕ) (chair : ℕ) → length text ≤ 2047 → ((i : ℕ) → i < length text → get_or text i 0 < 256) → chair < 65536 → Stored text chair
stored_here text chair h b c = record { short = h; bytes = slice_bytes text b; chairs = c }

pub placed_front_part : (o : Order) (text w v : List ℕ) → v ≡ placed (marked o text) w → part 0 (length text + 1) v ≡ marked o text
unfolding part
placed_front_part o text w v e =
    ap₂ {C = List ℕ} (λ k l. take k l) (add-one (length text) ∙ sym (marked_length o text)) e ∙ placed_front (marked o text) w

pub placed_long : (o : Order) (text w v : List ℕ) (chair : ℕ) → Stored text chair → WORK ≤ length w → v ≡ placed (marked o text) w → WORK ≤ length v
placed_long o text w v chair k h e =
    omega (arith, ap length e, placed_length (marked o text) w (omega (arith, marked_length o text, k.short)))

unfoldable pub placed_marked : (o : Order) (text w v : List ℕ) (chair : ℕ) → Stored text chair → WORK ≤ length w → v ≡ placed (marked o text) w
    → Marked o (length text + 1) chair v
placed_marked o text w v chair k h e =
    record {
      text = text;
      stored = k;
      size = add-one (length text);
      front = placed_front_part o text w v e;
      long = placed_long o text w v chair k h e;
    }
