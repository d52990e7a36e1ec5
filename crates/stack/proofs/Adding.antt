-- Adding a rule: the table area and the links hold it afterwards (`rules_added`); looking its words up finds its number (`looked_up`).
use mathlib.Core.Path.{◌≡◌, sym, ◌∙◌, ap, ap₂, subst}
use mathlib.Core.List.{List, [], ◌∷◌, ◌++◌}
use Prim.Native.Nat.{ℕ, suc, ◌+◌, ◌*◌, ◌≤◌, ◌<◌}
use native.Mathlib.Omega.{arith}
use native.Mathlib.Numerals.{add-one}
use lib.ListN.{length, take, get_or, set, length-set, length-append, get_or-append}
use lib.Seq.{get_or-set_same, get_or-set_other, get_or-append_seam, take-set-le}
use Rattle.definitions.specs.declared.Order.{Order}
use Rattle.definitions.specs.Grammar.{Rule, symbol}
use Rattle.definitions.specs.Table.{words}
use Rattle.lists.specs.Numbers.{split_lt}
use Rattle.lists.specs.Newest.{newest, has_words}
use Rattle.lists.specs.Parts.{part, part_length, part_at, part_set, part_set_before, part_set_behind, part_append, part_cons, part_none}
use Rattle.lyndon.specs.Rules.{find}
use Rattle.lyndon.specs.Encoding.{first_word, second_word, Encodes, AllEncode, words_cons, find_encoded}
use Rattle.layout.specs.Layout.{LINKS, TABLE}
use Rattle.dict.specs.Dictionary.{bucket_of, Dict}
use Rattle.dict.specs.Links.{bucket_small, linked, dict_more}
use Rattle.stack.specs.Areas.{Rules, added}

words_append : (o : Order) (K : List Rule) (x : Rule) → words o 0 (K ++ (x ∷ [])) ≡ words o 0 K ++ (first_word o x ∷ second_word 0 x ∷ [])
unfolding words
words_append o [] x = words_cons o 0 x []
words_append o (y ∷ K) x =
    words_cons o 0 y (K ++ (x ∷ []))
    ∙ ap {B = List ℕ} (λ l. first_word o y ∷ second_word 0 y ∷ l) (words_append o K x)
    ∙ ap (λ (l : List ℕ). l ++ (first_word o x ∷ second_word 0 x ∷ [])) (sym (words_cons o 0 y K))

encode_append : (K : List Rule) (x : Rule) → AllEncode K → Encodes x → AllEncode (K ++ (x ∷ []))
encode_append K x h e r l = split_lt r (length K)
    (λ k. subst Encodes (sym (get_or-append K (x ∷ []) (symbol 0) r k)) (h r k))
    (λ q. rw (q, get_or-append_seam K x [] (symbol 0)) e)
    (λ k. absurd (omega (arith, simp length-append at l)))

-- ---- the words of rules K at the front of the table area

pub looked_up : (o : Order) (K : List Rule) (w : List ℕ) (x : Rule) → Rules o K w → Encodes x → length K ≤ 2304
    → newest (has_words (part TABLE 4608 w) (first_word o x) (second_word 0 x)) (length K) ≡ find x K
looked_up o K w x r e h =
    find_encoded o (part TABLE 4608 w) x K e r.encodes
    (λ i l.
    part_at TABLE 4608 w i 0 (omega arith)
    ∙ sym (part_at TABLE (2 * length K) w i 0 l)
    ∙ ap (λ (t : List ℕ). get_or t i 0) r.table)

module _ (o : Order) (K : List Rule) (w : List ℕ) (x : Rule) (r : Rules o K w) (e : Encodes x) (h : length K < 2304) where
  abbrev n : ℕ
  n = length K

  abbrev a : ℕ
  a = first_word o x

  abbrev b : ℕ
  b = second_word 0 x

  abbrev z : ℕ
  z = bucket_of a b

  -- the words are stored, then linked
  abbrev v : List ℕ
  v = set (set w (TABLE + 2 * n) a) (TABLE + 2 * n + 1) b

  abbrev u : List ℕ
  u = set (set v (LINKS + 1024 + n) (get_or v (LINKS + z) 0)) (LINKS + z) (n + 1)

  small : z < 1024
  small = bucket_small a b

  size : length v ≡ length w
  size = length-set (set w (TABLE + 2 * n) a) (TABLE + 2 * n + 1) b ∙ length-set w (TABLE + 2 * n) a

  -- the links lie before the table
  linked_table : (m k : ℕ) → part (TABLE + m) k u ≡ part (TABLE + m) k v
  linked_table m k =
      part_set_before (TABLE + m) k (set v (LINKS + 1024 + n) (get_or v (LINKS + z) 0)) (LINKS + z) (n + 1) (omega (arith, small))
      ∙ part_set_before (TABLE + m) k v (LINKS + 1024 + n) (get_or v (LINKS + z) 0) (omega arith)

  first_word_lem : get_or v (TABLE + 2 * n) 0 ≡ a
  first_word_lem =
      get_or-set_other (set w (TABLE + 2 * n) a) (TABLE + 2 * n + 1) (TABLE + 2 * n) b 0 (λ q. omega arith)
      ∙ get_or-set_same w (TABLE + 2 * n) a 0 (omega (arith, r.long))

  second_word_lem : get_or v (TABLE + 2 * n + 1) 0 ≡ b
  second_word_lem = get_or-set_same (set w (TABLE + 2 * n) a) (TABLE + 2 * n + 1) b 0 (simp length-set (omega (arith, r.long)))

  -- ---- the table

  old_words : (m k : ℕ) → m + k ≤ 2 * n → part (TABLE + m) k v ≡ part (TABLE + m) k w
  old_words m k l =
      part_set_behind (TABLE + m) k (set w (TABLE + 2 * n) a) (TABLE + 2 * n + 1) b (omega arith)
      ∙ part_set_behind (TABLE + m) k w (TABLE + 2 * n) a (omega arith)

  new_words : part (TABLE + 2 * n) 2 v ≡ a ∷ b ∷ []
  new_words =
      part_cons (TABLE + 2 * n) 1 v 0 (omega (arith, size, r.long))
      ∙ ap₂ {C = List ℕ} (λ p q. p ∷ q) first_word_lem
      (part_cons (suc (TABLE + 2 * n)) 0 v 0 (omega (arith, size, r.long))
      ∙ ap₂ {C = List ℕ} (λ p q. p ∷ q) (ap (λ (k : ℕ). get_or v k 0) (sym (add-one (TABLE + 2 * n))) ∙ second_word_lem) (part_none (suc (suc (TABLE + 2 * n))) v))

  table : part TABLE (2 * length (K ++ (x ∷ []))) u ≡ words o 0 (K ++ (x ∷ []))
  table =
      ap (λ (k : ℕ). part TABLE k u) more
      ∙ part_append TABLE (2 * n) 2 u
      ∙ ap₂ {C = List ℕ} (λ p q. p ++ q)
      (linked_table 0 (2 * n) ∙ old_words 0 (2 * n) (omega arith) ∙ r.table)
      (linked_table (2 * n) 2 ∙ new_words)
      ∙ sym (words_append o K x)
    where
      more : 2 * length (K ++ (x ∷ [])) ≡ 2 * n + 2
      more = omega (arith, length-append K (x ∷ []))

  -- ---- the links

  old_links : part LINKS 3328 v ≡ part LINKS 3328 w
  old_links =
      part_set_behind LINKS 3328 (set w (TABLE + 2 * n) a) (TABLE + 2 * n + 1) b (omega arith)
      ∙ part_set_behind LINKS 3328 w (TABLE + 2 * n) a (omega arith)

  new_links : part LINKS 3328 u ≡ linked (part LINKS 3328 w) n a b
  unfolding linked
  new_links =
      part_set LINKS 3328 (set v (LINKS + 1024 + n) (get_or v (LINKS + z) 0)) z (n + 1) (omega (arith, small))
      ∙ ap (λ (l : List ℕ). set l z (n + 1))
      (ap (λ (k : ℕ). part LINKS 3328 (set v k (get_or v (LINKS + z) 0))) place
      ∙ part_set LINKS 3328 v (1024 + n) (get_or v (LINKS + z) 0) (omega arith)
      ∙ ap₂ {C = List ℕ} (λ l y. set l (1024 + n) y) old_links (sym (part_at LINKS 3328 v z 0 (omega (arith, small))) ∙ ap (λ (l : List ℕ). get_or l z 0) old_links))
    where
      place : LINKS + 1024 + n ≡ LINKS + (1024 + n)
      place = omega arith

  table_part : part TABLE 4608 u ≡ part TABLE 4608 v
  table_part = linked_table 0 4608

  dict : Dict (part TABLE 4608 u) (part LINKS 3328 u) (length (K ++ (x ∷ [])))
  dict =
      subst (Dict (part TABLE 4608 u) (part LINKS 3328 u)) (sym more)
      (subst (λ (l : List ℕ). Dict (part TABLE 4608 u) l (suc n)) (sym new_links)
      (dict_more (part TABLE 4608 w) (part TABLE 4608 u) (part LINKS 3328 w) n a b r.dict
      (omega (arith, part_length LINKS 3328 w (omega (arith, r.long))))
      (λ k l. word_at k l ∙ old_word k l)
      (word_at_new (2 * n) (omega arith) ∙ first_word_lem)
      (word_at_new (2 * n + 1) (omega arith) ∙ ap (λ (k : ℕ). get_or v k 0) (omega arith) ∙ second_word_lem)))
    where
      more : length (K ++ (x ∷ [])) ≡ suc n
      more = omega (arith, length-append K (x ∷ []))

      word_at_new : (k : ℕ) → k < 4608 → get_or (part TABLE 4608 u) k 0 ≡ get_or v (TABLE + k) 0
      word_at_new k l = ap (λ (t : List ℕ). get_or t k 0) table_part ∙ part_at TABLE 4608 v k 0 l

      word_at : (k : ℕ) → k < 2 * n → get_or (part TABLE 4608 u) k 0 ≡ get_or v (TABLE + k) 0
      word_at k l = word_at_new k (omega arith)

      old_word : (k : ℕ) → k < 2 * n → get_or v (TABLE + k) 0 ≡ get_or (part TABLE 4608 w) k 0
      old_word k l =
          get_or-set_other (set w (TABLE + 2 * n) a) (TABLE + 2 * n + 1) (TABLE + k) b 0 (λ q. omega arith)
          ∙ get_or-set_other w (TABLE + 2 * n) (TABLE + k) a 0 (λ q. omega arith)
          ∙ sym (part_at TABLE 4608 w k 0 (omega arith))

  pub rules_added : Rules o (K ++ (x ∷ [])) (added w n a b)
  unfolding added
  rules_added =
      record {
        long = simp length-set r.long;
        table = table;
        dict = dict;
        encodes = encode_append K x r.encodes e;
      }

-- ---- stores that the rules do not see

-- a store before the links
pub rules_put : (o : Order) (K : List Rule) (w : List ℕ) (i y : ℕ) → i < LINKS → Rules o K w → Rules o K (set w i y)
rules_put o K w i y h r =
    record {
      long = simp length-set r.long;
      table = part_set_before TABLE (2 * length K) w i y (omega arith) ∙ r.table;
      dict = rw (part_set_before TABLE 4608 w i y (omega arith), part_set_before LINKS 3328 w i y (omega arith)) r.dict;
      encodes = r.encodes;
    }

-- an added rule lies behind the stack
pub added_below : (w : List ℕ) (n x y m : ℕ) → m ≤ LINKS → take m (added w n x y) ≡ take m w
unfolding added
added_below w n x y m h =
    let v = set (set w (TABLE + 2 * n) x) (TABLE + 2 * n + 1) y in
    take-set-le m (set v (LINKS + 1024 + n) (get_or v (LINKS + bucket_of x y) 0)) (LINKS + bucket_of x y) (n + 1) (omega arith)
    ∙ take-set-le m v (LINKS + 1024 + n) (get_or v (LINKS + bucket_of x y) 0) (omega arith)
    ∙ take-set-le m (set w (TABLE + 2 * n) x) (TABLE + 2 * n + 1) y (omega arith)
    ∙ take-set-le m w (TABLE + 2 * n) x (omega arith)
