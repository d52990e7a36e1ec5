-- Demand 3 on pair rules: in every accepted table the two halves of a pair rule are its string's standard factorization
-- (`pair_halves`), the occurrences that straddle its join are exactly those cut there at a listed cut (`pair_straddling`), and its
-- occurrences are those in the left half, those, and those in the right half moved on (`pair_occurrences`); so with the live cuts
-- (`pair_straddling_live`, `pair_occurrences_live`).
use Rattle.std.specs.Prelude.{◌≡◌, true, List, [], ◌++◌, map, ℕ, ◌+◌, ◌*◌, ◌<◌, length, get_or, ltb, eqb}
use Rattle.std.proofs.Common.{sym, ◌∙◌, ap, ap₂, subst, arith, ltb-true, eqb-true}
use Rattle.std.proofs.Math.ListN.{length-map}
use Rattle.definitions.specs.declared.Order.{Order}
use Rattle.definitions.specs.declared.Content.{Content}
use Rattle.definitions.specs.Grammar.{left_of, right_of, order}
use Rattle.definitions.specs.Table.{rank_of, number_of_rank, marked, words, kind_of, number_of, table_of, is_table, text_of, chair_of, is_pair, left_half, right_half, rule_string, rule_count}
use Rattle.definitions.specs.Occurrences.{occurrences, live_cuts, listed_cuts, pattern_cuts, straddling, cut_at}
use Rattle.definitions.specs.Steps.{searched}
use Rattle.lists.specs.Bools.{and_left, and_right}
use Rattle.lyndon.specs.Factorization.{Std, std_parts}
use Rattle.lyndon.specs.Rules.{rules_for}
use Rattle.lyndon.specs.Ranks.{number_range}
use Rattle.lyndon.specs.Encoding.{word_kind, word_number}
use Rattle.lyndon.specs.Tables.{Entry, one, two, entry}
use Rattle.lyndon.specs.Stored.{Stored, storable, order_most, table_words, table_rules, table_strings, accepted_stored, accepted_table}
use Rattle.lyndon.specs.Joins.{Suffices, straddling_cut, live_suffice, listed_suffice, occurrences_join}

-- the string of rule r is its halves' strings, and these are its standard factorization
abbrev pub StandardHalves : Order → List ℕ → ℕ → Type 0
StandardHalves o t r = (rule_string o t r ≡ left_half o t r ++ right_half o t r) × Std (left_half o t r) (right_half o t r)

stored_halves : (o : Order) (text : List ℕ) (chair : ℕ) → Stored text chair → (r : ℕ) → is_pair (table_of o text chair) r ≡ true
    → StandardHalves o (table_of o text chair) r
unfolding is_pair left_half right_half rule_string
stored_halves o text chair ok r e = go (entry o S chair r (storable o text chair ok) small)
  where
    S : List (List ℕ)
    S = order (marked o text)

    t : List ℕ
    t = table_of o text chair

    small : r < length S
    small = omega (arith, table_rules o text chair ok, ltb-true r (rule_count t) (and_left (ltb r (rule_count t)) (eqb (kind_of (get_or t (2 * r) 0)) 1) e))

    is_pair_lem : kind_of (get_or (words o chair (rules_for S)) (2 * r) 0) ≡ 1
    is_pair_lem =
        ap (λ (x : List ℕ). kind_of (get_or x (2 * r) 0)) (sym (table_words o text chair ok))
        ∙ eqb-true (kind_of (get_or t (2 * r) 0)) 1 (and_right (ltb r (rule_count t)) (eqb (kind_of (get_or t (2 * r) 0)) 1) e)

    -- rule i has string i
    string : (i : ℕ) → rule_string o t i ≡ get_or S i []
    string i = ap (λ (x : List (List ℕ)). get_or x i []) (table_strings o text chair ok)

    go : Entry o S chair r → StandardHalves o t r
    go (one a l x f s) =
        absurd (omega (arith, number_range o a l, sym (word_kind 0 (number_of_rank o a) (omega (arith, number_range o a l))) ∙ ap kind_of (sym f) ∙ is_pair_lem))
    go (two i j p q k x y f s) =
        let size = order_most o text chair ok in
        let left : left_half o t r ≡ left_of (get_or S r []) = ap (λ (w : List ℕ). rule_string o t (number_of (get_or w (2 * r) 0))) (table_words o text chair ok) ∙ ap (λ (n : ℕ). rule_string o t (number_of n)) f ∙ ap (rule_string o t) (word_number 1 i (omega (arith, small))) ∙ string i ∙ x in
        let right : right_half o t r ≡ right_of (get_or S r []) = ap (λ (w : List ℕ). rule_string o t (number_of (get_or w (2 * r + 1) 0))) (table_words o text chair ok) ∙ ap (λ (n : ℕ). rule_string o t (number_of n)) s ∙ ap (rule_string o t) (word_number 2 j (omega (arith, small))) ∙ string j ∙ y in
        let (e₁, d) = std_parts (get_or S r []) k in
        (string r ∙ e₁ ∙ sym (ap₂ {C = List ℕ} (λ u v. u ++ v) left right), rw (left, right) d)

pub pair_halves : (o : Order) (t : List ℕ) → is_table o t ≡ true → (r : ℕ) → is_pair t r ≡ true → StandardHalves o t r
pair_halves o t a r e =
    subst (λ (x : List ℕ). StandardHalves o x r) (accepted_table o t a)
    (stored_halves o (text_of o t) (chair_of t) (accepted_stored o t a) r (rw (accepted_table o t a) e))

-- at cuts that suffice, such as the live cuts and the listed cuts of p
module _ (o : Order) (t : List ℕ) (accepted : is_table o t ≡ true) (r : ℕ) (pair : is_pair t r ≡ true) (p cuts : List ℕ) (ok : Suffices p cuts) where
  straddling_at : straddling p (left_half o t r) (right_half o t r) ≡ cut_at p cuts (left_half o t r) (right_half o t r)
  straddling_at = straddling_cut p cuts (left_half o t r) (right_half o t r) ok (pair_halves o t accepted r pair).1

  occurrences_at : 0 < length p
      → occurrences p (rule_string o t r)
      ≡ occurrences p (left_half o t r)
      ++ (cut_at p cuts (left_half o t r) (right_half o t r) ++ map (λ (k : ℕ). length (left_half o t r) + k) (occurrences p (right_half o t r)))
  occurrences_at h =
      ap (occurrences p) (pair_halves o t accepted r pair).0
      ∙ occurrences_join p (left_half o t r) (right_half o t r) h
      ∙ ap (λ (x : List ℕ). occurrences p (left_half o t r) ++ (x ++ map (λ (k : ℕ). length (left_half o t r) + k) (occurrences p (right_half o t r)))) straddling_at

-- trying listed cuts alone loses no occurrence
pub pair_straddling : (o : Order) (t : List ℕ) → is_table o t ≡ true → (r : ℕ) → is_pair t r ≡ true → (p : List ℕ)
    → straddling p (left_half o t r) (right_half o t r) ≡ cut_at p (listed_cuts p) (left_half o t r) (right_half o t r)
pair_straddling o t a r e p = straddling_at o t a r e p (listed_cuts p) (listed_suffice p)

pub pair_occurrences : (o : Order) (t : List ℕ) → is_table o t ≡ true → (r : ℕ) → is_pair t r ≡ true → (p : List ℕ) → 0 < length p
    → occurrences p (rule_string o t r)
    ≡ occurrences p (left_half o t r)
    ++ (cut_at p (listed_cuts p) (left_half o t r) (right_half o t r) ++ map (λ (k : ℕ). length (left_half o t r) + k) (occurrences p (right_half o t r)))
pair_occurrences o t a r e p h = occurrences_at o t a r e p (listed_cuts p) (listed_suffice p) h

-- nor does trying live cuts alone
pub pair_straddling_live : (o : Order) (t : List ℕ) → is_table o t ≡ true → (r : ℕ) → is_pair t r ≡ true → (p : List ℕ)
    → straddling p (left_half o t r) (right_half o t r) ≡ cut_at p (live_cuts p) (left_half o t r) (right_half o t r)
pair_straddling_live o t a r e p = straddling_at o t a r e p (live_cuts p) (live_suffice p)

pub pair_occurrences_live : (o : Order) (t : List ℕ) → is_table o t ≡ true → (r : ℕ) → is_pair t r ≡ true → (p : List ℕ) → 0 < length p
    → occurrences p (rule_string o t r)
    ≡ occurrences p (left_half o t r)
    ++ (cut_at p (live_cuts p) (left_half o t r) (right_half o t r) ++ map (λ (k : ℕ). length (left_half o t r) + k) (occurrences p (right_half o t r)))
pair_occurrences_live o t a r e p h = occurrences_at o t a r e p (live_cuts p) (live_suffice p) h

-- the same for what is searched for, samples or the steps of a pattern, and its listed cuts
module _ (o : Order) (t : List ℕ) (accepted : is_table o t ≡ true) (r : ℕ) (pair : is_pair t r ≡ true) (c : Content) (p : List ℕ) where
  abbrev q : List ℕ
  q = map (rank_of o) (searched c p)

  pub pattern_straddling : straddling q (left_half o t r) (right_half o t r) ≡ cut_at q (pattern_cuts o (searched c p)) (left_half o t r) (right_half o t r)
  unfolding pattern_cuts
  pattern_straddling = pair_straddling o t accepted r pair q

  pub pattern_occurrences : 0 < length (searched c p)
      → occurrences q (rule_string o t r)
      ≡ occurrences q (left_half o t r)
      ++ (cut_at q (pattern_cuts o (searched c p)) (left_half o t r) (right_half o t r) ++ map (λ (k : ℕ). length (left_half o t r) + k) (occurrences q (right_half o t r)))
  unfolding pattern_cuts
  pattern_occurrences h = pair_occurrences o t accepted r pair q (omega (arith, length-map (searched c p) (rank_of o)))
