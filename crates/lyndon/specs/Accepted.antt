-- The rules of an accepted table: their strings are those of a marked drive's grammar. So no two are alike (`accepted_once`), each is a Lyndon word (`accepted_lyndon`)
-- of at most 2,048 symbols (`accepted_short`), all of them the marked drive's (`accepted_symbols`), and rule 0 is the mark and no other rule is (`accepted_mark`, `accepted_samples`):
-- what a pass over them may refuse by.
use Rattle.std.specs.Prelude.{◌≡◌, true, ℕ, ◌*◌, ◌≤◌, ◌<◌, length}
use Rattle.std.proofs.Math.Path.{sym, ap}
use Rattle.std.proofs.Common.{◌∙◌, subst, arith, length-append}
use mathlib.Core.List.Memᴰ.{append_left as in_left}
use mathlib.Core.List.Memᴰ.{append_right as in_right}
use mathlib.Core.List.{List, [], ◌∷◌, head-eq_of_cons-eq, Memᴰ as In}
use Rattle.std.proofs.Math.ListN.{get_or}
use Rattle.definitions.specs.declared.Order.{Order}
use Rattle.definitions.specs.Grammar.{index_of, order}
use Rattle.definitions.specs.Table.{number_of_rank, rank_of_number, word_of, kind_of, number_of, marked, is_table, rule_string, text_of, chair_of, rule_count}
use Rattle.lyndon.specs.Words.{Lyndon}
use Rattle.lyndon.specs.Numbering.{Has, order_numbered}
use Rattle.lyndon.specs.Sequence.{order_all, order_lyndon, order_first}
use Rattle.lyndon.specs.Ranks.{number_of_rank_lem, marked_lyndon, marked_length}
use Rattle.lyndon.specs.Stored.{accepted_stored, accepted_table, accepted_strings}
use Rattle.lyndon.specs.Shapes.{Shaped, strings_length, stored_shaped}
use Rattle.lyndon.specs.Ruled.{Ruled, symbol, pair, ruled}

module _ (o : Order) (t : List ℕ) (a : is_table o t ≡ true) where
  pub accepted_shaped : Shaped t
  accepted_shaped = subst Shaped (accepted_table o t a) (stored_shaped o (text_of o t) (chair_of t) (accepted_stored o t a))

  -- rule r has string r
  accepted_string : (r : ℕ) → rule_string o t r ≡ get_or (order (marked o (text_of o t))) r []
  unfolding rule_string
  accepted_string r = ap (λ (x : List (List ℕ)). get_or x r []) (accepted_strings o t a)

  accepted_rules : length (order (marked o (text_of o t))) ≡ rule_count t
  accepted_rules = ap length (sym (accepted_strings o t a)) ∙ strings_length o t (rule_count t)

  drive_lyndon : Lyndon (marked o (text_of o t))
  drive_lyndon = marked_lyndon o (text_of o t) (accepted_stored o t a).bytes

  string_index : (r : ℕ) → r < rule_count t → index_of (rule_string o t r) (order (marked o (text_of o t))) ≡ r
  string_index r h =
      ap (λ (x : List ℕ). index_of x (order (marked o (text_of o t)))) (accepted_string r)
      ∙ (order_numbered (marked o (text_of o t)) drive_lyndon).once r (omega (arith, accepted_rules))

  string_has : (r : ℕ) → r < rule_count t → Has (order (marked o (text_of o t))) (rule_string o t r)
  string_has r h = omega (arith, string_index r h, accepted_rules)

  pub accepted_once : (i j : ℕ) → i < rule_count t → j < rule_count t → rule_string o t i ≡ rule_string o t j → i ≡ j
  accepted_once i j h k e = sym (string_index i h) ∙ ap (λ (x : List ℕ). index_of x (order (marked o (text_of o t)))) e ∙ string_index j k

  pub accepted_lyndon : (r : ℕ) → r < rule_count t → Lyndon (rule_string o t r)
  accepted_lyndon r h = order_lyndon (marked o (text_of o t)) drive_lyndon (rule_string o t r) (string_has r h)

  pub accepted_short : (r : ℕ) → r < rule_count t → length (rule_string o t r) ≤ 2048
  accepted_short r h =
      order_all (λ x. length x ≤ 2048) (λ u v k. let sum = length-append u v in (omega arith, omega arith)) (marked o (text_of o t)) drive_lyndon
      (omega (arith, marked_length o (text_of o t), (accepted_stored o t a).short)) (rule_string o t r) (string_has r h)

  -- its symbols are those of the marked drive
  pub accepted_symbols : (r : ℕ) → r < rule_count t → (b : ℕ) → In b (rule_string o t r) → In b (marked o (text_of o t))
  accepted_symbols r h =
      order_all (λ x. (b : ℕ) → In b x → In b (marked o (text_of o t))) (λ u v k. (λ b m. k b (in_left v m), λ b m. k b (in_right u m))) (marked o (text_of o t)) drive_lyndon
      (λ b m. m) (rule_string o t r) (string_has r h)

  -- ---- the mark

  first_string : rule_string o t 0 ≡ 0 ∷ []
  unfolding marked
  first_string = accepted_string 0 ∙ order_first (marked o (text_of o t)) drive_lyndon

  pub accepted_mark : get_or t 0 0 ≡ 0
  unfolding number_of_rank word_of
  accepted_mark = go (ruled t accepted_shaped 0 (omega (arith, accepted_shaped.even, accepted_shaped.filled)))
    where
      go : Ruled t 0 → get_or t 0 0 ≡ 0
      go (symbol n _ k) =
          let zero_number : n ≡ 0 = sym (number_of_rank_lem o n k.number) ∙ ap (number_of_rank o) (head-eq_of_cons-eq (sym (k.string o) ∙ first_string)) in
          omega (arith, k.first)
      go (pair u v k) = absurd (omega (arith, k.left))

  pub accepted_samples : (r : ℕ) → 0 < r → r < rule_count t → get_or t (2 * r) 0 ≡ 0 → ⊥
  unfolding rank_of_number kind_of number_of
  accepted_samples r l h e = go (ruled t accepted_shaped r h)
    where
      go : Ruled t r → ⊥
      go (symbol n _ k) =
          let zero_number : n ≡ 0 = sym k.first_number ∙ ap number_of e in
          omega (arith, accepted_once r 0 h (omega arith) (k.string o ∙ ap {B = List ℕ} (λ c. rank_of_number o c ∷ []) zero_number ∙ sym first_string))
      go (pair u v k) = omega (arith, sym k.kind ∙ ap kind_of e)
