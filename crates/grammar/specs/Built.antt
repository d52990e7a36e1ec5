-- What the work slice holds of a text once its table is made: ranks, lengths of the longest Lyndon words, and the table, each as a
-- function of the text.
use Rattle.std.specs.Prelude.{◌≡◌, List, ℕ, suc, ◌*◌, ◌≤◌, length}
use Rattle.std.proofs.Common.{◌∙◌, ap, arith}
use Rattle.definitions.specs.declared.Order.{Order}
use Rattle.definitions.specs.Grammar.{order as order_of}
use Rattle.definitions.specs.Table.{marked, table_of}
use Rattle.lists.specs.Parts.{part}
use Rattle.lyndon.specs.Forest.{longests}
use Rattle.lyndon.specs.Stored.{Stored, order_most, table_length_lem}
use Rattle.layout.specs.Layout.{LONGEST, TABLE, WORK}

-- the n ranks at the front are those of a marked text
pub record Marked (o : Order) (n chair : ℕ) (w : List ℕ) : Type 0 where
  pub text : List ℕ
  pub stored : Stored text chair
  pub size : n ≡ suc (length text)
  pub front : part 0 n w ≡ marked o text
  pub long : WORK ≤ length w

-- ranks, lengths of the longest Lyndon words and table of a text and a chair number
pub record Built (o : Order) (text : List ℕ) (chair : ℕ) (w : List ℕ) : Type 0 where
  pub long : WORK ≤ length w
  pub ranks : part 0 (suc (length text)) w ≡ marked o text
  pub first : part LONGEST (suc (length text)) w ≡ longests (marked o text)
  pub table : part TABLE (length (table_of o text chair)) w ≡ table_of o text chair

-- the words of the table that is made
pub built_words : (o : Order) (text w : List ℕ) (chair r : ℕ) → Stored text chair → Built o text chair w → r ≡ length (order_of (marked o text))
    → part TABLE (2 * r) w ≡ table_of o text chair
built_words o text w chair r k l e =
    let size : 2 * r ≡ length (table_of o text chair) = omega (arith, table_length_lem o text chair k) in
    ap (λ (n : ℕ). part TABLE n w) size ∙ l.table

pub rules_most : (o : Order) (text : List ℕ) (chair r : ℕ) → Stored text chair → r ≡ length (order_of (marked o text)) → r ≤ 2304
rules_most o text chair r k e = omega (arith, order_most o text chair k)
