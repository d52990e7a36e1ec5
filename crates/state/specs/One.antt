-- The words of a work slice, the number of rules and the order determine the text and the chair number that are loaded, for they determine the table: `held_one`.
use Rattle.std.specs.Prelude.{◌≡◌, List, ℕ, ◌*◌, length}
use Rattle.std.proofs.Common.{sym, ◌∙◌, ap, arith}
use Rattle.std.proofs.Props.{props}
use mathlib.Core.HLevel.{is_prop→PathP}
use Rattle.definitions.specs.declared.Order.{Order}
use Rattle.definitions.specs.Table.{table_of, text_of, chair_of, rule_count}
use Rattle.lists.specs.Parts.{part}
use Rattle.lyndon.specs.Stored.{table_length_lem, table_text, table_chair}
use Rattle.layout.specs.Layout.{TABLE}
use Rattle.state.specs.State.{Loaded, Held}

loaded_one : (o : Order) (text : List ℕ) (chair : ℕ) (w : List ℕ) → IsProp (Loaded o text chair w)
loaded_one o text chair w = hlevel props

size_one : (rules n : ℕ) → IsProp (rules ≡ n)
size_one rules n = hlevel props

module _ {o : Order} {rules : ℕ} {w : List ℕ} where
  -- the rules in the table area are the table
  pub held_table : (h : Held o rules w) → part TABLE (2 * rules) w ≡ table_of o h.text h.chair
  held_table h =
      let size : 2 * rules ≡ length (table_of o h.text h.chair) = omega (arith, h.size, table_length_lem o h.text h.chair h.loaded.kept.stored) in
      ap (λ (n : ℕ). part TABLE n w) size ∙ h.loaded.kept.table

  module _ (x y : Held o rules w) where
    same_table : table_of o x.text x.chair ≡ table_of o y.text y.chair
    same_table = sym (held_table x) ∙ held_table y

    pub same_text : x.text ≡ y.text
    same_text = sym (table_text o x.text x.chair x.loaded.kept.stored) ∙ ap (text_of o) same_table ∙ table_text o y.text y.chair y.loaded.kept.stored

    pub same_chair : x.chair ≡ y.chair
    same_chair = sym (table_chair o x.text x.chair x.loaded.kept.stored) ∙ ap chair_of same_table ∙ table_chair o y.text y.chair y.loaded.kept.stored

  pub held_one : IsProp (Held o rules w)
  held_one x y i =
      record {
        text = same_text x y i;
        chair = same_chair x y i;
        loaded = is_prop→PathP (λ j. Loaded o (same_text x y j) (same_chair x y j) w) (λ j. loaded_one o (same_text x y j) (same_chair x y j) w) x.loaded y.loaded i;
        size = is_prop→PathP (λ j. rules ≡ rule_count (table_of o (same_text x y j) (same_chair x y j))) (λ j. size_one rules (rule_count (table_of o (same_text x y j) (same_chair x y j)))) x.size y.size i;
      }
