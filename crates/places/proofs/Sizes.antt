-- The first pass, rule by rule: the length of a rule's string from those of its halves (`pair_length`), and the store of it
-- (`size_more`). A store behind the lengths changes none of them (`sizing_set`).
use mathlib.Core.Path.{◌≡◌, sym, ◌∙◌, ap, ap₂}
use mathlib.Core.List.{List}
use Prim.Native.Nat.{ℕ, ◌+◌, ◌≤◌, ◌<◌}
use native.Mathlib.Omega.{arith}
use lib.ListN.{length, set, length-append}
use lib.Seq.{get_or-set_same, get_or-set_other}
use Rattle.definitions.specs.Table.{rule_string}
use Rattle.lists.specs.Numbers.{split_lt}
use Rattle.lyndon.specs.Ranks.{marked_length}
use Rattle.lyndon.specs.Stored.{rule_range}
use Rattle.layout.specs.Layout.{TABLE, LENGTHS, PLACES, length_in}
use Rattle.places.specs.Passes.{Contents, table_in, rules_in, Made, Sizing}
use Rattle.places.proofs.Strings.{string_short}
use Rattle.lyndon.specs.Ruled.{PairOf}
use Rattle.places.proofs.Rules.{kept_set}

-- no length is known yet
pub size_start : (g : Contents) (w : List ℕ) → Made g w → Sizing g 0 w
size_start g w m = record {
  most = (rule_range g.order g.text g.chair m.stored).1;
  kept = record { long = m.built.long; stored = m.stored; ranks = m.built.ranks; table = m.built.table };
  sizes = λ r l. absurd (omega arith);
}

module _ (g : Contents) (w : List ℕ) (r : ℕ) (s : Sizing g r w) (h : r < rules_in g) where
  -- a pair is as long as its halves together, and no longer than the marked text
  pub pair_length : (u v : ℕ) → PairOf (table_in g) r u v
      → (length_in w u + length_in w v ≡ length (rule_string g.order (table_in g) r)) × (length (rule_string g.order (table_in g) r) ≤ 2048)
  pair_length u v p = (
    ap₂ {C = ℕ} (λ a b. a + b) (s.sizes u p.left) (s.sizes v p.right)
        ∙ sym (ap length (p.string g.order) ∙ length-append (rule_string g.order (table_in g) u) (rule_string g.order (table_in g) v)),
    omega (arith, string_short g.order g.text g.chair s.kept.stored r h, marked_length g.order g.text, s.kept.stored.short),
  )

  pub size_more : (v : List ℕ) (n : ℕ) → n ≡ length (rule_string g.order (table_in g) r) → v ≡ set w (LENGTHS + r) n → Sizing g (r + 1) v
  size_more v n e f =
      let most = s.most in
      rw f record {
        most = most;
        kept = kept_set g w s.kept (LENGTHS + r) n (omega arith) (omega arith);
        sizes = λ q l. split_lt q r
            (λ m. get_or-set_other w (LENGTHS + r) (LENGTHS + q) n 0 (λ z. omega arith) ∙ s.sizes q m)
            (λ m. rw m (get_or-set_same w (LENGTHS + r) n 0 (omega (arith, s.kept.long)) ∙ e))
            (λ m. absurd (omega arith));
      }

-- a store behind the lengths
pub sizing_set : (g : Contents) (w : List ℕ) (j x : ℕ) → Sizing g (rules_in g) w → PLACES ≤ j → j < TABLE → Sizing g (rules_in g) (set w j x)
sizing_set g w j x s a b =
    let most = s.most in
    record {
      most = most;
      kept = kept_set g w s.kept j x (omega arith) b;
      sizes = λ q l. get_or-set_other w j (LENGTHS + q) x 0 (λ z. omega arith) ∙ s.sizes q l;
    }
