-- The pass over the lengths, rule by rule: a rule's length from those of its halves (`pair_length`), the store of it (`size_more`), and a string that is
-- longer than any of a drive (`too_long`).
use mathlib.Core.Path.{◌≡◌, sym, ◌∙◌, ap, ap₂}
use mathlib.Core.Bool.{false}
use mathlib.Core.List.{List}
use Prim.Native.Nat.{ℕ, ◌+◌, ◌≤◌, ◌<◌}
use native.Mathlib.Omega.{arith}
use lib.ListN.{length, set, length-set, length-append}
use lib.Seq.{get_or-set_same, get_or-set_other}
use Rattle.definitions.specs.declared.Order.{Order}
use Rattle.definitions.specs.Table.{rule_string, rule_count, is_table}
use Rattle.lists.specs.Bools.{not_so}
use Rattle.lists.specs.Numbers.{split_lt}
use Rattle.lyndon.specs.Ruled.{SymbolOf, PairOf}
use Rattle.lyndon.specs.Accepted.{accepted_short}
use Rattle.layout.specs.Layout.{LENGTHS, length_in}
use Rattle.lengths.specs.Lengths.{InShape, Sized}

-- no length is known yet
pub size_start : (t w : List ℕ) → InShape t w → Sized t 0 w
size_start t w l = record { lent = l; short = λ r h. absurd (omega arith); sizes = λ o r h. absurd (omega arith) }

-- rules are few enough for the areas
pub rules_few : {t w : List ℕ} → InShape t w → rule_count t ≤ 2304
rules_few l = omega (arith, l.few, l.shaped.even)

module _ {t w : List ℕ} {r : ℕ} (s : Sized t r w) where
  pub symbol_length : (a b : ℕ) → SymbolOf t r a b → (o : Order) → 1 ≡ length (rule_string o t r)
  symbol_length a b p o = sym (ap length (p.string o))

  -- a pair is as long as its halves together
  pub pair_length : (u v : ℕ) → PairOf t r u v → (o : Order) → length_in w u + length_in w v ≡ length (rule_string o t r)
  pair_length u v p o =
      ap₂ {C = ℕ} (λ a b. a + b) (s.sizes o u p.left) (s.sizes o v p.right)
      ∙ sym (ap length (p.string o) ∙ length-append (rule_string o t u) (rule_string o t v))

  pub pair_fits : (u v : ℕ) → PairOf t r u v → (u < r) × (v < r) × (length_in w u + length_in w v ≤ 4096)
  pair_fits u v p = (p.left, p.right, omega (arith, s.short u p.left, s.short v p.right))

  pub size_more : r < rule_count t → (x : List ℕ) (n : ℕ) → ((o : Order) → n ≡ length (rule_string o t r)) → n ≤ 2048 → x ≡ set w (LENGTHS + r) n → Sized t (r + 1) x
  size_more h x n e m f =
      let few = rules_few s.lent in
      let same : length_in (set w (LENGTHS + r) n) r ≡ n = get_or-set_same w (LENGTHS + r) n 0 (omega (arith, s.lent.long)) in
      rw f record {
        lent = record { shaped = s.lent.shaped; few = s.lent.few; long = simp length-set s.lent.long };
        short = λ q l. split_lt q r
            (λ k. omega (arith, get_or-set_other w (LENGTHS + r) (LENGTHS + q) n 0 (λ z. omega arith), s.short q k))
            (λ k. rw (k, same) m)
            (λ k. absurd (omega arith));
        sizes = λ o q l. split_lt q r
            (λ k. get_or-set_other w (LENGTHS + r) (LENGTHS + q) n 0 (λ z. omega arith) ∙ s.sizes o q k)
            (λ k. rw k (same ∙ e o))
            (λ k. absurd (omega arith));
      }

-- a string of more than 2,048 symbols
pub too_long : (t : List ℕ) (r n : ℕ) → r < rule_count t → ((o : Order) → n ≡ length (rule_string o t r)) → 2048 < n → (o : Order) → is_table o t ≡ false
too_long t r n h e m o = not_so (is_table o t) (λ a. omega (arith, accepted_short o t a r h, e o))
