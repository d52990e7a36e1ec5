-- What `Loaded` says of a rule: what it is read as (`placed_symbol`), where it and its halves stand (`rule_stands`, `pair_stands`), and
-- that stores between FOUND and TABLE change none of it (`placed_outside`, `lent_outside`, `outside_set`).
use mathlib.Core.Path.{◌≡◌, sym, ◌∙◌, ap, ap₂, subst}
use mathlib.Core.List.{List, ◌++◌}
use Prim.Native.Nat.{ℕ, suc, ◌+◌, ◌≤◌, ◌<◌}
use native.Mathlib.Omega.{arith}
use native.Mathlib.Nat.{zero-add}
use lib.ListN.{length, take, drop, get_or, set, length-set}
use lib.Seq.{get_or-take, take-set-le, drop-set-lt}
use Rattle.definitions.specs.declared.Order.{Order}
use Rattle.definitions.specs.Table.{marked, table_of, rule_string, left_half, right_half, rule_count}
use Rattle.lists.specs.Parts.{part, part_part, part_agree, lent_length, lent_before, lent_behind}
use Rattle.lyndon.specs.Factorization.{Std}
use Rattle.lyndon.specs.Ranks.{marked_length}
use Rattle.lyndon.specs.Stored.{rule_range, table_accepted}
use Rattle.lyndon.specs.Pairs.{pair_halves}
use Rattle.layout.specs.Layout.{TABLE, LENGTHS, PLACES, FOUND, length_in, place_in}
use Rattle.state.specs.State.{Loaded}
use Rattle.decoding.specs.declared.Rule.TheVariants.{Symbol, Pair}
use Rattle.decoding.specs.Decoding.{rule_in}
use Rattle.lyndon.specs.Ruled.{SymbolOf, PairOf}
use Rattle.lyndon.specs.Filling.{Stands, half_places}
use Rattle.state.proofs.Rules.{kept_symbol, kept_pair}

-- what a rule that is a pair says: its halves are earlier rules, and stand one behind the other
pub record PlacedHalves (o : Order) (t : List ℕ) (r u v : ℕ) (w : List ℕ) : Type 0 where
  pub pair : PairOf t r u v
  pub inside : place_in w r + length_in w u + length_in w v ≤ 2048
  pub left_size : length_in w u ≡ length (rule_string o t u)
  pub right_size : length_in w v ≡ length (rule_string o t v)
  pub left_part : part (place_in w r) (length_in w u) w ≡ left_half o t r
  pub right_part : part (place_in w r + length_in w u) (length_in w v) w ≡ right_half o t r
  pub std : Std (left_half o t r) (right_half o t r)

module _ (o : Order) (text : List ℕ) (chair : ℕ) (w : List ℕ) (h : Loaded o text chair w) (r : ℕ) (low : r < rule_count (table_of o text chair)) where
  pub placed_symbol : (a b : ℕ) → rule_in w r ≡ Symbol a b → SymbolOf (table_of o text chair) r a b
  placed_symbol = kept_symbol h.kept r low

  -- a string that stands in the marked text stands in the work slice
  stands_here : (q x : ℕ) → Stands (marked o text) (rule_string o (table_of o text chair) q) x
      → (x + length (rule_string o (table_of o text chair) q) ≤ 2048) × (part x (length (rule_string o (table_of o text chair) q)) w ≡ rule_string o (table_of o text chair) q)
  stands_here q x s =
      let n = length (rule_string o (table_of o text chair) q) in (
        omega (arith, s.inside, marked_length o text, h.kept.stored.short),
        ap (λ (i : ℕ). part i n w) (sym (zero-add x))
            ∙ sym (part_part 0 (suc (length text)) x n w (omega (arith, s.inside, marked_length o text)))
            ∙ ap (part x n) h.kept.ranks
            ∙ s.same,
      )

  pub rule_stands : (place_in w r + length (rule_string o (table_of o text chair) r) ≤ 2048)
      × (part (place_in w r) (length (rule_string o (table_of o text chair) r)) w ≡ rule_string o (table_of o text chair) r)
  rule_stands = stands_here r (place_in w r) (h.places r low)

  pub pair_stands : (u v : ℕ) → rule_in w r ≡ Pair u v → PlacedHalves o (table_of o text chair) r u v w
  pair_stands u v e =
      let t = table_of o text chair in
      let p = kept_pair h.kept r low u v e in
      let x = place_in w r in
      let (a, b) = half_places o (marked o text) x (h.places r low) p in
      let la = h.sizes u (omega (arith, p.left)) in
      let lb = h.sizes v (omega (arith, p.right)) in
      record {
        pair = p;
        inside = omega (arith, (stands_here v (x + length (rule_string o t u)) b).0);
        left_size = la;
        right_size = lb;
        left_part = ap (λ (n : ℕ). part x n w) la ∙ (stands_here u x a).1 ∙ sym (p.left_half_lem o);
        right_part = ap₂ {C = List ℕ} (λ n m. part (x + n) m w) la lb ∙ (stands_here v (x + length (rule_string o t u)) b).1 ∙ sym (p.right_half_lem o);
        std = (pair_halves o t (table_accepted o text chair h.kept.stored) r p.is_pair_lem).1;
      }

-- ---- other areas

-- v is w but for the areas from FOUND to TABLE
pub record Outside (w v : List ℕ) : Type 0 where
  pub size : length v ≡ length w
  pub before : take FOUND v ≡ take FOUND w
  pub behind : drop TABLE v ≡ drop TABLE w

-- so where n words from o on are lent, between the two
pub lent_outside : (w z : List ℕ) (o n : ℕ) → FOUND ≤ o → o + n ≤ TABLE → TABLE ≤ length w → length z ≡ n → Outside w (take o w ++ (z ++ drop n (drop o w)))
lent_outside w z o n low high long e =
    record {
      size = lent_length w z o n (omega arith) e;
      before = lent_before w z o n (omega arith) e FOUND low;
      behind = lent_behind w z o n (omega arith) e TABLE high;
    }

-- or one word is stored
pub outside_set : (w : List ℕ) (j x : ℕ) → FOUND ≤ j → j < TABLE → Outside w (set w j x)
outside_set w j x h k =
    record {
      size = length-set w j x;
      before = take-set-le FOUND w j x h;
      behind = drop-set-lt TABLE w j x k;
    }

outside_at : (w v : List ℕ) → Outside w v → (i : ℕ) → i < FOUND → get_or v i 0 ≡ get_or w i 0
outside_at w v e i l = sym (get_or-take FOUND v i 0 l) ∙ ap (λ (x : List ℕ). get_or x i 0) e.before ∙ get_or-take FOUND w i 0 l

pub placed_outside : (o : Order) (text : List ℕ) (chair : ℕ) (w v : List ℕ) → Outside w v → Loaded o text chair w → Loaded o text chair v
unfolding part
placed_outside o text chair w v e h =
    let most = rule_range o text chair h.kept.stored in
    record {
      kept =
          record {
            long = omega (arith, e.size, h.kept.long);
            stored = h.kept.stored;
            ranks = part_agree FOUND 0 (suc (length text)) w v e.before (omega (arith, h.kept.stored.short)) ∙ h.kept.ranks;
            table = ap (take (length (table_of o text chair))) e.behind ∙ h.kept.table;
          };
      sizes = λ r l. outside_at w v e (LENGTHS + r) (omega arith) ∙ h.sizes r l;
      places = λ r l. subst (λ (x : ℕ). Stands (marked o text) (rule_string o (table_of o text chair) r) x) (sym (outside_at w v e (PLACES + r) (omega arith))) (h.places r l);
    }
