-- Rules entered from the root down, rule by rule: the last one gives way to its halves (`symbol_judged`, `pair_judged`), from the root (`root_start`) until
-- none is left (`all_placed`); where a test fails the table is no drive's.
use mathlib.Core.Path.{◌≡◌, sym, ◌∙◌, ap, subst}
use mathlib.Core.Bool.{true, false}
use mathlib.Core.List.{List}
use Prim.Native.Nat.{ℕ, suc, ◌+◌, ◌-◌, ◌≤◌, ◌<◌}
use native.Mathlib.Omega.{arith}
use native.Mathlib.Numerals.{add-one}
use lib.ListN.{length}
use lib.Dec.{eqb}
use Rattle.definitions.specs.declared.Order.{Order}
use Rattle.definitions.specs.Table.{rule_string, spelled, rule_count, is_table}
use Rattle.definitions.specs.Services.{sample_order}
use Rattle.lists.specs.Bools.{contra, not_so}
use Rattle.lyndon.specs.Meeting.{after, after_most, meets}
use Rattle.lyndon.specs.Ruled.{halves, halves_fall, SymbolOf, PairOf}
use Rattle.lyndon.specs.Entries.{Entering, Opened, none_entered, root_entered, opened, symbol_left, pair_left, closed, failed, all_entered}
use Rattle.lyndon.specs.Filling.{Stands, stands_whole, half_places}
use Rattle.lyndon.specs.Judging.{judged}
use Rattle.layout.specs.Layout.{length_in, entry_in, place_in}
use Rattle.lengths.specs.Lengths.{Sized}
use Rattle.lengths.proofs.Sizes.{rules_few}
use Rattle.entries.specs.Entries.{entered, StandsIn, Entered, Placed, Unmet}
use Rattle.entries.proofs.Stores.{sized_entered, enters}

-- the root does not meet all rules in their order
unmet : {t w : List ℕ} → Sized t (rule_count t) w → meets (halves t) 0 (rule_count t - 1) ≡ false → Unmet t
unmet {t} s f = record { foreign = λ o. not_so (is_table o t) (λ a. contra ((judged o t s.lent.shaped).0 a).met f) }

-- what the root spells is as long as the root's length says
pub spelled_length : {t w : List ℕ} → Sized t (rule_count t) w → (o : Order) → length_in w (rule_count t - 1) ≡ length (spelled o t)
unfolding spelled
spelled_length {t} s o = s.sizes o (rule_count t - 1) (omega (arith, s.lent.shaped.even, s.lent.shaped.filled))

pub spelled_short : {t w : List ℕ} → Sized t (rule_count t) w → (o : Order) → length (spelled o t) ≤ 2048
spelled_short {t} s o = omega (arith, spelled_length s o, s.short (rule_count t - 1) (omega (arith, s.lent.shaped.even, s.lent.shaped.filled)))

-- ---- the root

pub root_start : {t w : List ℕ} → Sized t (rule_count t) w → Entered t (rule_count t) (entered w 0 (rule_count t - 1) 0)
unfolding spelled
root_start {t} {w} s =
    let root = rule_count t - 1 in
    let last : suc root ≡ rule_count t = omega (arith, s.lent.shaped.even, s.lent.shaped.filled) in
    let v = entered w 0 root 0 in
    record {
      sized = sized_entered 0 root 0 s;
      entering = root_entered root last
          (enters s (none_entered (halves t) (rule_count t) (entry_in w) (StandsIn t w)) root 0 (omega arith) (omega arith) (λ o. stands_whole (rule_string o t root)));
    }

-- ---- rule r, once the rules behind it are done

module _ {t w : List ℕ} {r : ℕ} (k : Entered t (r + 1) w) (h : r < rule_count t) where
  top : Opened (halves t) (rule_count t) (entry_in w) (StandsIn t w) r (meets (halves t) 0 (rule_count t - 1))
  top = opened (subst (λ (n : ℕ). Entering (halves t) (rule_count t) (entry_in w) (StandsIn t w) n n (meets (halves t) 0 (rule_count t - 1))) (add-one r) k.entering)

  pub entry_low : entry_in w r ≤ r
  entry_low = top.inside

  pub symbol_judged : (a b : ℕ) → SymbolOf t r a b → (eqb (entry_in w r) r ≡ true → Entered t r w) × (eqb (entry_in w r) r ≡ false → Unmet t)
  symbol_judged a b p =
      let e = symbol_left (halves_fall t k.sized.lent.shaped) top p.no_halves in
      (λ f. record { sized = k.sized; entering = closed top.before e f }, λ f. unmet k.sized (failed top.before e f))

  module _ (u v : ℕ) (p : PairOf t r u v) where
    pub pair_room : (u < r) × (v < r) × (r < 2304) × (place_in w r + length_in w u ≤ 2048)
    pair_room =
        let few = rules_few k.sized.lent in
        let at = (half_places sample_order (spelled sample_order t) (place_in w r) (top.place sample_order) p).0 in
        (p.left, p.right, omega arith, omega (arith, at.inside, p.left, k.sized.sizes sample_order u (omega (arith, p.left)), spelled_short k.sized sample_order))

    pub after_room : (after (entry_in w r) u ≤ r) × (after (after (entry_in w r) u) v ≤ r)
    after_room =
        let a = after_most (entry_in w r) u r entry_low p.left in
        (a, after_most (after (entry_in w r) u) v r a p.right)

    pub pair_judged : (x y : List ℕ) → x ≡ entered w (entry_in w r) u (place_in w r) → y ≡ entered x (after (entry_in w r) u) v (place_in w r + length_in w u)
        → (eqb (after (after (entry_in w r) u) v) r ≡ true → Entered t r y) × (eqb (after (after (entry_in w r) u) v) r ≡ false → Unmet t)
    pair_judged x y e f =
        let e₁ = entry_in w r in
        let w₁ = entered w e₁ u (place_in w r) in
        let s₁ = sized_entered e₁ u (place_in w r) k.sized in
        let k₁ = enters k.sized top.before u (place_in w r) p.left (omega (arith, p.left)) (λ o. (half_places o (spelled o t) (place_in w r) (top.place o) p).0) in
        let place₂ = place_in w r + length_in w u in
        let at₂ : (o : Order) → Stands (spelled o t) (rule_string o t v) place₂ =
        λ o. subst (λ (n : ℕ). Stands (spelled o t) (rule_string o t v) (place_in w r + n)) (sym (k.sized.sizes o u (omega (arith, p.left)))) (half_places o (spelled o t) (place_in w r) (top.place o) p).1 in
        let k₂ = enters s₁ k₁ v place₂ p.right (omega (arith, p.right)) at₂ in
        let left = pair_left (halves_fall t k.sized.lent.shaped) top u v p.both_halves in
        let same : y ≡ entered w₁ (after e₁ u) v place₂ = f ∙ ap (λ (z : List ℕ). entered z (after e₁ u) v place₂) e in
        (λ q. rw same (record { sized = sized_entered (after e₁ u) v place₂ s₁; entering = closed k₂ left q }), λ q. unmet k.sized (failed k₂ left q))

-- ---- no rule is left

pub all_placed : {t w : List ℕ} → Entered t 0 w → Placed t w
all_placed k = let (met, places) = all_entered k.entering in record { sized = k.sized; met = met; places = places }
