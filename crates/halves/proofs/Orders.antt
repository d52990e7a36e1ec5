-- The halves of a rule that is written are compared at the front of the work slice (`halves_test`, `right_test`); the two tests decide whether they are in order
-- (`not_less`, `left_symbol`, `left_same`, `left_pair`).
use mathlib.Core.Path.{◌≡◌, sym, ◌∙◌, ap, ap₂}
use mathlib.Core.Bool.{Bool, true, false, not}
use mathlib.Core.List.{List}
use Prim.Native.Nat.{ℕ, ◌+◌, ◌-◌, ◌≤◌, ◌<◌}
use native.Mathlib.Omega.{arith}
use native.Mathlib.Nat.{zero-add}
use lib.ListN.{length, get_or, length-append}
use lib.Dec.{ltb}
use Rattle.definitions.specs.Words.{lexlt}
use Rattle.definitions.specs.Table.{rule_string, rule_count}
use Rattle.lists.specs.Bools.{not_so}
use Rattle.lists.specs.Parts.{part, part_length, part_at, part_part}
use Rattle.lyndon.specs.Lexical.{lt_irrefl, lexlt_lt}
use Rattle.lyndon.specs.Shapes.{string_filled}
use Rattle.lyndon.specs.Ruled.{Ruled, symbol, pair, SymbolOf, PairOf, ruled}
use Rattle.lyndon.specs.Standard.{ordered, ordered_one, ordered_two}
use Rattle.lyndon.specs.Filling.{Stands, halves_compared, right_halves_compared}
use Rattle.layout.specs.Layout.{length_in}
use Rattle.compare.proofs.Compare.{firsts_differ}
use Rattle.lengths.proofs.Sizes.{rules_few}
use Rattle.halves.specs.Halves.{front, Written}

stands_front : (w y : List ℕ) (x : ℕ) → 2048 ≤ length w → x + length y ≤ 2048 → Stands w y x → Stands (front w) y x
stands_front w y x h l k = record {
  inside = omega (arith, part_length 0 2048 w (omega arith));
  same = part_part 0 2048 x (length y) w l ∙ ap (λ (i : ℕ). part i (length y) w) (zero-add x) ∙ k.same;
}

module _ {t w : List ℕ} {left right start behind : ℕ} (k : Written t w left right start behind) where
  low : (q : ℕ) → q < k.rule → q < rule_count t
  low q h = omega (arith, k.low)

  size : (q : ℕ) → q < k.rule → length_in w q ≡ length (rule_string k.order t q)
  size q h = k.placed.sized.sizes k.order q (low q h)

  both : length (rule_string k.order t k.rule) ≡ length (rule_string k.order t left) + length (rule_string k.order t right)
  both = ap length (k.pair.string k.order) ∙ length-append (rule_string k.order t left) (rule_string k.order t right)

  filled : (q : ℕ) → q < k.rule → 0 < length (rule_string k.order t q)
  filled q h = string_filled k.order t k.placed.sized.lent.shaped q (low q h)

  here : Stands (front w) (rule_string k.order t k.rule) start
  here = stands_front w (rule_string k.order t k.rule) start (omega (arith, k.placed.sized.lent.long)) k.inside k.stands

  pub order_room : (left < 2304) × (right < 2304) × (start < behind) × (0 < length_in w right) × (behind + length_in w right ≤ 2048)
  order_room =
      let few = rules_few k.placed.sized.lent in
      let l = k.pair.left in
      let r = k.pair.right in
      let m = k.low in
      let a = filled left l in
      let b = filled right r in
      let n = size right r in
      let j = k.next in
      let f = k.inside in
      (omega arith, omega arith, omega arith, omega arith, omega (arith, both))

  pub halves_test : (b : Bool) → b ≡ lexlt (part start (behind - start) (front w)) (part behind (length_in w right) (front w))
      → b ≡ lexlt (rule_string k.order t left) (rule_string k.order t right)
  halves_test b e =
      let u : behind - start ≡ length (rule_string k.order t left) = omega (arith, k.next) in
      let v = size right k.pair.right in
      e
      ∙ ap₂ {C = Bool} (λ i j. lexlt (part start i (front w)) (part behind j (front w))) u v
      ∙ ap (λ (j : ℕ). lexlt (part start (length (rule_string k.order t left)) (front w)) (part j (length (rule_string k.order t right)) (front w))) k.next
      ∙ halves_compared k.order (front w) start here k.pair

  -- where they are not, whatever the left half is
  pub not_less : lexlt (rule_string k.order t left) (rule_string k.order t right) ≡ false → false ≡ ordered k.order t k.rule
  not_less e = go (ruled t k.placed.sized.lent.shaped left (low left k.pair.left))
    where
      go : Ruled t left → false ≡ ordered k.order t k.rule
      go (symbol a b p) = sym (ordered_one k.order k.pair p ∙ e)
      go (pair x y p) = sym (ordered_two k.order k.pair p ∙ rw e)

  module _ (less : lexlt (rule_string k.order t left) (rule_string k.order t right) ≡ true) where
    pub left_symbol : (a b : ℕ) → SymbolOf t left a b → true ≡ ordered k.order t k.rule
    left_symbol a b p = sym (ordered_one k.order k.pair p ∙ less)

    -- the left half's right half is not smaller than the rule's
    pub left_pair : (a c : ℕ) → PairOf t left a c → (b : Bool) → b ≡ lexlt (rule_string k.order t c) (rule_string k.order t right) → not b ≡ ordered k.order t k.rule
    left_pair a c p b e = ap not e ∙ sym (ordered_two k.order k.pair p ∙ rw less)

    -- the same rule is not smaller than itself
    pub left_same : (a c : ℕ) → PairOf t left a c → c ≡ right → true ≡ ordered k.order t k.rule
    left_same a c p e =
        let y = rule_string k.order t right in
        left_pair a c p false (sym (ap (λ (q : ℕ). lexlt (rule_string k.order t q) y) e ∙ not_so (lexlt y y) (λ f. lt_irrefl y (lexlt_lt y y f))))

  module _ (a c : ℕ) (p : PairOf t left a c) where
    halves_size : length (rule_string k.order t left) ≡ length (rule_string k.order t a) + length (rule_string k.order t c)
    halves_size = ap length (p.string k.order) ∙ length-append (rule_string k.order t a) (rule_string k.order t c)

    pub middle_room : (a < 2304) × (start + length_in w a < behind)
    middle_room =
        let few = rules_few k.placed.sized.lent in
        let l = k.pair.left in
        let h = p.left in
        let m = k.low in
        let j = k.next in
        let b = filled c (omega (arith, p.right)) in
        let n = size a (omega arith) in
        (omega arith, omega (arith, halves_size))

    pub right_test : (b : Bool) → let i = start + length_in w a in b ≡ lexlt (part i (behind - i) (front w)) (part behind (length_in w right) (front w))
        → b ≡ lexlt (rule_string k.order t c) (rule_string k.order t right)
    right_test b e =
        let l = k.pair.left in
        let h = p.left in
        let i = start + length_in w a in
        let g : i ≡ start + length (rule_string k.order t a) = ap (λ (x : ℕ). start + x) (size a (omega arith)) in
        let u : behind - i ≡ length (rule_string k.order t c) = omega (arith, k.next, halves_size) in
        let v = size right k.pair.right in
        e
        ∙ ap₂ {C = Bool} (λ x y. lexlt (part i x (front w)) (part behind y (front w))) u v
        ∙ ap₂ {C = Bool} (λ x y. lexlt (part x (length (rule_string k.order t c)) (front w)) (part y (length (rule_string k.order t right)) (front w))) g k.next
        ∙ right_halves_compared k.order (front w) start here k.pair p

-- a rank at its place among the ranks
pub front_at : (w : List ℕ) (i : ℕ) → i < 2048 → get_or (front w) i 0 ≡ get_or w i 0
front_at w i h = part_at 0 2048 w i 0 h ∙ ap (λ (j : ℕ). get_or w j 0) (zero-add i)

pub ranks_same : (w : List ℕ) (i j : ℕ) → i < 2048 → j < 2048 → get_or w i 0 ≡ get_or w j 0 → get_or (front w) i 0 ≡ get_or (front w) j 0
ranks_same w i j h l e = front_at w i h ∙ e ∙ sym (front_at w j l)

-- the first ranks decide
pub ranks_differ : (w : List ℕ) (i j n : ℕ) → i < j → 0 < n → j + n ≤ 2048 → 2048 ≤ length w → (get_or w i 0 ≡ get_or w j 0 → ⊥)
    → ltb (get_or w i 0) (get_or w j 0) ≡ lexlt (part i (j - i) (front w)) (part j n (front w))
ranks_differ w i j n h l m long d =
    let size = part_length 0 2048 w (omega arith) in
    let a = front_at w i (omega arith) in
    let b = front_at w j (omega arith) in
    sym (firsts_differ (front w) i j n h l (omega arith) (λ e. d (sym a ∙ e ∙ b)) ∙ ap₂ {C = Bool} (λ x y. ltb x y) a b)
