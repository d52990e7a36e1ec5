-- The walk that expands the root, step by step.
use mathlib.Core.Path.{◌≡◌, refl, sym, ◌∙◌, ap, ap₂, subst}
use mathlib.Core.List.{List, [], ◌∷◌, ◌++◌, append_assoc, append-nil}
use Prim.Native.Nat.{ℕ, zero, suc, ◌+◌, ◌-◌, ◌≤◌, ◌<◌}
use native.Mathlib.Omega.{arith}
use native.Mathlib.Numerals.{add-one}
use native.Mathlib.Nat.{zero-add}
use lib.ListN.{length, get_or, set, length-append, length-set}
use lib.Seq.{get_or-set_same, get_or-set_other}
use Rattle.definitions.specs.declared.Order.{Order}
use Rattle.definitions.specs.Table.{rank_of_number, rule_string, spelled, rule_count}
use Rattle.lists.specs.Numbers.{split_lt}
use Rattle.lists.specs.Parts.{part, part_length, part_set_behind, part_append, part_cons, part_none}
use Rattle.lyndon.specs.Shapes.{Shaped, string_filled}
use Rattle.layout.specs.Layout.{STACK}
use Rattle.decoding.specs.declared.Rule.TheVariants.{Symbol, Pair}
use Rattle.decoding.specs.Decoding.{rule_at}
use Rattle.lyndon.specs.Ruled.{SymbolOf, PairOf}
use Rattle.decoding.proofs.Rules.{symbol_read, pair_read}
use Rattle.expansion.specs.declared.Turn.TheVariants.{Next, Whole}
use Rattle.expansion.specs.Expansion.{pending_in, Expanding, Expandable, Stepped}

-- ---- the pending rules

-- a store before their area
pending_same : (o : Order) (t w : List ℕ) (n x d : ℕ) → n < STACK → pending_in o t (set w n x) d ≡ pending_in o t w d
unfolding pending_in
pending_same o t w n x zero h = refl
pending_same o t w n x (suc d) h =
    ap₂ {C = List ℕ} (λ k l. rule_string o t k ++ l) (get_or-set_other w n (STACK + d) x 0 (λ e. omega arith)) (pending_same o t w n x d h)

-- a store behind the top
pending_under : (o : Order) (t w : List ℕ) (e x d : ℕ) → d ≤ e → pending_in o t (set w (STACK + e) x) d ≡ pending_in o t w d
unfolding pending_in
pending_under o t w e x zero h = refl
pending_under o t w e x (suc d) h =
    ap₂ {C = List ℕ} (λ k l. rule_string o t k ++ l) (get_or-set_other w (STACK + e) (STACK + d) x 0 (λ q. omega arith)) (pending_under o t w e x d (omega arith))

pending_more : (o : Order) (t w : List ℕ) (d x : ℕ) → STACK + d < length w → pending_in o t (set w (STACK + d) x) (suc d) ≡ rule_string o t x ++ pending_in o t w d
unfolding pending_in
pending_more o t w d x h =
    ap₂ {C = List ℕ} (λ k l. rule_string o t k ++ l) (get_or-set_same w (STACK + d) x 0 h) (pending_under o t w d x d (omega arith))

-- ---- a symbol

-- one symbol more is written
written_more : (w : List ℕ) (n x : ℕ) → n < length w → part 0 (n + 1) (set w n x) ≡ part 0 n w ++ (x ∷ [])
written_more w n x h =
    part_append 0 n 1 (set w n x)
    ∙ ap₂ {C = List ℕ} (λ a b. a ++ b)
    (part_set_behind 0 n w n x (omega arith))
    (ap (λ (k : ℕ). part k 1 (set w n x)) (zero-add n)
    ∙ part_cons n 0 (set w n x) 0 (simp length-set h)
    ∙ ap₂ {C = List ℕ} (λ a b. a ∷ b) (get_or-set_same w n x 0 h) (part_none (suc n) (set w n x)))

-- what the rule is read as
module _ {o : Order} {t w : List ℕ} {r n d : ℕ} (p : Expandable o t w r n d) where
  pub symbol_here : (a b : ℕ) → rule_at t r ≡ Symbol a b → SymbolOf t r a b
  symbol_here = symbol_read t r p.shaped p.expanding.low

  pub pair_here : (left right : ℕ) → rule_at t r ≡ Pair left right → PairOf t r left right
  pair_here = pair_read t r p.shaped p.expanding.low

-- one step of the walk, from w to v
module _ {o : Order} {t w : List ℕ} {r n d : ℕ} (p : Expandable o t w r n d) (v : List ℕ) where
  -- a symbol, whose rank x is written
  module _ (a b x : ℕ) (s : rule_at t r ≡ Symbol a b) (f : x ≡ rank_of_number o a) (e : v ≡ set w n x) where
    whole : spelled o t ≡ part 0 (n + 1) v ++ pending_in o t v d
    whole =
        p.expanding.whole
        ∙ ap (λ (l : List ℕ). part 0 n w ++ (l ++ pending_in o t w d)) ((symbol_here p a b s).string o ∙ ap (λ (y : ℕ). y ∷ []) (sym f))
        ∙ sym (append_assoc (part 0 n w) (x ∷ []) (pending_in o t w d))
        ∙ ap₂ {C = List ℕ} (λ a b. a ++ b) (sym (written_more w n x (omega (arith, p.room, p.long)))) (sym (pending_same o t w n x d (omega (arith, p.room))))
        ∙ ap (λ (l : List ℕ). part 0 (n + 1) l ++ pending_in o t l d) (sym e)

    pub symbol_last : d ≡ 0 → Stepped o t v n d (Whole (n + 1))
    unfolding pending_in
    symbol_last q = (omega arith, omega (arith, p.room), sym (whole ∙ ap (λ (k : ℕ). part 0 (n + 1) v ++ pending_in o t v k) q ∙ append-nil (part 0 (n + 1) v)))

    pub symbol_next : (q : ℕ) → (d ≡ 0 → ⊥) → q ≡ get_or v (STACK + d - 1) 0 → Stepped o t v n d (Next (record { rule = q; written = n + 1; pending = d - 1 }))
    unfolding pending_in
    symbol_next q z g = (
      record {
        low = subst (λ (i : ℕ). i < rule_count t) (sym (top ∙ kept (d - 1))) (p.expanding.rules (d - 1) (omega arith));
        rules = λ j h. subst (λ (i : ℕ). i < rule_count t) (sym (kept j)) (p.expanding.rules j (omega arith));
        whole =
            whole
            ∙ ap (λ (m : ℕ). part 0 (n + 1) v ++ pending_in o t v m) back
            ∙ ap (λ (i : ℕ). part 0 (n + 1) v ++ (rule_string o t i ++ pending_in o t v (d - 1))) (sym top);
      },
      omega arith,
      omega (arith, p.room),
    )
      where
        kept : (j : ℕ) → get_or v (STACK + j) 0 ≡ get_or w (STACK + j) 0
        kept j = ap (λ (l : List ℕ). get_or l (STACK + j) 0) e ∙ get_or-set_other w n (STACK + j) x 0 (λ z. omega (arith, p.room))

        back : d ≡ suc (d - 1)
        back = omega (arith, z)

        top : q ≡ get_or v (STACK + (d - 1)) 0
        top = let i : STACK + d - 1 ≡ STACK + (d - 1) = omega (arith, z) in g ∙ ap (λ (k : ℕ). get_or v k 0) i

  -- a pair, whose right half is left pending
  pub pair_stepped : (left right : ℕ) → rule_at t r ≡ Pair left right → v ≡ set w (STACK + d) right
      → Stepped o t v n d (Next (record { rule = left; written = n; pending = d + 1 }))
  pair_stepped left right q e = (
    record {
      low = omega (arith, p.expanding.low, h.left);
      rules = λ j l. split_lt j d
          (λ m. subst (λ (z : ℕ). z < rule_count t) (sym (ap (λ (x : List ℕ). get_or x (STACK + j) 0) e ∙ get_or-set_other w (STACK + d) (STACK + j) right 0 (λ q. omega arith))) (p.expanding.rules j m))
          (λ q. subst (λ (z : ℕ). z < rule_count t) (sym (ap₂ {C = ℕ} (λ x m. get_or x (STACK + m) 0) e q ∙ get_or-set_same w (STACK + d) right 0 (omega (arith, p.room, p.long)))) (omega (arith, p.expanding.low, h.right)))
          (λ m. absurd (omega arith));
      whole =
          p.expanding.whole
          ∙ ap₂ {C = List ℕ} (λ x y. x ++ (y ++ pending_in o t w d)) (sym (part_set_behind 0 n w (STACK + d) right (omega (arith, p.room))) ∙ ap (part 0 n) (sym e)) (h.string o)
          ∙ ap (λ (l : List ℕ). part 0 n v ++ l) (append_assoc (rule_string o t left) (rule_string o t right) (pending_in o t w d))
          ∙ ap (λ (l : List ℕ). part 0 n v ++ (rule_string o t left ++ l)) pending;
    },
    omega arith,
    omega (arith, p.room),
  )
    where
      h : PairOf t r left right
      h = pair_here p left right q

      pending : rule_string o t right ++ pending_in o t w d ≡ pending_in o t v (d + 1)
      pending = sym (ap₂ {C = List ℕ} (λ l m. pending_in o t l m) e (add-one d) ∙ pending_more o t w d right (omega (arith, p.room, p.long)))

-- ---- the beginning and the end

pub walk_start : (o : Order) (t w : List ℕ) → Shaped t → Expanding o t w (rule_count t - 1) 0 0
unfolding pending_in spelled
walk_start o t w s =
    record {
      low = omega (arith, s.even, s.filled);
      rules = λ k h. absurd (omega arith);
      whole = sym (ap (λ (l : List ℕ). l ++ (rule_string o t (rule_count t - 1) ++ [])) (part_none 0 w) ∙ append-nil (rule_string o t (rule_count t - 1)));
    }

-- each pending rule spells something
pending_long : (o : Order) (t w : List ℕ) (d : ℕ) → Shaped t → ((k : ℕ) → k < d → get_or w (STACK + k) 0 < rule_count t) → d ≤ length (pending_in o t w d)
unfolding pending_in
pending_long o t w zero s h = omega arith
pending_long o t w (suc d) s h =
    let ih = pending_long o t w d s (λ k l. h k (omega arith)) in
    let one_more = string_filled o t s (get_or w (STACK + d) 0) (h d (omega arith)) in
    simp length-append (omega arith)

pub walk_long : (o : Order) (t w : List ℕ) (r n d : ℕ) → Shaped t → 4096 ≤ length w → n + d ≡ 2048 → Expanding o t w r n d → 2048 < length (spelled o t)
walk_long o t w r n d s h e x =
    omega (
      arith,
      ap length x.whole,
      length-append (part 0 n w) (rule_string o t r ++ pending_in o t w d),
      length-append (rule_string o t r) (pending_in o t w d),
      part_length 0 n w (omega arith),
      string_filled o t s r x.low,
      pending_long o t w d s x.rules,
    )
