-- The second pass, rule by rule: a rule that is reached has a right place (`reached`), and so have its halves; storing
-- right places keeps those that are stored (`placing_set`). The root's string is the whole marked text (`place_start`).
use mathlib.Core.Path.{◌≡◌, sym, ◌∙◌, ap, subst}
use mathlib.Core.Logic.{⊎_elim}
use mathlib.Core.List.{List}
use Prim.Native.Nat.{ℕ, suc, ◌+◌, ◌-◌, ◌≤◌, ◌<◌}
use native.Mathlib.Omega.{arith}
use lib.ListN.{length, set, length-append}
use lib.Seq.{get_or-set_same, get_or-set_other, take-length}
use Rattle.definitions.specs.Table.{marked, rule_string}
use Rattle.lists.specs.Numbers.{split_lt}
use Rattle.lists.specs.Parts.{part}
use Rattle.lyndon.specs.Ranks.{marked_length}
use Rattle.lyndon.specs.Stored.{rule_range}
use Rattle.layout.specs.Layout.{PLACES, length_in, place_in}
use Rattle.lyndon.specs.Filling.{half_places}
use Rattle.state.specs.State.{Loaded}
use Rattle.places.specs.Passes.{Contents, table_in, rules_in, Half, StandsIn, Stands, Sizing, Placing}
use Rattle.places.proofs.Strings.{root_string, later_half}
use Rattle.decoding.specs.declared.Rule.TheVariants.{Symbol, Pair}
use Rattle.decoding.specs.Decoding.{rule_in}
use Rattle.lyndon.specs.Ruled.{PairOf}
use Rattle.state.proofs.Rules.{kept_rule, kept_pair}
use Rattle.places.proofs.Rules.{no_half, own_half}
use Rattle.places.proofs.Sizes.{sizing_set}

whole_part : (s : List ℕ) → part 0 (length s) s ≡ s
unfolding part
whole_part s = take-length s

-- ---- a right place is stored

module _ (g : Contents) (w : List ℕ) (q x : ℕ) (h : PLACES + q < length w) (p : StandsIn g q x) where
  stands_stored : Stands g (set w (PLACES + q) x) q
  stands_stored = subst (StandsIn g q) (sym (get_or-set_same w (PLACES + q) x 0 h)) p

  stands_kept : (r : ℕ) → Stands g w r → Stands g (set w (PLACES + q) x) r
  stands_kept r k = split_lt r q
      (λ l. other (λ z. omega arith))
      (λ e. subst (Stands g (set w (PLACES + q) x)) (sym e) stands_stored)
      (λ l. other (λ z. omega arith))
    where
      other : (PLACES + r ≡ PLACES + q → ⊥) → Stands g (set w (PLACES + q) x) r
      other d = subst (StandsIn g r) (sym (get_or-set_other w (PLACES + q) (PLACES + r) x 0 d)) k

placing_set : (g : Contents) (w : List ℕ) (n q x : ℕ) → Placing g n w → q < rules_in g → StandsIn g q x
    → Placing g n (set w (PLACES + q) x) × Stands g (set w (PLACES + q) x) q
placing_set g w n q x k l p =
    let most = k.sizing.most in
    let h : PLACES + q < length w = omega (arith, k.sizing.kept.long) in (
      record {
        sizing = sizing_set g w (PLACES + q) x k.sizing (omega arith) (omega arith);
        root = stands_kept g w q x h p (rules_in g - 1) k.root;
        halves = λ i r a b c. stands_kept g w q x h p r (k.halves i r a b c);
      },
      stands_stored g w q x h p,
    )

-- ---- the steps

-- a rule is the root or a half of a later one
reached : (g : Contents) (w : List ℕ) (n r : ℕ) → Placing g n w → n ≤ suc r → r < rules_in g → Stands g w r
reached g w n r k l h = split_lt (suc r) (rules_in g)
    (λ m. let (i, a, b, c) = later_half g.order g.text g.chair k.sizing.kept.stored r m in k.halves i r (omega arith) b c)
    (λ m. let last : rules_in g - 1 ≡ r = omega arith in subst (Stands g w) last k.root)
    (λ m. absurd (omega arith))

pub place_symbol : (g : Contents) (w : List ℕ) (r a b : ℕ) → Placing g (r + 1) w → r < rules_in g → rule_in w r ≡ Symbol a b → Placing g r w
place_symbol g w r a b k h e = record {
  sizing = k.sizing;
  root = k.root;
  halves = λ i q m n half. split_lt i r
      (λ l. absurd (omega arith))
      (λ l. absurd (no_half (table_in g) r a b q (sym (kept_rule k.sizing.kept r h) ∙ e) (subst (λ (y : ℕ). Half (table_in g) y q) l half)))
      (λ l. k.halves i q (omega arith) n half);
}

module _ (g : Contents) (w : List ℕ) (r u v : ℕ) (k : Placing g (r + 1) w) (h : r < rules_in g) (q : rule_in w r ≡ Pair u v) where
  p : PairOf (table_in g) r u v
  p = kept_pair k.sizing.kept r h u v q

  -- the halves are rules, and the right half's place is no more than the length of the text
  pub pair_room : (u < 2304) × (v < 2304) × (place_in w r + length_in w u ≤ 2048)
  pair_room =
      let at = reached g w (r + 1) r k (omega arith) h in
      let most = k.sizing.most in (
        omega (arith, p.left),
        omega (arith, p.right),
        omega (
          arith,
          at.inside,
          ap length (p.string g.order),
          length-append (rule_string g.order (table_in g) u) (rule_string g.order (table_in g) v),
          k.sizing.sizes u (omega (arith, p.left)),
          marked_length g.order g.text,
          k.sizing.kept.stored.short,
        ),
      )

  pub place_pair : (z : List ℕ) → z ≡ set (set w (PLACES + u) (place_in w r)) (PLACES + v) (place_in w r + length_in w u) → Placing g r z
  place_pair z e =
      let x = place_in w r in
      let (a, b) = half_places g.order (marked g.order g.text) x (reached g w (r + 1) r k (omega arith) h) p in
      let y = x + length_in w u in
      let c : StandsIn g v y =
      subst (λ (m : ℕ). StandsIn g v (x + m)) (sym (k.sizing.sizes u (omega (arith, p.left)))) b in
      let w₁ = set w (PLACES + u) x in
      let (k₁, left) = placing_set g w (r + 1) u x k (omega (arith, p.left)) a in
      let (k₂, right) = placing_set g w₁ (r + 1) v y k₁ (omega (arith, p.right)) c in
      let most = k.sizing.most in
      let left₂ = stands_kept g w₁ v y (omega (arith, p.right, k₁.sizing.kept.long)) c u left in
      rw e record {
        sizing = k₂.sizing;
        root = k₂.root;
        halves = λ i j m n half. split_lt i r
            (λ l. absurd (omega arith))
            (λ l. ⊎_elim
            (λ s. subst (Stands g (set w₁ (PLACES + v) y)) (sym s) left₂)
            (λ s. subst (Stands g (set w₁ (PLACES + v) y)) (sym s) right)
            (own_half (table_in g) r u v j (sym (kept_rule k.sizing.kept r h) ∙ q) (subst (λ (c : ℕ). Half (table_in g) c j) l half)))
            (λ l. k₂.halves i j (omega arith) n half);
      }

-- ---- the beginning and the end

pub place_start : (g : Contents) (w v : List ℕ) (rules : ℕ) → rules ≡ rules_in g → Sizing g rules w → v ≡ set w (PLACES + (rules - 1)) 0 → Placing g rules v
place_start g w v rules e s f =
    let whole = root_string g.order g.text g.chair s.kept.stored in
    let (some, most) = rule_range g.order g.text g.chair s.kept.stored in
    let size = ap length whole in
    let front : StandsIn g (rules_in g - 1) 0 =
    record {
      inside = omega arith;
      same = ap (λ (n : ℕ). part 0 n (marked g.order g.text)) size ∙ whole_part (marked g.order g.text) ∙ sym whole;
    } in
    rw (f, e) record {
      sizing = sizing_set g w (PLACES + (rules_in g - 1)) 0 (subst (λ (n : ℕ). Sizing g n w) e s) (omega arith) (omega arith);
      root = stands_stored g w (rules_in g - 1) 0 (omega (arith, s.kept.long)) front;
      halves = λ k r a b c. absurd (omega arith);
    }

pub place_end : (g : Contents) (w : List ℕ) → Placing g 0 w → Loaded g.order g.text g.chair w
place_end g w k = record {
  kept = k.sizing.kept;
  sizes = k.sizing.sizes;
  places = λ r h. reached g w 0 r k (omega arith) h;
}
