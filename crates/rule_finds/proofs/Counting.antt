-- What is found in a symbol rule is one comparison (`symbol_found`); in a pair rule it is what its halves have, and one
-- more where its join has a cut (`pair_occurs`, `pair_found`); its tests are the cuts that fit (`pair_tests`). Storing it changes nothing that was counted, so one rule more is (`counted_more`).
use mathlib.Core.Path.{◌≡◌, refl, sym, ◌∙◌, ap, subst}
use mathlib.Core.Bool.{Bool, true, false, cond, ◌&&◌}
use mathlib.Core.List.{List, [], ◌∷◌, ◌++◌, map}
use Prim.Native.Nat.{ℕ, zero, suc, ◌+◌, ◌*◌, ◌/◌, ◌%◌, ◌≤◌, ◌<◌, min}
use native.Mathlib.Omega.{arith}
use lib.ListN.{length, get_or, set, length-append, length-map}
use lib.Seq.{get_or-set_same, get_or-set_other}
use lib.Dec.{eqb}
use Rattle.definitions.specs.declared.Order.{Order}
use Rattle.definitions.specs.Words.{below, begins}
use Rattle.definitions.specs.Table.{rank_of, table_of, rule_string, left_half, right_half, rule_count}
use Rattle.definitions.specs.Occurrences.{occurrences, straddling, listed_cuts, pattern_cuts, tests_of, tests_below, tests}
use Rattle.lists.specs.Bools.{contra}
use Rattle.lists.specs.Numbers.{split_lt}
use Rattle.lists.specs.Parts.{part, part_at, part_length, part_set_before}
use Rattle.lyndon.specs.Joins.{occurrences_join}
use Rattle.lyndon.specs.Occurrences.{occurrences_most}
use Rattle.lyndon.specs.Stored.{rule_range}
use Rattle.lyndon.specs.Tests.{fitting, tests_pair, tests_more, rule_few}
use Rattle.layout.specs.Layout.{FOUND, PATTERN, CUTS, PACK, Readable, length_in, place_in, count_in, join_cut_in}
use Rattle.decoding.specs.declared.Rule.TheVariants.{Pair}
use Rattle.decoding.specs.Decoding.{rule_in}
use Rattle.lyndon.specs.Ruled.{SymbolOf, PairOf}
use Rattle.joins.specs.Joining.{longest_tail, cut_place, JoinCut}
use Rattle.joins.proofs.Joining.{cut_place_size}
use Rattle.rule_finds.specs.Found.{occurs_in, across_join, FoundIn}
use Rattle.rule_finds.specs.Searching.{Counting, Counts, CountedBefore, SymbolTurn, FoundFor, tests_for}
use Rattle.rule_finds.proofs.Standing.{PlacedHalves, placed_symbol, rule_stands, pair_stands, outside_set, placed_outside}

-- ---- a symbol

one_count : (p : List ℕ) (a : ℕ) → length p ≡ 1 → length (occurrences p (a ∷ [])) ≡ cond (eqb (get_or p 0 0) a) 1 0
unfolding occurrences below begins
one_count [] a h = absurd (omega arith)
one_count (b ∷ []) a h = go (eqb b a)
  where
    go : (x : Bool) → length (◌++◌ {A = ℕ} (cond (x && true) (0 ∷ []) []) []) ≡ cond x 1 0
    go true = refl
    go false = refl
one_count (b ∷ c ∷ q) a h = absurd (omega arith)

module _ {r : ℕ} {w : List ℕ} (h : SymbolTurn r w) where
  abbrev turn : CountedBefore h.one.size h.one.cuts r w
  turn = h.one.turn

  abbrev o : Order
  o = turn.order

  symbol : SymbolOf (table_of o turn.text turn.chair) r h.number h.beside
  symbol = placed_symbol o turn.text turn.chair w turn.counting.loaded r turn.low h.number h.beside h.rule

  -- the rank that stands at the rule's place is its string
  symbol_stands : rule_string o (table_of o turn.text turn.chair) r ≡ get_or w (place_in w r) 0 ∷ []
  symbol_stands =
      let s = symbol.string o in
      let (k, e) = rule_stands o turn.text turn.chair w turn.counting.loaded r turn.low in
      let x = place_in w r in
      let n = length (rule_string o (table_of o turn.text turn.chair) r) in
      let z : x + 0 ≡ x = omega arith in
      s ∙ ap (λ (a : ℕ). a ∷ []) (ap (λ (l : List ℕ). get_or l 0 0) (sym s ∙ sym e) ∙ part_at x n w 0 0 (omega (arith, ap length s)) ∙ ap (λ (i : ℕ). get_or w i 0) z)

  pub symbol_place : place_in w r < 2048
  symbol_place = omega (arith, ap length (symbol.string o), (rule_stands o turn.text turn.chair w turn.counting.loaded r turn.low).0)

  pub symbol_found : (x : ℕ) (b : Bool) → eqb (get_or w PATTERN 0) (get_or w (place_in w r) 0) ≡ b → x / PACK ≡ cond b 1 0 → x % PACK ≡ 0 → FoundFor h.one.turn x
  unfolding occurs_in
  symbol_found x b e f z =
      let k = turn.counting in
      let P = map (rank_of o) turn.samples in
      let here : PATTERN + 0 ≡ PATTERN = omega arith in
      let first : get_or P 0 0 ≡ get_or w PATTERN 0 =
      ap (λ (l : List ℕ). get_or l 0 0) (sym k.ranks) ∙ part_at PATTERN h.one.size w 0 0 k.tried.filled ∙ ap (λ (i : ℕ). get_or w i 0) here in
      let a = get_or w (place_in w r) 0 in
      record {
        number =
            f
            ∙ sym (one_count P a (omega (arith, length-map turn.samples (rank_of o), k.size, k.tried.filled, h.one.short)) ∙ ap (λ (d : ℕ). cond (eqb d a) 1 0) first ∙ ap (λ (y : Bool). cond y 1 0) e)
            ∙ ap (λ (s : List ℕ). length (occurrences P s)) (sym symbol_stands);
        small = omega arith;
        inside = λ q. contra q symbol.no_pair;
        cut = λ q. contra q symbol.no_pair;
        no_cut = λ q. z;
      }

-- ---- a pair

-- the occurrences in a pair whose join has the cut c, 0 if none; its left half is n symbols long
module _ (o : Order) (t p : List ℕ) (r u v n c : ℕ) (h : PairOf t r u v) (e : n ≡ length (rule_string o t u)) (filled : 0 < length p)
    (across : across_join o t p r ≡ cut_place (length (left_half o t r)) c) where
  pub pair_occurs : occurs_in o t p r ≡ occurs_in o t p u ++ (cut_place n c ++ map (λ (k : ℕ). n + k) (occurs_in o t p v))
  unfolding occurs_in across_join
  pair_occurs =
      let n₁ = length (rule_string o t u) in
      let cut : straddling p (rule_string o t u) (rule_string o t v) ≡ cut_place n₁ c = rw (h.left_half_lem o, h.right_half_lem o) at across in
      ap (occurrences p) (h.string o)
      ∙ occurrences_join p (rule_string o t u) (rule_string o t v) filled
      ∙ ap (λ (x : List ℕ). occurrences p (rule_string o t u) ++ (x ++ map (λ (k : ℕ). n₁ + k) (occurrences p (rule_string o t v)))) cut
      ∙ ap (λ (m : ℕ). occurrences p (rule_string o t u) ++ (cut_place m c ++ map (λ (k : ℕ). m + k) (occurrences p (rule_string o t v)))) (sym e)

  pub pair_counts : length (occurs_in o t p r) ≡ length (occurs_in o t p u) + (min 1 c + length (occurs_in o t p v))
  pair_counts =
      let behind = map (λ (k : ℕ). n + k) (occurs_in o t p v) in
      omega (
        arith,
        ap length pair_occurs,
        length-append (occurs_in o t p u) (cut_place n c ++ behind),
        length-append (cut_place n c) behind,
        cut_place_size n c,
        length-map (occurs_in o t p v) (λ (k : ℕ). n + k),
      )

-- ---- the cuts

pub tried_cuts : (o : Order) (p : List ℕ) → listed_cuts (map (rank_of o) p) ≡ pattern_cuts o p
unfolding pattern_cuts
tried_cuts o p = refl

-- those that are tried are the pattern's
cuts_here : {o : Order} {p text : List ℕ} {chair m n r : ℕ} {w : List ℕ} → Counting o p text chair m n r w → part CUTS n w ≡ pattern_cuts o p
cuts_here {o = o} {p = p} h = h.tried.cuts ∙ ap listed_cuts h.ranks ∙ tried_cuts o p

same_fitting : {m n a b c d : ℕ} {x y : List ℕ} → m ≡ n → a ≡ b → c ≡ d → x ≡ y → fitting m a c x ≡ fitting n b d y
same_fitting e f g h = rw (e, f, g, h)

-- ---- what the code reads of rule r

-- of a pair that stands at x: its halves are rules, and not too long
pub record PairKnown (u v x : ℕ) (w : List ℕ) : Type 0 where
  pub left : Readable w u
  pub right : Readable w v
  pub inside : x + length_in w u + length_in w v ≤ 2048
  pub most : count_in w u + count_in w v ≤ 4096
  pub apart : join_cut_in w u + join_cut_in w v < PACK

module _ {m n r : ℕ} {w : List ℕ} (h : CountedBefore m n r w) where
  abbrev ord : Order
  ord = h.order

  pub turn_known : Readable w r
  turn_known =
      let n = rule_range ord h.text h.chair h.counting.loaded.kept.stored in
      record { low = omega (arith, h.low); long = h.counting.loaded.kept.long }

  module _ (u v : ℕ) (e : rule_in w r ≡ Pair u v) where
    halves_here : PlacedHalves ord (table_of ord h.text h.chair) r u v w
    halves_here = pair_stands ord h.text h.chair w h.counting.loaded r h.low u v e

    pub pair_known : PairKnown u v (place_in w r) w
    unfolding occurs_in
    pair_known =
        let k = halves_here in
        let t = table_of ord h.text h.chair in
        let P = map (rank_of ord) h.samples in
        let left = k.pair.left in
        let right = k.pair.right in
        let low = turn_known.low in
        let a = (h.counting.found u left).number in
        let b = (h.counting.found v right).number in
        record {
          left = record { low = omega arith; long = turn_known.long };
          right = record { low = omega arith; long = turn_known.long };
          inside = k.inside;
          most = omega (arith, a, b, occurrences_most P (rule_string ord t u), occurrences_most P (rule_string ord t v), k.inside, k.left_size, k.right_size);
          apart = omega (arith, (h.counting.found u left).small, (h.counting.found v right).small);
        }

    pub pair_found : (at left right c x : ℕ) → at ≡ place_in w r → left ≡ length_in w u → right ≡ length_in w v
        → JoinCut (part PATTERN m w) (part at left w) (part (at + left) right w) c → x / PACK ≡ count_in w u + count_in w v + min 1 c → x % PACK ≡ c → FoundFor h x
    unfolding across_join
    pair_found at left right c x i a b j e f =
        let k = halves_here in
        let t = table_of ord h.text h.chair in
        let P = map (rank_of ord) h.samples in
        let y = (h.counting.found u k.pair.left).number in
        let z = (h.counting.found v k.pair.right).number in
        let cut : JoinCut P (left_half ord t r) (right_half ord t r) c = rw (i, a, b, k.left_part, k.right_part, h.counting.ranks) at j in
        let filled : 0 < length P = omega (arith, length-map h.samples (rank_of ord), h.counting.pattern.filled) in
        record {
          number = e ∙ omega (arith, y, z, pair_counts ord t P r u v (length_in w u) c k.pair k.left_size filled (cut.place k.std));
          small = omega (arith, cut.small, length-map h.samples (rank_of ord), h.counting.pattern.short);
          inside = λ q. omega (arith, cut.inside);
          cut = λ q. cut.place k.std ∙ ap (cut_place (length (left_half ord t r))) (sym f);
          no_cut = λ q. contra k.pair.is_pair_lem q;
        }

    -- the tests are the cuts that fit
    pub pair_tests : (left right before x : ℕ) → left ≡ length_in w u → right ≡ length_in w v → x ≡ before + fitting m left right (part CUTS n w) → x ≡ before + length (tests_for h)
    pair_tests left right before x a b e =
        let k = halves_here in
        let t = table_of ord h.text h.chair in
        let cuts = pattern_cuts ord h.samples in
        let made = tests_pair ord t (length h.samples) r cuts k.pair.is_pair_lem in
        let sizes = same_fitting h.counting.size (a ∙ k.left_size ∙ ap length (sym (k.pair.left_half_lem ord))) (b ∙ k.right_size ∙ ap length (sym (k.pair.right_half_lem ord))) (cuts_here h.counting) in
        e ∙ ap (λ (i : ℕ). before + i) (sizes ∙ sym made)

-- ---- one rule more

counted_more : (o : Order) (p text : List ℕ) (chair m n r : ℕ) (w : List ℕ) (x : ℕ) → Counting o p text chair m n r w → r < rule_count (table_of o text chair)
    → FoundIn o (table_of o text chair) (map (rank_of o) p) r x → Counting o p text chair m n (r + 1) (set w (FOUND + r) x)
counted_more o p text chair m n r w x h low f =
    let most = rule_range o text chair h.loaded.kept.stored in
    let long = h.loaded.kept.long in
    let ranks : part PATTERN m (set w (FOUND + r) x) ≡ part PATTERN m w = part_set_before PATTERN m w (FOUND + r) x (omega arith) in
    record {
      loaded = placed_outside o text chair w (set w (FOUND + r) x) (outside_set w (FOUND + r) x (omega arith) (omega arith)) h.loaded;
      pattern = h.pattern;
      size = h.size;
      ranks = ranks ∙ h.ranks;
      tried =
          record {
            filled = h.tried.filled;
            short = h.tried.short;
            few = h.tried.few;
            cuts = part_set_before CUTS n w (FOUND + r) x (omega arith) ∙ h.tried.cuts ∙ ap listed_cuts (sym ranks);
            end = get_or-set_other w (FOUND + r) (CUTS + n) x 0 (λ e. omega arith) ∙ h.tried.end;
          };
      found = λ q l. split_lt q r
          (λ k. subst (λ (y : ℕ). FoundIn o (table_of o text chair) (map (rank_of o) p) q y) (sym (get_or-set_other w (FOUND + r) (FOUND + q) x 0 (λ e. omega arith))) (h.found q k))
          (λ e. subst (λ (i : ℕ). FoundIn o (table_of o text chair) (map (rank_of o) p) i (get_or (set w (FOUND + r) x) (FOUND + i) 0)) (sym e) (subst (λ (y : ℕ). FoundIn o (table_of o text chair) (map (rank_of o) p) r y) (sym (get_or-set_same w (FOUND + r) x 0 (omega arith))) f))
          (λ k. absurd (omega arith));
    }

-- what is found is written before the cuts
pub longest_kept : (m n r : ℕ) (w v : List ℕ) (x : ℕ) → r < 2304 → v ≡ set w (FOUND + r) x → longest_tail m n v ≡ longest_tail m n w
unfolding longest_tail
longest_kept m n r w v x l e = rw (e, get_or-set_other w (FOUND + r) CUTS x 0 (λ z. omega arith))

-- whatever text is loaded in w₀ and whatever the pattern is, the first r rules are counted in w, by so many tests
abbrev pub Counted : ℕ → ℕ → ℕ → ℕ → ℕ → List ℕ → List ℕ → Type 0
Counted m n rules r made w₀ w =
    (o : Order) (p text : List ℕ) (chair : ℕ) → Counting o p text chair m n 0 w₀ → rules ≡ rule_count (table_of o text chair)
    → Counting o p text chair m n r w × (made ≡ length (tests_below o (table_of o text chair) (length p) (pattern_cuts o p) r))

pub counted_none : (m n rules : ℕ) (w : List ℕ) → Counted m n rules 0 0 w w
unfolding tests_below
counted_none m n rules w o p text chair k s = (k, refl)

pub counted_turn : (m n rules r before made : ℕ) (w₀ w v : List ℕ) (x : ℕ) → r < rules → Counted m n rules r before w₀ w
    → ((h : CountedBefore m n r w) → FoundFor h x × (made ≡ before + length (tests_for h))) → v ≡ set w (FOUND + r) x → Counted m n rules (r + 1) made w₀ v
counted_turn m n rules r before made w₀ w v x l h f e o p text chair k s =
    let low : r < rule_count (table_of o text chair) = omega arith in
    let (c, q) = h o p text chair k s in
    let (a, b) = f (record { order = o; samples = p; text = text; chair = chair; counting = c; low = low }) in (
      subst (Counting o p text chair m n (r + 1)) (sym e) (counted_more o p text chair m n r w x c low a),
      b ∙ omega (arith, q, tests_more o (table_of o text chair) (length p) (pattern_cuts o p) r),
    )

pub counted_end : (m n rules r made : ℕ) (w₀ w : List ℕ) → r ≡ rules → Counted m n rules r made w₀ w
    → (o : Order) (p text : List ℕ) (chair : ℕ) → Counting o p text chair m n 0 w₀ → rules ≡ rule_count (table_of o text chair)
    → Counting o p text chair m n rules w × (made ≡ length (tests o (table_of o text chair) p))
unfolding tests
counted_end m n rules r made w₀ w e h o p text chair k s =
    let (c, q) = h o p text chair k s in (
      subst (λ (i : ℕ). Counting o p text chair m n i w) e c,
      q ∙ ap (λ (i : ℕ). length (tests_below o (table_of o text chair) (length p) (pattern_cuts o p) i)) (e ∙ s),
    )

-- at most 11 a rule
few_below : (o : Order) (t : List ℕ) (m : ℕ) (cuts : List ℕ) → length cuts ≤ 11 → (r : ℕ) → length (tests_below o t m cuts r) ≤ 11 * r
unfolding tests_below
few_below o t m cuts h zero = omega arith
few_below o t m cuts h (suc r) =
    omega (arith, length-append (tests_below o t m cuts r) (tests_of o t m cuts r), few_below o t m cuts h r, rule_few o t m cuts r)

pub few_tests : (m n rules r made : ℕ) (w₀ w : List ℕ) → Counts m n rules 0 w₀ → Counted m n rules r made w₀ w → made ≤ 11 * r
few_tests m n rules r made w₀ w c h =
    let (k, e) = h c.order c.samples c.text c.chair c.counting c.size in
    let size = part_length CUTS n w (omega (arith, k.tried.few, k.loaded.kept.long)) in
    let few : length (pattern_cuts c.order c.samples) ≤ 11 = omega (arith, ap length (cuts_here k), size, k.tried.few) in
    omega (arith, e, few_below c.order (table_of c.order c.text c.chair) (length c.samples) (pattern_cuts c.order c.samples) few r)
