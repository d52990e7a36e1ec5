-- The ranks of the pattern and its listed cuts, with NO_CUT behind them, are written into their areas, and nothing else changes (`counting_start`).
use mathlib.Core.Path.{◌≡◌, refl, sym, ◌∙◌, ap, ap₂, subst}
use mathlib.Core.List.{List, ◌++◌, map}
use Prim.Native.Nat.{ℕ, ◌+◌, ◌≤◌, ◌<◌}
use native.Mathlib.Omega.{arith}
use lib.ListN.{length, take, drop, get_or, set, length-take, length-drop, length-map}
use lib.Seq.{get_or-set_same}
use Rattle.definitions.specs.declared.Order.{Order}
use Rattle.definitions.specs.Words.{placed}
use Rattle.definitions.specs.Table.{rank_of}
use Rattle.definitions.specs.Occurrences.{listed_cuts, pattern_cuts}
use Rattle.lists.specs.Lists.{placed_length}
use Rattle.lists.specs.Parts.{part, part_agree, part_set_behind, lent_length, lent_before, lent_part}
use Rattle.lyndon.specs.Ranks.{slice_bytes}
use Rattle.layout.specs.Layout.{TABLE, FOUND, PATTERN, CUTS, NO_CUT, WORK}
use Rattle.state.specs.State.{Loaded}
use Rattle.joins.specs.Joining.{Tried}
use Rattle.rule_finds.specs.Searching.{Pattern, Counting}
use Rattle.rule_finds.proofs.Standing.{Outside, lent_outside, outside_set, placed_outside}
use Rattle.rule_finds.proofs.Counting.{tried_cuts}

pub pattern_here : (p : List ℕ) → 0 < length p → length p ≤ 2047 → ((i : ℕ) → i < length p → get_or p i 0 < 256) → Pattern p
pattern_here p h k b = record { filled = h; short = k; bytes = slice_bytes p b }

-- n words from o on are lent, and l is written at their front
module _ (w l z : List ℕ) (o n : ℕ) (low : FOUND ≤ o) (high : o + n ≤ TABLE) (long : TABLE ≤ length w) (room : length l ≤ n)
    (e : z ≡ placed l (take n (drop o w))) where
  size : length z ≡ n
  size =
      let lent : length (take n (drop o w)) ≡ n = simp (length-take, length-drop) (omega arith) in
      ap length e ∙ placed_length l (take n (drop o w)) (omega arith) ∙ lent

  written_outside : Outside w (take o w ++ (z ++ drop n (drop o w)))
  written_outside = lent_outside w z o n low high long size

  lent_here : part o (length l) (take o w ++ (z ++ drop n (drop o w))) ≡ l
  lent_here = lent_part w z o n (omega arith) size l e

  lent_earlier : take o (take o w ++ (z ++ drop n (drop o w))) ≡ take o w
  lent_earlier = lent_before w z o n (omega arith) size o (omega arith)

-- the pattern's ranks are written to v, then its n cuts to x, and NO_CUT behind them
module _ (o : Order) (p w z v y : List ℕ) (m k n : ℕ) (long : TABLE ≤ length w) (q : Pattern p) (e : m ≡ length p)
    (f : z ≡ placed (map (rank_of o) p) (take m (drop PATTERN w))) (g : v ≡ take PATTERN w ++ (z ++ drop m (drop PATTERN w)))
    (c : n ≡ length (pattern_cuts o p)) (few : length (pattern_cuts o p) ≤ k) (most : k ≤ 11) (d : y ≡ placed (pattern_cuts o p) (take k (drop CUTS v))) where
  abbrev x : List ℕ
  x = take CUTS v ++ (y ++ drop k (drop CUTS v))

  abbrev z' : List ℕ
  z' = set x (CUTS + n) NO_CUT

  behind : part PATTERN (length p) z' ≡ part PATTERN (length p) x
  behind = part_set_behind PATTERN (length p) x (CUTS + n) NO_CUT (omega (arith, q.short))

  ranks_size : length (map (rank_of o) p) ≡ length p
  ranks_size = length-map p (rank_of o)

  ranks_outside : Outside w v
  ranks_outside = subst (Outside w) (sym g) (written_outside w (map (rank_of o) p) z PATTERN m (omega arith) (omega (arith, q.short)) long (omega (arith, ranks_size)) f)

  cuts_outside : Outside v x
  cuts_outside = written_outside v (pattern_cuts o p) y CUTS k (omega arith) (omega arith) (omega (arith, ranks_outside.size)) few d

  ranks : part PATTERN (length p) x ≡ map (rank_of o) p
  ranks =
      part_agree CUTS PATTERN (length p) v x (lent_earlier v (pattern_cuts o p) y CUTS k (omega arith) (omega arith) (omega (arith, ranks_outside.size)) few d) (omega (arith, q.short))
      ∙ ap₂ {C = List ℕ} (λ i l. part PATTERN i l) (sym ranks_size) g
      ∙ lent_here w (map (rank_of o) p) z PATTERN m (omega arith) (omega (arith, q.short)) long (omega (arith, ranks_size)) f

  cuts : part CUTS (length (pattern_cuts o p)) x ≡ pattern_cuts o p
  cuts = lent_here v (pattern_cuts o p) y CUTS k (omega arith) (omega arith) (omega (arith, ranks_outside.size)) few d

  pub tried_start : Tried (length p) n z'
  tried_start = record {
    filled = q.filled;
    short = q.short;
    few = omega arith;
    cuts = part_set_behind CUTS n x (CUTS + n) NO_CUT (omega arith) ∙ ap (λ (i : ℕ). part CUTS i x) c ∙ cuts ∙ sym (ap listed_cuts (behind ∙ ranks) ∙ tried_cuts o p);
    end = get_or-set_same x (CUTS + n) NO_CUT 0 (omega (arith, cuts_outside.size, ranks_outside.size, long));
  }

  -- what is loaded stays
  pub counting_start : (text : List ℕ) (chair : ℕ) → Loaded o text chair w → Counting o p text chair (length p) n 0 z'
  counting_start text chair h = record {
    loaded = placed_outside o text chair x z' (outside_set x (CUTS + n) NO_CUT (omega arith) (omega arith)) (placed_outside o text chair v x cuts_outside (placed_outside o text chair w v ranks_outside h));
    pattern = q;
    size = refl;
    ranks = behind ∙ ranks;
    tried = tried_start;
    found = λ r l. absurd (omega arith);
  }

-- both are written into parts that are lent
pub cuts_length : (w z v y : List ℕ) (m k : ℕ) → WORK ≤ length w → m ≤ 2047 → length z ≡ length (take m (drop PATTERN w)) → v ≡ take PATTERN w ++ (z ++ drop m (drop PATTERN w))
    → k ≤ 11 → length y ≡ length (take k (drop CUTS v)) → length (take CUTS v ++ (y ++ drop k (drop CUTS v))) ≡ length w
cuts_length w z v y m k long short a e few b =
    let ranks : length (take m (drop PATTERN w)) ≡ m = simp (length-take, length-drop) (omega arith) in
    let size : length v ≡ length w = ap length e ∙ lent_length w z PATTERN m (omega arith) (a ∙ ranks) in
    let cuts : length (take k (drop CUTS v)) ≡ k = simp (length-take, length-drop) (omega (arith, size)) in
    lent_length v y CUTS k (omega (arith, size)) (b ∙ cuts) ∙ size
