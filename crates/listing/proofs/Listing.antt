-- Listing, rule by rule, once all are counted: nothing to list, one symbol, or the positions of a pair's left half, of the cut at its join, and of its
-- right half (`pair_listed`). Down the right halves what is listed so far and what the rest lists are all of the rule (`Remains`): at first (`all_remains`), from
-- a pair to its right half (`right_remains`), and once nothing is left (`none_remains`); and the whole (`root_done`).
use Rattle.std.specs.Prelude.{Option, unwrap_or}
use mathlib.Core.Path.{◌≡◌, refl, sym, ◌∙◌, ap, ap₂, subst}
use mathlib.Core.Bool.{Bool, true, false, cond, ◌&&◌}
use mathlib.Core.List.{List, [], ◌∷◌, ◌++◌, map}
use Prim.Native.Nat.{ℕ, ◌+◌, ◌-◌, ◌≤◌, ◌<◌}
use native.Mathlib.Omega.{arith}
use lib.ListN.{length, drop, length-append, length-map}
use lib.Dec.{eqb}
use Rattle.definitions.specs.Words.{below, begins, placed}
use Rattle.definitions.specs.Table.{rank_of, rule_string, rule_count}
use Rattle.definitions.specs.Occurrences.{occurrences}
use Rattle.lists.specs.Lists.{empty}
use Rattle.lyndon.specs.Stored.{rule_range}
use Rattle.layout.specs.Layout.{length_in, count_in, join_cut_in, Readable}
use Rattle.decoding.specs.declared.Rule.TheVariants.{Symbol, Pair}
use Rattle.decoding.specs.Decoding.{rule_in}
use Rattle.state.specs.State.{Loaded}
use Rattle.joins.specs.Joining.{cut_place}
use Rattle.rule_finds.specs.Found.{occurs_in}
use Rattle.listing.specs.Listing.{Finds, in_drive, cut_places, table_for, found_for, placed_from, Listable, Listed}
use Rattle.rule_finds.proofs.Standing.{PlacedHalves, placed_symbol, pair_stands, rule_stands}
use Rattle.rule_finds.proofs.Counting.{pair_occurs}
use Rattle.search.proofs.Ending.{root_occurs}
use Rattle.listing.proofs.Drives.{IsCut, cut_same, cut_number, drive_append, drive_behind, drive_cut, drive_marked}
use Rattle.listing.proofs.Entries.{from_start, from_none, from_both}

-- a pattern fits into one symbol at its start alone
one_place : (p : List ℕ) (a : ℕ) → 0 < length p → 1 ≤ length (occurrences p (a ∷ [])) → occurrences p (a ∷ []) ≡ 0 ∷ []
unfolding occurrences below begins
one_place [] a h l = absurd (omega arith)
one_place (b ∷ p) a h l = go (eqb b a && begins p []) l
  where
    go : (x : Bool) → 1 ≤ length (◌++◌ {A = ℕ} (cond x (0 ∷ []) []) []) → ◌++◌ {A = ℕ} (cond x (0 ∷ []) []) [] ≡ 0 ∷ []
    go true l = refl
    go false l = absurd (omega arith)

-- what the code reads of the pair of u and v
pub record PairLists (w : List ℕ) (r u v : ℕ) : Type 0 where
  pub left : u < r
  pub right : v < r
  pub size : length_in w r ≡ length_in w u + length_in w v
  pub cut : join_cut_in w r ≤ length_in w u

module _ (w : List ℕ) (h : Finds w) where
  loaded : Loaded h.order h.text h.chair w
  loaded = h.searched.loaded

  filled : 0 < length (map (rank_of h.order) h.pattern)
  filled = omega (arith, length-map h.pattern (rank_of h.order), h.searched.pattern.filled)

  finds_range : (0 < rule_count (table_for w h)) × (rule_count (table_for w h) ≤ 2304)
  finds_range = rule_range h.order h.text h.chair loaded.kept.stored

  rule_number : (r : ℕ) → r < rule_count (table_for w h) → count_in w r ≡ length (found_for w h r)
  unfolding found_for
  rule_number r low = (h.searched.found r low).number

  module _ (r : ℕ) (low : r < rule_count (table_for w h)) where
    none_listed : (first at : ℕ) → count_in w r ≡ 0 → in_drive first at (found_for w h r) ≡ []
    unfolding in_drive
    none_listed first at l = ap (in_drive first at) (empty (found_for w h r) (omega (arith, rule_number r low)))

    symbol_listed : (a b : ℕ) → (count_in w r ≡ 0 → ⊥) → rule_in w r ≡ Symbol a b → found_for w h r ≡ 0 ∷ []
    unfolding found_for occurs_in
    symbol_listed a b l e =
        let string = (placed_symbol h.order h.text h.chair w loaded r low a b e).string h.order in
        let p = map (rank_of h.order) h.pattern in
        ap (occurrences p) string
        ∙ one_place p _ filled (omega (arith, (h.searched.found r low).number, ap (λ (x : List ℕ). length (occurrences p x)) string))

    module _ (u v : ℕ) (e : rule_in w r ≡ Pair u v) where
      halves : PlacedHalves h.order (table_for w h) r u v w
      halves = pair_stands h.order h.text h.chair w loaded r low u v e

      -- what is found in the halves and at the join
      found_pair : found_for w h r ≡ found_for w h u ++ (cut_place (length_in w u) (join_cut_in w r) ++ map (λ (i : ℕ). length_in w u + i) (found_for w h v))
      unfolding found_for
      found_pair =
          pair_occurs h.order (table_for w h) (map (rank_of h.order) h.pattern) r u v (length_in w u) (join_cut_in w r) halves.pair halves.left_size filled
          ((h.searched.found r low).cut halves.pair.is_pair_lem)

      low_cut : join_cut_in w r ≤ length_in w u
      low_cut = omega (arith, (h.searched.found r low).inside halves.pair.is_pair_lem, ap length (halves.pair.left_half_lem h.order), halves.left_size)

      pair_listed : (first at join c : ℕ) → join ≡ at + length_in w u → c ≡ join_cut_in w r
          → in_drive first at (found_for w h r) ≡ in_drive first at (found_for w h u) ++ (in_drive first 0 (cut_place join c) ++ in_drive first join (found_for w h v))
      pair_listed first at join c q d =
          let n = length_in w u in
          let k = join_cut_in w r in
          let y = found_for w h v in
          ap (in_drive first at) found_pair
          ∙ drive_append first at (found_for w h u) (cut_place n k ++ map (λ (i : ℕ). n + i) y)
          ∙ ap (λ (l : List ℕ). in_drive first at (found_for w h u) ++ l)
          (drive_append first at (cut_place n k) (map (λ (i : ℕ). n + i) y)
          ∙ ap₂ {C = List ℕ} (λ a b. a ++ b) (drive_cut first at n k low_cut) (drive_behind first at n y)
          ∙ ap₂ {C = List ℕ} (λ i j. in_drive first 0 (cut_place i j) ++ in_drive first i y) (sym q) (sym d))

      -- and how many that are
      pair_number : (first at join c : ℕ) → join ≡ at + length_in w u → c ≡ join_cut_in w r
          → length (in_drive first at (found_for w h r)) ≡ length (in_drive first at (found_for w h u)) + (length (in_drive first 0 (cut_place join c)) + length (in_drive first join (found_for w h v)))
      pair_number first at join c q d =
          let x = in_drive first at (found_for w h u) in
          let y = in_drive first 0 (cut_place join c) in
          let z = in_drive first join (found_for w h v) in
          ap length (pair_listed first at join c q d) ∙ length-append x (y ++ z) ∙ ap (λ (i : ℕ). length x + i) (length-append y z)

      pair_lists : PairLists w r u v
      pair_lists =
          let p = halves.pair in
          let left = p.left in
          let right = p.right in
          record {
            left = left;
            right = right;
            size =
                omega (
                  arith,
                  loaded.sizes r low,
                  ap length (p.string h.order),
                  length-append (rule_string h.order (table_for w h) u) (rule_string h.order (table_for w h) v),
                  halves.left_size,
                  halves.right_size,
                );
            cut = low_cut;
          }

  -- the root's string is the marked text
  root_listed : (from rules : ℕ) → rules ≡ rule_count (table_for w h) → in_drive (from + 1) 0 (found_for w h (rules - 1)) ≡ occurrences h.pattern (drop from h.text)
  unfolding found_for
  root_listed from rules e =
      ap (λ (i : ℕ). in_drive (from + 1) 0 (occurs_in h.order (table_for w h) (map (rank_of h.order) h.pattern) (i - 1))) e
      ∙ ap (in_drive (from + 1) 0) (root_occurs h.order h.pattern h.text h.chair w loaded h.searched.pattern)
      ∙ drive_marked from h.pattern h.text h.searched.pattern.filled

-- ---- a rule

module _ {w : List ℕ} {first r at n entries : ℕ} (l : Listable w first r at n entries) where
  pub lists_known : Readable w r
  lists_known = record { low = omega (arith, l.low, finds_range w l.finds); long = l.finds.searched.loaded.kept.long }

  pub list_none : (old : List ℕ) → count_in w r ≡ 0 → Listed w first r at n n old old
  list_none old k =
      record {
        number = λ h low. omega (arith, ap length (none_listed w h r low first at k));
        front = λ h low. sym (ap (λ (x : List ℕ). placed_from n x old) (none_listed w h r low first at k) ∙ from_none n old);
      }

  module _ (a b : ℕ) (k : count_in w r ≡ 0 → ⊥) (s : rule_in w r ≡ Symbol a b) where
    -- one place, which is listed unless it is passed over
    pub symbol_fits : n + length (in_drive first at (0 ∷ [])) ≤ entries
    symbol_fits = subst (λ (x : List ℕ). n + length (in_drive first at x) ≤ entries) (symbol_listed w l.finds r l.low a b k s) l.room

    pub list_symbol : (m : ℕ) (old new : List ℕ) → m ≡ n + length (in_drive first at (0 ∷ [])) → new ≡ placed_from n (in_drive first at (0 ∷ [])) old → Listed w first r at n m old new
    list_symbol m old new e f =
        record {
          number = λ h low. e ∙ ap (λ (x : List ℕ). n + length (in_drive first at x)) (sym (symbol_listed w h r low a b k s));
          front = λ h low. f ∙ ap (λ (x : List ℕ). placed_from n (in_drive first at x) old) (sym (symbol_listed w h r low a b k s));
        }

  module _ (u v : ℕ) (k : rule_in w r ≡ Pair u v) where
    pub list_pair : PairLists w r u v
    list_pair = pair_lists w l.finds r l.low u v k

    pub list_left : Listable w first u at n entries
    list_left =
        let q = list_pair in
        record {
          finds = l.finds;
          low = omega (arith, q.left, l.low);
          inside = omega (arith, q.size, l.inside);
          room = omega (arith, pair_number w l.finds r l.low u v k first at (at + length_in w u) (join_cut_in w r) refl refl, l.room);
        }

-- ---- down the right halves

-- the slice holds `now`, and the rest, at `place`, is still to be listed behind n entries: what that leaves is what listing r behind n₀ entries of `old` leaves
pub record Remains (w : List ℕ) (first r at n₀ : ℕ) (old : List ℕ) (rest place n : ℕ) (now : List ℕ) : Type 0 where
  pub listable : Listable w first rest place n (length now)
  pub falls : rest ≤ r
  pub number : (h : Finds w) → r < rule_count (table_for w h) → n + length (in_drive first place (found_for w h rest)) ≡ n₀ + length (in_drive first at (found_for w h r))
  pub size : length now ≡ length old
  pub front : (h : Finds w) → r < rule_count (table_for w h) → placed_from n (in_drive first place (found_for w h rest)) now ≡ placed_from n₀ (in_drive first at (found_for w h r)) old

pub all_remains : {w : List ℕ} {first r at n : ℕ} (old : List ℕ) → Listable w first r at n (length old) → Remains w first r at n old r at n old
all_remains old l = record { listable = l; falls = omega arith; number = λ h low. refl; size = refl; front = λ h low. refl }

module _ {w : List ℕ} {first r at n₀ : ℕ} {old : List ℕ} {rest place n : ℕ} {now : List ℕ} (q : Remains w first r at n₀ old rest place n now) where
  pub none_remains : (m : ℕ) (new : List ℕ) → Listed w first rest place n m now new → Listed w first r at n₀ m old new
  none_remains m new a =
      record {
        number = λ h low. a.number h (omega (arith, q.falls)) ∙ q.number h low;
        front = λ h low. a.front h (omega (arith, q.falls)) ∙ q.front h low;
      }

  module _ (u v : ℕ) (k : rule_in w rest ≡ Pair u v) (join : ℕ) (e : join ≡ place + length_in w u) (o : Option ℕ) (d : IsCut o (join_cut_in w rest)) where
    cut : cut_places join o ≡ cut_place join (join_cut_in w rest)
    cut = cut_same join (join_cut_in w rest) o d

    pair : PairLists w rest u v
    pair = list_pair q.listable u v k

    -- what is listed of the rest, in its parts
    parts : (h : Finds w) → rest < rule_count (table_for w h)
        → length (in_drive first place (found_for w h rest)) ≡ length (in_drive first place (found_for w h u)) + (length (in_drive first 0 (cut_places join o)) + length (in_drive first join (found_for w h v)))
    parts h low = rw cut (pair_number w h rest low u v k first place join (join_cut_in w rest) e refl)

    pub cut_fits : (m : ℕ) (mid : List ℕ) → length mid ≡ length now → Listed w first u place n m now mid
        → (unwrap_or o 0 ≤ join) × (join ≤ 2048) × (m + length (in_drive first 0 (cut_places join o)) ≤ length mid)
    cut_fits m mid s a =
        let l = q.listable in (
          omega (arith, pair.cut, cut_number (join_cut_in w rest) o d),
          omega (arith, pair.size, l.inside),
          omega (arith, a.number l.finds (omega (arith, pair.left, l.low)), parts l.finds l.low, l.room),
        )

    pub right_remains : (m i : ℕ) (mid new : List ℕ) → length mid ≡ length now → length new ≡ length mid → Listed w first u place n m now mid
        → i ≡ m + length (in_drive first 0 (cut_places join o)) → new ≡ placed_from m (in_drive first 0 (cut_places join o)) mid → Remains w first r at n₀ old v join i new
    right_remains m i mid new s l a g f =
        let b = q.listable in
        record {
          listable =
              record {
                finds = b.finds;
                low = omega (arith, pair.right, b.low);
                inside = omega (arith, pair.size, b.inside);
                room = omega (arith, a.number b.finds (omega (arith, pair.left, b.low)), parts b.finds b.low, b.room);
              };
          falls = omega (arith, pair.right, q.falls);
          number = λ h low. omega (arith, a.number h (omega (arith, pair.left, q.falls)), parts h (omega (arith, q.falls)), q.number h low);
          size = l ∙ s ∙ q.size;
          front = behind;
        }
      where
        behind : (h : Finds w) → r < rule_count (table_for w h) → placed_from i (in_drive first join (found_for w h v)) new ≡ placed_from n₀ (in_drive first at (found_for w h r)) old
        behind h low =
            let x = in_drive first place (found_for w h u) in
            let y = in_drive first 0 (cut_places join o) in
            let z = in_drive first join (found_for w h v) in
            let b = q.listable in
            let rest-low : rest < rule_count (table_for w h) = omega (arith, q.falls) in
            let left_low : u < rule_count (table_for w h) = omega (arith, pair.left) in
            ap (placed_from i z) f
            ∙ from_both m y mid (cut_fits m mid s a).2 z i g
            ∙ ap (placed_from m (y ++ z)) (a.front h left_low)
            ∙ from_both n x now (omega (arith, (cut_fits m mid s a).2, a.number h left_low)) (y ++ z) m (a.number h left_low)
            ∙ ap (λ (p : List ℕ). placed_from n p now) (ap (λ (c : List ℕ). x ++ (in_drive first 0 c ++ z)) cut ∙ sym (pair_listed w h rest rest-low u v k first place join (join_cut_in w rest) e refl))
            ∙ q.front h low

-- ---- the whole

module _ {w : List ℕ} (h : Finds w) (from rules : ℕ) (e : rules ≡ rule_count (table_for w h)) where
  abbrev all : List ℕ
  all = occurrences h.pattern (drop from h.text)

  root_low : rules - 1 < rule_count (table_for w h)
  root_low = omega (arith, finds_range w h)

  pub root_some : 0 < rules
  root_some = omega (arith, finds_range w h)

  pub root_lists : (n : ℕ) → length all ≤ n → Listable w (from + 1) (rules - 1) 0 0 n
  root_lists n k =
      record {
        finds = h;
        low = root_low;
        inside = omega (arith, h.searched.loaded.sizes (rules - 1) root_low, (rule_stands h.order h.text h.chair w h.searched.loaded (rules - 1) root_low).0);
        room = omega (arith, ap length (root_listed w h from rules e));
      }

  pub root_done : (m : ℕ) (old new : List ℕ) → Listed w (from + 1) (rules - 1) 0 0 m old new → (m ≡ length all) × (new ≡ placed all old)
  root_done m old new l = (
    omega (arith, l.number h root_low, ap length (root_listed w h from rules e)),
    l.front h root_low ∙ from_start (in_drive (from + 1) 0 (found_for w h (rules - 1))) old ∙ ap (λ (x : List ℕ). placed x old) (root_listed w h from rules e),
  )
