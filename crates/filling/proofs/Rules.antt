-- One rule more is written at its place: a symbol by a store (`symbol_written`), a pair by two copies, once its halves can be compared there (`pair_written`,
-- `pair_judged`); where they are not in order the table is no drive's. The first rule is the mark (`mark_written`), a later symbol is a sample (`sample_number`).
use mathlib.Core.Path.{◌≡◌, refl, sym, ◌∙◌, ap, subst}
use mathlib.Core.Bool.{Bool, true, false}
use mathlib.Core.List.{List}
use Prim.Native.Nat.{ℕ, ◌+◌, ◌*◌, ◌≤◌, ◌<◌}
use native.Mathlib.Omega.{arith}
use native.Mathlib.Numerals.{add-one}
use lib.ListN.{length, get_or, set}
use Rattle.definitions.specs.declared.Order.{Order}
use Rattle.definitions.specs.Words.{every}
use Rattle.definitions.specs.Table.{rank_of_number, word_of, rule_string, spelled, rule_count, is_table}
use Rattle.lists.specs.Bools.{contra, not_so, and_intro}
use Rattle.lists.specs.Numbers.{split_le, split_lt, every_at}
use Rattle.lists.specs.Parts.{Filled, filled_set}
use Rattle.lyndon.specs.Shapes.{string_filled}
use Rattle.lyndon.specs.Ruled.{SymbolOf, PairOf, Ruled, symbol, pair, ruled}
use Rattle.lyndon.specs.Standard.{ordered, ordered_symbol}
use Rattle.lyndon.specs.Filling.{Stands, half_places, symbol_word, symbol_filled, pair_filled, filled_stands}
use Rattle.lyndon.specs.Judging.{judged}
use Rattle.layout.specs.Layout.{PLACES, length_in, place_in}
use Rattle.lengths.proofs.Sizes.{rules_few}
use Rattle.entries.specs.Entries.{Placed}
use Rattle.entries.proofs.Steps.{spelled_short}
use Rattle.halves.specs.Halves.{Written}
use Rattle.filling.specs.Filling.{copied, Copyable, OneMark, Filling}
use Rattle.filling.proofs.Areas.{Behind, behind_set, behind_both, placed_same, Copied, rule_copied}

-- no rule is written yet
fill_start : (o : Order) (t w : List ℕ) → Placed t w → Filling o t 0 w
unfolding every
fill_start o t w p = record { placed = p; filled = λ q h. absurd (omega arith); standard = refl }

-- rule q stands at its place and at x, so it can be copied
copyable : (o : Order) (t w : List ℕ) (q x : ℕ) → Placed t w → q < rule_count t → Stands (spelled o t) (rule_string o t q) x → Copyable w q x
copyable o t w q x p h at =
    let few = rules_few p.sized.lent in
    let short = spelled_short p.sized o in
    let size = p.sized.sizes o q h in
    record {
      low = omega arith;
      long = p.sized.lent.long;
      filled = omega (arith, string_filled o t p.sized.lent.shaped q h);
      inside = omega (arith, (p.places q h o).inside);
      room = omega (arith, at.inside);
    }

-- the number of a symbol that is not the mark
pub sample_number : {t : List ℕ} {r a b : ℕ} → SymbolOf t r a b → (get_or t (2 * r) 0 ≡ 0 → ⊥) → (0 < a) × (a < 257)
unfolding word_of
sample_number {t} {r} {a} p n = (split_le a 0 (λ l. absurd (n (omega (arith, p.first)))) (λ l. l), p.number)

-- rule r, which stands at `start`
module _ {o : Order} {t w : List ℕ} {r : ℕ} (k : Filling o t r w) (h : r < rule_count t) where
  abbrev start : ℕ
  start = place_in w r

  here : Stands (spelled o t) (rule_string o t r) start
  here = k.placed.places r h o

  pub place_room : (r < 2304) × (start < 2048)
  place_room =
      let few = rules_few k.placed.sized.lent in
      (omega arith, omega (arith, here.inside, spelled_short k.placed.sized o, string_filled o t k.placed.sized.lent.shaped r h))

  more : (v : List ℕ) → Behind w v → ((a m : ℕ) → Filled (spelled o t) w a m → Filled (spelled o t) v a m)
      → Filled (spelled o t) v start (length (rule_string o t r)) → ordered o t r ≡ true → Filling o t (r + 1) v
  unfolding every
  more v b keeps f e =
      let at : (q x : ℕ) → x ≡ place_in w q → Filled (spelled o t) v x (length (rule_string o t q)) → Filled (spelled o t) v (place_in v q) (length (rule_string o t q)) =
      λ q x d g. subst (λ (i : ℕ). Filled (spelled o t) v i (length (rule_string o t q))) (d ∙ sym (b.same (PLACES + q) (omega arith))) g in
      record {
        placed = placed_same b k.placed;
        filled = λ q l. split_lt q r
            (λ m. at q (place_in w q) refl (keeps (place_in w q) (length (rule_string o t q)) (k.filled q m)))
            (λ m. at q start (ap (place_in w) (sym m)) (subst (λ (i : ℕ). Filled (spelled o t) v start (length (rule_string o t i))) (sym m) f))
            (λ m. absurd (omega arith));
        standard = rw add-one (and_intro (every (ordered o t) r) (ordered o t r) k.standard e);
      }

  unordered : ordered o t r ≡ false → is_table o t ≡ false
  unordered f = not_so (is_table o t) (λ a. contra (every_at (ordered o t) (rule_count t) ((judged o t k.placed.sized.lent.shaped).0 a).standard r h) f)

  pub symbol_written : (a b : ℕ) → SymbolOf t r a b → (x : ℕ) → x ≡ rank_of_number o a → Filling o t (r + 1) (set w start x)
  symbol_written a b p x e =
      let low = place_room.1 in
      rw e
      (more (set w start (rank_of_number o a)) (behind_set w start (rank_of_number o a) low)
      (λ i m g. filled_set (spelled o t) w i m start (rank_of_number o a) 0 (symbol_word o (spelled o t) start here p) g)
      (symbol_filled o (spelled o t) start here p w (omega (arith, k.placed.sized.lent.long)))
      (ordered_symbol o p))

  -- it is a pair, whose right half stands at `behind`
  module _ (u v : ℕ) (p : PairOf t r u v) where
    left_low : u < rule_count t
    left_low = omega (arith, p.left)

    right_low : v < rule_count t
    right_low = omega (arith, p.right)

    left_size : length_in w u ≡ length (rule_string o t u)
    left_size = k.placed.sized.sizes o u left_low

    pub left_room : (u < 2304) × (v < 2304) × (start + length_in w u ≤ 2048)
    left_room =
        let few = rules_few k.placed.sized.lent in
        let l = p.left in
        let m = p.right in
        (omega arith, omega arith, omega (arith, left_size, (half_places o (spelled o t) start here p).0.inside, spelled_short k.placed.sized o))

    left_here : Stands (spelled o t) (rule_string o t u) start
    left_here = (half_places o (spelled o t) start here p).0

    pub left_copyable : Copyable w u start
    left_copyable = copyable o t w u start k.placed left_low left_here

    abbrev behind : ℕ
    behind = start + length_in w u

    module _ (x : List ℕ) (e : x ≡ copied w (place_in w u) start (length_in w u)) where
      next : behind ≡ start + length (rule_string o t u)
      next = ap (λ (n : ℕ). start + n) left_size

      right_here : Stands (spelled o t) (rule_string o t v) behind
      right_here = subst (Stands (spelled o t) (rule_string o t v)) (sym next) (half_places o (spelled o t) start here p).1

      first : Copied o t w x u start
      first = rule_copied x u start k.placed left_low (k.filled u p.left) left_here e

      placed : Placed t x
      placed = placed_same first.behind k.placed

      pub right_copyable : Copyable x v behind
      right_copyable = copyable o t x v behind placed right_low right_here

      module _ (y : List ℕ) (f : y ≡ copied x (place_in x v) behind (length_in x v)) where
        second : Copied o t x y v behind
        second = rule_copied y v behind placed right_low
            (subst (λ (i : ℕ). Filled (spelled o t) x i (length (rule_string o t v))) (sym (first.behind.same (PLACES + v) (omega arith))) (first.keeps (place_in w v) (length (rule_string o t v)) (k.filled v p.right)))
            right_here f

        whole : Filled (spelled o t) y start (length (rule_string o t r))
        whole = pair_filled o (spelled o t) start here p y
            (second.keeps start (length (rule_string o t u)) first.fills)
            (subst (λ (i : ℕ). Filled (spelled o t) y i (length (rule_string o t v))) next second.fills)

        both : Behind w y
        both = behind_both first.behind second.behind

        pub pair_written : Written t y u v start behind
        pair_written = record {
          order = o;
          rule = r;
          placed = placed_same both k.placed;
          low = h;
          pair = p;
          stands = filled_stands (spelled o t) y (rule_string o t r) start (omega (arith, spelled_short k.placed.sized o, both.size, k.placed.sized.lent.long)) here whole;
          next = next;
          inside = omega (arith, here.inside, spelled_short k.placed.sized o);
        }

        pub pair_judged : (b : Bool) → ((g : Written t y u v start behind) → b ≡ ordered g.order t g.rule) → (b ≡ true → Filling o t (r + 1) y) × (b ≡ false → is_table o t ≡ false)
        unfolding pair_written
        pair_judged b g = (
          λ q. more y both (λ i m d. second.keeps i m (first.keeps i m d)) whole (sym (g pair_written) ∙ q),
          λ q. unordered (sym (g pair_written) ∙ q),
        )

-- ---- the first rule, which is the mark

module _ (o : Order) (t w : List ℕ) (p : Placed t w) where
  first_low : 0 < rule_count t
  first_low = omega (arith, p.sized.lent.shaped.even, p.sized.lent.shaped.filled)

  pub mark_room : place_in w 0 < length w
  mark_room = omega (arith, (place_room (fill_start o t w p) first_low).1, p.sized.lent.long)

  pub mark_written : OneMark t → Filling o t 1 (set w (place_in w 0) 0)
  unfolding word_of rank_of_number
  mark_written m = go (ruled t p.sized.lent.shaped 0 first_low)
    where
      go : Ruled t 0 → Filling o t 1 (set w (place_in w 0) 0)
      go (symbol a b q) =
          let none : 0 ≡ a = omega (arith, m.mark, q.first) in
          symbol_written (fill_start o t w p) first_low a b q 0 (ap (rank_of_number o) none)
      go (pair x y q) = absurd (omega (arith, q.left))
