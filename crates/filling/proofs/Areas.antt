-- Stores among the ranks leave lengths and places as they are (`placed_same`), so a rule that is copied to where it stands too is written there, and what was
-- written stays (`rule_copied`).
use mathlib.Core.Path.{◌≡◌, sym, ◌∙◌, ap, subst}
use mathlib.Core.List.{List}
use Prim.Native.Nat.{ℕ, ◌+◌, ◌≤◌, ◌<◌}
use native.Mathlib.Omega.{arith}
use lib.ListN.{length, get_or, set, length-set}
use lib.Seq.{get_or-set_other}
use Rattle.definitions.specs.declared.Order.{Order}
use Rattle.definitions.specs.Table.{rule_string, spelled, rule_count}
use Rattle.lists.specs.Parts.{Filled, part_at}
use Rattle.lyndon.specs.Filling.{Stands}
use Rattle.layout.specs.Layout.{LENGTHS, PLACES, length_in, place_in}
use Rattle.entries.specs.Entries.{Placed}
use Rattle.entries.proofs.Steps.{spelled_short}
use Rattle.filling.specs.Filling.{copied}
use Rattle.filling.proofs.Copies.{copied_length, copied_behind, copied_keeps, copied_fills}

-- the words behind the ranks are the same
pub record Behind (w v : List ℕ) : Type 0 where
  pub size : length v ≡ length w
  pub same : (i : ℕ) → LENGTHS ≤ i → get_or v i 0 ≡ get_or w i 0

pub behind_set : (w : List ℕ) (i x : ℕ) → i < LENGTHS → Behind w (set w i x)
behind_set w i x h = record { size = simp length-set; same = λ j l. get_or-set_other w i j x 0 (λ e. omega arith) }

pub behind_copied : (w : List ℕ) (from to n : ℕ) → to + n ≤ LENGTHS → Behind w (copied w from to n)
behind_copied w from to n h = record { size = copied_length w from to n; same = λ j l. copied_behind w from to n LENGTHS j h l }

pub behind_both : {w v x : List ℕ} → Behind w v → Behind v x → Behind w x
behind_both a b = record { size = b.size ∙ a.size; same = λ i l. b.same i l ∙ a.same i l }

module _ {t w v : List ℕ} (b : Behind w v) where
  pub placed_same : Placed t w → Placed t v
  placed_same p =
      let s = p.sized in
      record {
        sized = record {
          lent = record { shaped = s.lent.shaped; few = s.lent.few; long = omega (arith, b.size, s.lent.long) };
          short = λ r h. omega (arith, b.same (LENGTHS + r) (omega arith), s.short r h);
          sizes = λ o r h. b.same (LENGTHS + r) (omega arith) ∙ s.sizes o r h;
        };
        met = p.met;
        places = λ r h o. subst (Stands (spelled o t) (rule_string o t r)) (sym (b.same (PLACES + r) (omega arith))) (p.places r h o);
      }

-- where a string stands twice, the words at the one place are those at the other
stands_twice : (s y : List ℕ) (x z : ℕ) → Stands s y x → Stands s y z → (i : ℕ) → i < length y → get_or s (x + i) 0 ≡ get_or s (z + i) 0
stands_twice s y x z k l i h =
    sym (part_at x (length y) s i 0 h) ∙ ap (λ (a : List ℕ). get_or a i 0) (k.same ∙ sym l.same) ∙ part_at z (length y) s i 0 h

-- rule q, which is written at its place, is copied to x, where it stands too
pub record Copied (o : Order) (t w v : List ℕ) (q x : ℕ) : Type 0 where
  pub behind : Behind w v
  pub keeps : (a m : ℕ) → Filled (spelled o t) w a m → Filled (spelled o t) v a m
  pub fills : Filled (spelled o t) v x (length (rule_string o t q))

pub rule_copied : {o : Order} {t w : List ℕ} (v : List ℕ) (q x : ℕ) → Placed t w → q < rule_count t → Filled (spelled o t) w (place_in w q) (length (rule_string o t q))
    → Stands (spelled o t) (rule_string o t q) x → v ≡ copied w (place_in w q) x (length_in w q) → Copied o t w v q x
rule_copied {o} {t} {w} v q x p h f at e =
    let s = spelled o t in
    let y = rule_string o t q in
    let z = place_in w q in
    let short = spelled_short p.sized o in
    let right = stands_twice s y z x (p.places q h o) at in
    let same : v ≡ copied w z x (length y) = e ∙ ap (copied w z x) (p.sized.sizes o q h) in
    rw same record {
      behind = behind_copied w z x (length y) (omega (arith, at.inside));
      keeps = copied_keeps s w z x (length y) right f;
      fills = copied_fills s w z x (length y) right f (omega (arith, at.inside, p.sized.lent.long)) at.inside;
    }
