-- The end of loading: what stands at the front is what the table spells (`front_spelled`), so the mark at its front, and nowhere else, is the last thing
-- to judge (`unmarked`, `marked_sound`); then the table is copied behind, and the text is loaded (`kept_loaded`).
use mathlib.Core.Path.{◌≡◌, refl, sym, ◌∙◌, ap, subst}
use mathlib.Core.Bool.{true, false}
use mathlib.Core.List.{List, ◌++◌, append_assoc}
use Prim.Native.Nat.{ℕ, suc, ◌+◌, ◌-◌, ◌≤◌, ◌<◌}
use native.Mathlib.Omega.{arith}
use native.Mathlib.Nat.{zero-add}
use lib.ListN.{length, take, drop, get_or, length-append, length-take, length-drop}
use lib.Seq.{get_or-take, take-length, drop_at, length-take-le}
use Rattle.std.specs.declared.result.Result.TheVariants.{Ok, Err}
use Rattle.definitions.specs.declared.Order.{Order}
use Rattle.definitions.specs.declared.Refusal.TheVariants.{NotATable}
use Rattle.definitions.specs.Words.{placed}
use Rattle.definitions.specs.Table.{rule_string, spelled, text_of, chair_of, is_table, rule_count}
use Rattle.definitions.specs.Services.{outcome_of, refusal_number, refusal_place}
use Rattle.lists.specs.Bools.{contra, not_so}
use Rattle.lists.specs.Parts.{part, part_at, part_agree, part_front, lent_before, lent_length}
use Rattle.lyndon.specs.Ranks.{marked_length}
use Rattle.lyndon.specs.Stored.{accepted_stored, accepted_spelled, accepted_table}
use Rattle.lyndon.specs.Shapes.{string_filled}
use Rattle.lyndon.specs.Marks.{marked_is, is_marked_lem}
use Rattle.lyndon.specs.Filling.{Stands}
use Rattle.lyndon.specs.Judging.{judged}
use Rattle.layout.specs.Layout.{LENGTHS, PLACES, TABLE, WORK, length_in, place_in}
use Rattle.lengths.proofs.Sizes.{rules_few}
use Rattle.entries.proofs.Steps.{spelled_length, spelled_short}
use Rattle.state.specs.State.{Loaded}
use Rattle.tables.specs.Loading.{Front, Spelled, Judged}

-- ---- answers

pub refused : (o : Order) (t v : List ℕ) → is_table o t ≡ false → Judged o t v (Err NotATable)
unfolding outcome_of refusal_number refusal_place
refused o t v e = record { answer = rw e refl; loaded = λ q. contra q e }

pub accepted : (o : Order) (t v : List ℕ) → is_table o t ≡ true → Loaded o (text_of o t) (chair_of t) v → Judged o t v (Ok (rule_count t))
unfolding outcome_of
accepted o t v e l = record { answer = rw e refl; loaded = λ q. l }

-- ---- all rules are written

module _ {t w : List ℕ} (k : Spelled t w) where
  root : ℕ
  root = rule_count t - 1

  root_low : root < rule_count t
  unfolding root
  root_low = omega (arith, k.filling.placed.sized.lent.shaped.even, k.filling.placed.sized.lent.shaped.filled)

  -- how many symbols the root spells
  pub front_size : (n : ℕ) → n ≡ length_in w (rule_count t - 1) → (n ≡ length (spelled k.order t)) × (n ≤ 2048) × (rule_count t ≤ 2304) × (0 < rule_count t)
  unfolding root
  front_size n e =
      let few = rules_few k.filling.placed.sized.lent in
      let some = root_low in
      let size = e ∙ spelled_length k.filling.placed.sized k.order in
      (size, omega (arith, spelled_short k.filling.placed.sized k.order), few, omega arith)

  pub front_filled : (n : ℕ) → n ≡ length_in w (rule_count t - 1) → 0 < n
  unfolding spelled root
  front_filled n e = omega (arith, (front_size n e).0, string_filled k.order t k.filling.placed.sized.lent.shaped root root_low)

  pub front_spelled : part 0 (length (spelled k.order t)) w ≡ spelled k.order t
  unfolding spelled root part
  front_spelled =
      let s = rule_string k.order t root in
      let at = k.filling.placed.places root root_low k.order in
      let zero-place : place_in w root ≡ 0 = omega (arith, at.inside) in
      subst (λ (x : ℕ). part x (length s) w ≡ part x (length s) s) zero-place (k.filling.filled root root_low) ∙ take-length s

  at_front : (i : ℕ) → i < length (spelled k.order t) → get_or (spelled k.order t) i 0 ≡ get_or w i 0
  at_front i h =
      ap (λ (l : List ℕ). get_or l i 0) (sym front_spelled)
      ∙ part_at 0 (length (spelled k.order t)) w i 0 h
      ∙ ap (λ (j : ℕ). get_or w j 0) (zero-add i)

  module _ (n : ℕ) (e : n ≡ length_in w (rule_count t - 1)) where
    pub unmarked : (Front w n → ⊥) → is_table k.order t ≡ false
    unmarked never = not_so (is_table k.order t) (λ a.
        let f = marked_is (spelled k.order t) ((judged k.order t k.filling.placed.sized.lent.shaped).0 a).root in
        let size = (front_size n e).0 in
        never (record {
          mark = sym (at_front 0 f.filled) ∙ f.mark;
          samples = λ i l h. subst (λ (z : ℕ). 0 < z) (at_front i (omega arith)) (f.samples i l (omega arith));
        }))

    pub marked_sound : 0 < n → Front w n → is_table k.order t ≡ true
    marked_sound some f =
        let (size, short, few, _) = front_size n e in
        (judged k.order t k.filling.placed.sized.lent.shaped).1 (record {
          root = is_marked_lem (spelled k.order t) (record {
            filled = omega arith;
            short = omega arith;
            mark = at_front 0 (omega arith) ∙ f.mark;
            samples = λ i l h. subst (λ (z : ℕ). 0 < z) (sym (at_front i h)) (f.samples i l (omega arith));
          });
          distinct = k.new;
          standard = k.filling.standard;
          met = k.filling.placed.met;
        })

  -- ---- the table is copied behind

  module _ (a : is_table k.order t ≡ true) (z : List ℕ) (e : z ≡ placed t (take 4608 (drop TABLE w))) where
    long : WORK ≤ length w
    long = k.filling.placed.sized.lent.long

    area : length (take 4608 (drop TABLE w)) ≡ 4608
    area = simp (length-take, length-drop) (omega (arith, long))

    copied_size : length z ≡ 4608
    unfolding placed
    copied_size = ap length e ∙ simp (length-append, length-drop) (omega (arith, area, k.filling.placed.sized.lent.few))

    before : take TABLE (take TABLE w ++ (z ++ drop 4608 (drop TABLE w))) ≡ take TABLE w
    before = lent_before w z TABLE 4608 (omega (arith, long)) copied_size TABLE (omega arith)

    at_same : (i : ℕ) → i < TABLE → get_or (take TABLE w ++ (z ++ drop 4608 (drop TABLE w))) i 0 ≡ get_or w i 0
    at_same i h =
        let v = take TABLE w ++ (z ++ drop 4608 (drop TABLE w)) in
        sym (get_or-take TABLE v i 0 h) ∙ ap (λ (l : List ℕ). get_or l i 0) before ∙ get_or-take TABLE w i 0 h

    behind : part TABLE (length t) (take TABLE w ++ (z ++ drop 4608 (drop TABLE w))) ≡ t
    unfolding placed
    behind =
        part_front TABLE (length t) (take TABLE w ++ (z ++ drop 4608 (drop TABLE w))) t (drop (length t) (take 4608 (drop TABLE w)) ++ drop 4608 (drop TABLE w))
        (drop_at (take TABLE w) (z ++ drop 4608 (drop TABLE w)) TABLE (length-take-le TABLE w (omega (arith, long)))
        ∙ ap (λ (l : List ℕ). l ++ drop 4608 (drop TABLE w)) e
        ∙ append_assoc t (drop (length t) (take 4608 (drop TABLE w))) (drop 4608 (drop TABLE w)))
        refl

    pub kept_loaded : Loaded k.order (text_of k.order t) (chair_of t) (take TABLE w ++ (z ++ drop 4608 (drop TABLE w)))
    kept_loaded =
        let o = k.order in
        let v = take TABLE w ++ (z ++ drop 4608 (drop TABLE w)) in
        let same = accepted_table o t a in
        let text = accepted_spelled o t a in
        let few = rules_few k.filling.placed.sized.lent in
        let short = spelled_short k.filling.placed.sized o in
        let size : suc (length (text_of o t)) ≡ length (spelled o t) = omega (arith, marked_length o (text_of o t), ap length text) in
        record {
          kept = record {
            long = omega (arith, lent_length w z TABLE 4608 (omega (arith, long)) copied_size, long);
            stored = accepted_stored o t a;
            ranks = ap (λ (n : ℕ). part 0 n v) size ∙ part_agree TABLE 0 (length (spelled o t)) w v before (omega arith) ∙ front_spelled ∙ text;
            table = rw same behind;
          };
          sizes = λ r l. let low = subst (λ (x : List ℕ). r < rule_count x) same l in rw same (at_same (LENGTHS + r) (omega arith) ∙ k.filling.placed.sized.sizes o r low);
          places = λ r l. let low = subst (λ (x : List ℕ). r < rule_count x) same l in
              rw (same, sym text) (subst (Stands (spelled o t) (rule_string o t r)) (sym (at_same (PLACES + r) (omega arith))) (k.filling.placed.places r low o));
        }
