-- The areas of the work slice under single stores: a closing set to 0 opens place i (`opened`), its length finishes it (`finished`).
use mathlib.Core.Path.{◌≡◌, sym, ◌∙◌, ap, ap₂, subst}
use mathlib.Core.List.{List, [], ◌∷◌}
use Prim.Native.Nat.{ℕ, suc, ◌+◌, ◌-◌, ◌≤◌, ◌<◌}
use native.Mathlib.Omega.{arith}
use lib.ListN.{length, drop, get_or, set, length-set, drop_of_length-le}
use native.Mathlib.Nat.{le_of_eq}
use lib.Seq.{drop-cons, get_or-set_same}
use Rattle.lists.specs.Parts.{part, part_length, part_set_before, part_set_behind, part_cons, part_none}
use Rattle.lyndon.specs.Forest.{forest, longest, longests}
use Rattle.lyndon.specs.Closings.{closings_of}
use Rattle.layout.specs.Layout.{LONGEST, CLOSINGS, WORK}
use Rattle.ends.specs.Areas.{Ended, Merged}

-- the text does not lie where closings lie
pub text_kept : (w : List ℕ) (n i x : ℕ) → n ≤ 2048 → part 0 n (set w (CLOSINGS + i) x) ≡ part 0 n w
text_kept w n i x h = part_set_behind 0 n w (CLOSINGS + i) x (omega arith)

pub opened : (w : List ℕ) (n i : ℕ) → n ≤ 2048 → WORK ≤ length w → i < n → Ended (part 0 n w) (suc i) w
    → Ended (part 0 n (set w (CLOSINGS + i) 0)) (suc i) (set w (CLOSINGS + i) 0) × (get_or (set w (CLOSINGS + i) 0) (CLOSINGS + i) 0 ≡ 0)
opened w n i short long h e = (
  subst (λ (s : List ℕ). Ended s (suc i) (set w (CLOSINGS + i) 0)) (sym (text_kept w n i 0 short))
      (record {
        text = part_set_behind 0 (length (part 0 n w)) w (CLOSINGS + i) 0 (omega (arith, size)) ∙ e.text;
        first = part_set_behind (LONGEST + suc i) (length (part 0 n w) - suc i) w (CLOSINGS + i) 0 (omega (arith, size)) ∙ e.first;
        close = part_set_before (CLOSINGS + suc i) (length (part 0 n w) - suc i) w (CLOSINGS + i) 0 (omega arith) ∙ e.close;
      }),
  get_or-set_same w (CLOSINGS + i) 0 0 (omega arith),
)
  where
    size : length (part 0 n w) ≡ n
    size = part_length 0 n w (omega arith)

pub finished : (s w : List ℕ) (i j : ℕ) → length s ≤ 2048 → WORK ≤ length w → i < length s → j ≡ i + longest (drop i s) → Merged s i w
    → Ended s i (set w (LONGEST + i) (j - i))
unfolding longests
finished s w i j short long h e m =
    record {
      text = part_set_behind 0 (length s) w (LONGEST + i) (j - i) (omega arith) ∙ m.text;
      first =
          ap (λ (n : ℕ). part (LONGEST + i) n (set w (LONGEST + i) (j - i))) one_more
          ∙ part_cons (LONGEST + i) (length s - suc i) (set w (LONGEST + i) (j - i)) 0 (simp length-set (omega arith))
          ∙ ap₂ {C = List ℕ} (λ x l. x ∷ l)
          (get_or-set_same w (LONGEST + i) (j - i) 0 (omega arith) ∙ length_at ∙ ap longest (drop-cons s i 0 h))
          (part_set_before (suc (LONGEST + i)) (length s - suc i) w (LONGEST + i) (j - i) (omega arith) ∙ ap (λ (n : ℕ). part n (length s - suc i) w) next ∙ m.first)
          ∙ sym (ap longests (drop-cons s i 0 h));
      close = part_set_before (CLOSINGS + i) (length s - i) w (LONGEST + i) (j - i) (omega arith) ∙ m.close;
    }
  where
    one_more : length s - i ≡ suc (length s - suc i)
    one_more = omega arith

    next : suc (LONGEST + i) ≡ LONGEST + suc i
    next = omega arith

    length_at : j - i ≡ longest (drop i s)
    length_at = omega arith

-- nothing is done yet, and nothing is asked
pub none_ended : (w : List ℕ) (n : ℕ) → n ≤ length w → Ended (part 0 n w) n w
unfolding longests forest closings_of
none_ended w n h =
    record {
      text = rw size;
      first = rw (size, none, part_none, over);
      close = rw (size, none, part_none, over);
    }
  where
    size : length (part 0 n w) ≡ n
    size = part_length 0 n w (omega arith)

    none : n - n ≡ 0
    none = omega arith

    over : drop n (part 0 n w) ≡ []
    over = drop_of_length-le (part 0 n w) (le_of_eq size)

-- the text stays
pub text_same : (w₀ w : List ℕ) (n i : ℕ) → n ≤ length w₀ → Ended (part 0 n w₀) i w → part 0 n w ≡ part 0 n w₀
text_same w₀ w n i h e = ap (λ (k : ℕ). part 0 k w) (sym (part_length 0 n w₀ (omega arith))) ∙ e.text
