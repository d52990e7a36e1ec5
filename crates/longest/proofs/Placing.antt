-- After `ends` the lengths at the samples stand behind the mark's: the ranks are the mark's and then those of the samples (`array_stands`).
-- In range, the length at a position is the entry of the array there (`length_served`).
use mathlib.Core.Path.{◌≡◌, refl, sym, ◌∙◌, ap, subst}
use mathlib.Core.List.{List, [], ◌∷◌, map}
use Prim.Native.Nat.{ℕ, suc, ◌+◌, ◌≤◌, ◌<◌}
use native.Mathlib.Nat.{sub-zero}
use native.Mathlib.Omega.{arith}
use lib.ListN.{length, length-map, drop, get_or}
use borrow.Author.Tests.{ltb-false}
use Rattle.std.specs.declared.result.Result.TheVariants.{Ok, Err}
use Rattle.definitions.specs.declared.Refusal.{Refusal}
use Rattle.definitions.specs.declared.Order.{Order}
use Rattle.definitions.specs.Words.{lyndon_length, lyndon_array}
use Rattle.definitions.specs.Table.{rank_of, marked}
use Rattle.definitions.specs.Services.{Answer, Check, done, outcome_of, gives, range_past_end, Serves, Answers}
use Rattle.lists.specs.Decisions.{met, none, more, checked, refused_met, done_met}
use Rattle.lists.specs.Serving.{refused_by, served}
use Rattle.lists.specs.Parts.{part, part_length, part_at, part_cons}
use Rattle.lyndon.specs.Forest.{longests}
use Rattle.lyndon.specs.Arrays.{array_longests, array_length, array_at}
use Rattle.layout.specs.Layout.{LONGEST, WORK}
use Rattle.ends.specs.Areas.{Ended}
use Rattle.state.specs.State.{Held}

module _ {o : Order} {rules : ℕ} {w : List ℕ} (h : Held o rules w) (n : ℕ) (e : n ≡ length h.text) where
  abbrev ranks : List ℕ
  ranks = map (rank_of o) h.text

  pub few : n ≤ 2047
  few = omega (arith, h.loaded.kept.stored.short)

  pub room : WORK ≤ length w
  room = h.loaded.kept.long

  pub size : n ≡ length (lyndon_array ranks)
  size = e ∙ sym (array_length ranks ∙ length-map h.text (rank_of o))

  front : part 0 (n + 1) w ≡ marked o h.text
  front = let q : n + 1 ≡ suc (length h.text) = omega arith in ap (λ (k : ℕ). part 0 k w) q ∙ h.loaded.kept.ranks

  module _ (v : List ℕ) (x : Ended (part 0 (n + 1) w) 0 v) (same : length v ≡ length w) where
    lengths : part LONGEST (n + 1) v ≡ longests (marked o h.text)
    lengths =
        let area = part_length 0 (n + 1) w (omega (arith, few, room)) in
        ap (λ (k : ℕ). part LONGEST k v) (sym area ∙ sym (sub-zero (length (part 0 (n + 1) w)))) ∙ x.first ∙ ap longests front

    pub array_stands : part (LONGEST + 1) n v ≡ lyndon_array ranks
    unfolding longests marked
    array_stands =
        let q : suc n ≡ n + 1 = omega arith in
        ap (drop 1) (sym (part_cons LONGEST n v 0 (omega (arith, room, same))) ∙ ap (λ (k : ℕ). part LONGEST k v) q ∙ lengths) ∙ sym (array_longests ranks)

  module _ (position : ℕ) (r : Answer) (f : outcome_of r ≡ checked (range_past_end n position 1) 1) where
    abbrev past : Check
    past = range_past_end (length h.text) position 1

    judged : outcome_of r ≡ checked past 1
    judged = subst (λ (k : ℕ). outcome_of r ≡ checked (range_past_end k position 1) 1) e f

    pub length_refused : {f : Refusal} → r ≡ Err f → Serves (gives (past ∷ []) (done (lyndon_length ranks position) 0)) (Answers r) []
    unfolding outcome_of
    length_refused g = let (q, k) = refused_met past 1 judged g in refused_by past (met q) k refl

    module _ {a : ℕ} (g : r ≡ Ok a) where
      inside : position < n
      inside = omega (arith, ltb-false (length h.text) (position + 1) (done_met past 1 judged g).0)

      pub low : position < 2047
      low = omega (arith, inside, few)

      pub length_served : (v : List ℕ) → part (LONGEST + 1) n v ≡ lyndon_array ranks → (m : ℕ) → m ≡ get_or v (LONGEST + 1 + position) 0
          → Serves (gives (past ∷ []) (done (lyndon_length ranks position) 0)) (Answers (Ok m)) []
      unfolding outcome_of
      length_served v q m k =
          served (more past (done_met past 1 judged g).0 none)
          (ap (λ (k : ℕ). done k 0)
          (k ∙ sym (part_at (LONGEST + 1) n v position 0 inside) ∙ ap (λ (l : List ℕ). get_or l position 0) q ∙ array_at ranks position (simp length-map (omega (arith, inside)))))
          refl
