-- What a search for one sample tells (`located`): refused by a check of the table alone, or done, with its places in a slice of 2,047 entries.
use mathlib.Core.Path.{◌≡◌, refl, sym, ◌∙◌, ap, subst}
use mathlib.Core.Logic.{◌⊎◌, inl, inr}
use mathlib.Core.List.{List, [], ◌∷◌, ◌++◌}
use Prim.Native.Nat.{ℕ, ◌+◌}
use native.Mathlib.Omega.{arith}
use lib.ListN.{length, take, drop, get_or, replicate}
use lib.Seq.{drop_at}
use borrow.Author.Tests.{le-ltb}
use Rattle.definitions.specs.declared.Order.{Order}
use Rattle.definitions.specs.declared.Content.TheVariants.{Samples}
use Rattle.std.specs.declared.result.Result.TheVariants.{Ok}
use Rattle.definitions.specs.declared.Search.{Search}
use Rattle.definitions.specs.Words.{placed}
use Rattle.definitions.specs.Table.{text_of}
use Rattle.definitions.specs.Occurrences.{occurrences, tests}
use Rattle.definitions.specs.Steps.{finds, searched}
use Rattle.definitions.specs.Services.{Answer, Outcome, Check, done, refused, outcome_of, alone, outcome, slices_after, work_slice, cleared, pattern_empty, pattern_too_long, result_too_short, pattern_checks, search_checks, table_checks, locate_service, Serves, Searches}
use Rattle.lists.specs.Refusals.{same_answer}
use Rattle.lists.specs.Decisions.{First, later, Passed, more, none, decide, first_decides, passed_all, first_before, both_passed}
use Rattle.lyndon.specs.Occurrences.{occurrences_fewer}
use Rattle.census.specs.Accepted.{accepted}
use Rattle.census.specs.Samples.{Tried, turned_down, tried_done, done_tried, Begun, SoFar, number_below, put_all, number_none, number_more, so_far_none, so_far_more, so_far_all}
use Rattle.census.specs.Samples as samples

module _ (o : Order) (t work old : List ℕ) (b : ℕ) (room : length old ≡ 2047) where
  abbrev places : List ℕ
  places = occurrences (b ∷ []) (text_of o t)

  abbrev short : Check
  short = result_too_short (length places) (length old)

  -- what is handed on as the search's checks, in order
  abbrev all : List Check
  all = pattern_empty (b ∷ []) ∷ pattern_too_long (b ∷ []) ∷ (table_checks o t (length work) ++ (short ∷ []))

  abbrev success : Outcome
  success = done (length places) (length (tests o t (b ∷ [])))

  pub located : (r : Search) (after new : List ℕ) → Serves (locate_service o t Samples (b ∷ []) work old) (Searches r) (after ∷ new ∷ [])
      → Tried o t work after (length places) (new ≡ placed places old) r.answer
  unfolding locate_service search_checks pattern_checks finds searched outcome slices_after outcome_of alone
  located r after new v = go (decide (table_checks o t (length work)))
    where
      go : ((d : Check) × First d (table_checks o t (length work))) ⊎ Passed (table_checks o t (length work)) → Tried o t work after (length places) (new ≡ placed places old) r.answer
      go (inl (d, f)) =
          let full : First d all = later (pattern_empty (b ∷ [])) refl (later (pattern_too_long (b ∷ [])) refl (first_before (short ∷ []) f)) in
          let said : outcome_of r.answer ≡ refused d.number d.place = v.answer.answer ∙ ap alone (first_decides d (λ c. refused c.number c.place) success full) in
          let left : after ≡ (work_slice work).if_refused d = ap (λ (l : List (List ℕ)). get_or l 0 []) v.slices ∙ first_decides d (work_slice work).if_refused (cleared work) full in
          turned_down d f left said
      go (inr p) =
          let few = occurrences_fewer (b ∷ []) (text_of o t) (omega arith) in
          let most = (accepted o t (length work) p).0 in
          let full : Passed all =
          more (pattern_empty (b ∷ [])) refl (more (pattern_too_long (b ∷ [])) refl (both_passed p (more short (le-ltb (length old) (length places) (omega arith)) none))) in
          let said : outcome_of r.answer ≡ done (length places) 0 = v.answer.answer ∙ ap alone (passed_all (λ c. refused c.number c.place) success full) in
          let left : after ≡ cleared work = ap (λ (l : List (List ℕ)). get_or l 0 []) v.slices ∙ passed_all (work_slice work).if_refused (cleared work) full in
          let written : new ≡ placed places old = ap (λ (l : List (List ℕ)). get_or l 1 []) v.slices ∙ passed_all (λ c. old) (placed places old) full in
          samples.done p left written (same_answer r.answer (Ok (length places)) said)

-- ---- sample 0, and the others

placed_again : (l w : List ℕ) → placed l w ≡ placed l (placed l w)
unfolding placed
placed_again l w = ap (λ (x : List ℕ). l ++ x) (sym (drop_at l (drop (length l) w) (length l) refl))

cleared_again : (w : List ℕ) → cleared w ≡ cleared (cleared w)
unfolding cleared
cleared_again w = placed_again (replicate 16384 0) w

module _ (o : Order) (t work after drive new : List ℕ) (size : length drive ≡ 2047) (kept : length after ≡ length work) (keptNew : length new ≡ length drive) where
  abbrev text : List ℕ
  text = text_of o t

  -- once sample 0 is placed
  pub begun : {r : Answer} {k : ℕ} → Tried o t work after (length (occurrences (0 ∷ []) text)) (new ≡ put_all (occurrences (0 ∷ []) text) 0 drive) r → r ≡ Ok k
      → Begun o t after new × (k ≡ number_below text 1)
  begun v q =
      let (p, e, f, g) = tried_done v q in (
        record {
          passes = subst (λ (n : ℕ). Passed (table_checks o t n)) (sym kept) p;
          clear = f ∙ cleared_again work ∙ ap cleared (sym f);
          size = keptNew ∙ size;
          first = so_far_more text 0 drive new g (so_far_none text drive (omega (arith, (accepted o t (length work) p).0)));
        },
        omega (arith, e, number_none text, number_more text 0),
      )

  -- once the others are placed
  pub all_read : {r : Answer} {k : ℕ} (m : ℕ) {last whole : List ℕ} → Tried o t work after (length (occurrences (0 ∷ []) text)) (new ≡ put_all (occurrences (0 ∷ []) text) 0 drive) r → r ≡ Ok k
      → number_below text 1 + m ≡ length text → last ≡ after → SoFar text 256 whole → Tried o t work last (length text) (take (length text) whole ≡ text) (Ok (k + m))
  all_read m {whole = whole} v q e f g =
      let (p, h, i, j) = tried_done v q in
      done_tried p (omega (arith, (begun v q).1, e)) (f ∙ i) (so_far_all text whole (accepted o t (length work) p).1 g) refl
