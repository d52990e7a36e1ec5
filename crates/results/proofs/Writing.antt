-- Delivering a list of n entries to a slice: where the check of 9 refuses, the slice is as it was (`list_refused`); else the list fits (`list_fits`), and once it stands at the
-- front the call serves (`list_written`). Delivering two lists to two slices likewise (`both_refused`, `both_fits`, `both_written`). The same of a part of a text, which is judged by 8 before (`range_refused`, `range_fits`, `part_served`).
use mathlib.Core.Path.{◌≡◌, refl, ◌∙◌, ap, ap₂, subst}
use mathlib.Core.Bool.{false, ◌||◌}
use mathlib.Core.List.{List, [], ◌∷◌}
use Prim.Native.Nat.{ℕ, ◌+◌, ◌≤◌}
use native.Mathlib.Omega.{arith}
use lib.ListN.{length, take, drop, length-take, length-drop}
use lib.Dec.{ltb}
use borrow.Author.Tests.{ltb-false}
use Rattle.std.specs.declared.result.Result.TheVariants.{Ok, Err}
use Rattle.definitions.specs.declared.Refusal.{Refusal}
use Rattle.definitions.specs.Words.{placed}
use Rattle.definitions.specs.Services.{Answer, done, Outcome, Check, outcome_of, range_past_end, result_too_short, either_too_short, writes, writes_both, Serves, Answers}
use Rattle.lists.specs.Bools.{contra, not_so, or_left, or_right}
use Rattle.lists.specs.Decisions.{met, none, more, checked, refused_met, done_met}
use Rattle.lists.specs.Serving.{refused_by, served, passed}

module _ (l old : List ℕ) (n : ℕ) (e : n ≡ length l) (r : Answer) (f : outcome_of r ≡ checked (result_too_short n (length old)) n) where
  abbrev short : Check
  short = result_too_short (length l) (length old)

  judged : outcome_of r ≡ checked (result_too_short (length l) (length old)) (length l)
  judged = subst (λ (k : ℕ). outcome_of r ≡ checked (result_too_short k (length old)) k) e f

  pub list_refused : {f : Refusal} → r ≡ Err f → Serves (writes [] l 0 old) (Answers r) (old ∷ [])
  unfolding outcome_of
  list_refused g = let (q, h) = refused_met short (length l) judged g in refused_by short (met q) h refl

  pub list_fits : {a : ℕ} → r ≡ Ok a → length l ≤ length old
  list_fits g = ltb-false (length old) (length l) (done_met short (length l) judged g).0

  pub list_written : {a : ℕ} (new : List ℕ) → r ≡ Ok a → new ≡ placed l old → Serves (writes [] l 0 old) (Answers r) (new ∷ [])
  unfolding outcome_of
  list_written new g h =
      let (q, k) = done_met short (length l) judged g in
      served (more short q none) (ap outcome_of g ∙ ap (λ (i : ℕ). done i 0) k) (ap (λ (x : List ℕ). x ∷ []) h)

-- ---- two lists, of n and m entries, for two slices

module _ (l k old other : List ℕ) (n m : ℕ) (e : n ≡ length l) (g : m ≡ length k) (r : Answer) (f : outcome_of r ≡ checked (either_too_short n (length old) m (length other)) m) where
  abbrev either_short : Check
  either_short = either_too_short (length l) (length old) (length k) (length other)

  both_judged : outcome_of r ≡ checked either_short (length k)
  both_judged = subst (λ (j : ℕ). outcome_of r ≡ checked (either_too_short (length l) (length old) j (length other)) j) g (subst (λ (i : ℕ). outcome_of r ≡ checked (either_too_short i (length old) m (length other)) m) e f)

  pub both_refused : {f : Refusal} → r ≡ Err f → Serves (writes_both [] l k old other) (Answers r) (old ∷ other ∷ [])
  unfolding outcome_of
  both_refused h = let (q, i) = refused_met either_short (length k) both_judged h in refused_by either_short (met q) i refl

  pub both_fits : {a : ℕ} → r ≡ Ok a → (length l ≤ length old) × (length k ≤ length other)
  both_fits h =
      let q = (done_met either_short (length k) both_judged h).0 in
      (ltb-false (length old) (length l) (neither_left q), ltb-false (length other) (length k) (neither_right q))
    where
      neither_left : ltb (length old) (length l) || ltb (length other) (length k) ≡ false → ltb (length old) (length l) ≡ false
      neither_left q = not_so (ltb (length old) (length l)) (λ t. contra (or_left (ltb (length old) (length l)) (ltb (length other) (length k)) t) q)

      neither_right : ltb (length old) (length l) || ltb (length other) (length k) ≡ false → ltb (length other) (length k) ≡ false
      neither_right q = not_so (ltb (length other) (length k)) (λ t. contra (or_right (ltb (length old) (length l)) (ltb (length other) (length k)) t) q)

  pub both_written : {a : ℕ} (new newer : List ℕ) → r ≡ Ok a → new ≡ placed l old → newer ≡ placed k other → Serves (writes_both [] l k old other) (Answers r) (new ∷ newer ∷ [])
  unfolding outcome_of
  both_written new newer h i j =
      let (q, d) = done_met either_short (length k) both_judged h in
      served (more either_short q none) (ap outcome_of h ∙ ap (λ (i : ℕ). done i 0) d) (ap₂ {C = List (List ℕ)} (λ x y. x ∷ y ∷ []) i j)

-- ---- a part of a text of n samples

module _ (text old : List ℕ) (start count n : ℕ) (e : n ≡ length text) (r : Answer) (f : outcome_of r ≡ checked (range_past_end n start count) count) where
  abbrev piece : List ℕ
  piece = take count (drop start text)

  abbrev past : Check
  past = range_past_end (length text) start count

  range_judged : outcome_of r ≡ checked (range_past_end (length text) start count) count
  range_judged = subst (λ (k : ℕ). outcome_of r ≡ checked (range_past_end k start count) count) e f

  pub range_refused : {f : Refusal} → r ≡ Err f → Serves (writes (past ∷ []) piece 0 old) (Answers r) (old ∷ [])
  unfolding outcome_of
  range_refused g = let (q, h) = refused_met past count range_judged g in refused_by past (met q) h refl

  -- in range, what is handed on is the length of the part
  module _ {d : ℕ} (g : r ≡ Ok d) where
    pub range_fits : start + d ≤ length text
    range_fits =
        let (q, k) = done_met past count range_judged g in
        omega (arith, ltb-false (length text) (start + count) q)

    pub piece_size : d ≡ length piece
    piece_size = simp (length-take, length-drop) (omega (arith, (done_met past count range_judged g).1, range_fits))

    pub piece_same : take d (drop start text) ≡ piece
    piece_same = ap (λ (k : ℕ). take k (drop start text)) (done_met past count range_judged g).1

    pub part_served : {A : Outcome → Type 0} {held : List (List ℕ)} → Serves (writes [] piece 0 old) A held → Serves (writes (past ∷ []) piece 0 old) A held
    part_served v = passed (more past (done_met past count range_judged g).0 none) v
