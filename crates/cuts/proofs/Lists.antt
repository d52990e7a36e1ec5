-- The listed cuts passed so far: that there is room for those of a run more, and what a slice holds once they are written. At the scan's end they are
-- all of the pattern's (`all_passed`).
use mathlib.Core.Path.{◌≡◌, sym, ◌∙◌, ap}
use mathlib.Core.Bool.{Bool}
use mathlib.Core.List.{List, [], ◌∷◌, ◌++◌, map, append_assoc, append-nil}
use Prim.Native.Nat.{ℕ, ◌+◌, ◌-◌, ◌≤◌}
use native.Mathlib.Omega.{arith}
use lib.ListN.{length, set, length-append, length-map}
use Rattle.definitions.specs.declared.Order.{Order}
use Rattle.definitions.specs.Words.{below, placed}
use Rattle.definitions.specs.Table.{rank_of}
use Rattle.definitions.specs.Occurrences.{is_listed, listed_cuts, pattern_cuts}
use Rattle.lists.specs.Numbers.{below_append, power_le}
use Rattle.lists.specs.Lists.{placed_more}
use Rattle.lyndon.specs.Listed.{Largest, listed_bound}
use Rattle.runs.specs.Runs.{Reached, Scanned, run_cuts}
use Rattle.runs.proofs.Scanning.{none_before, scan_done}
use Rattle.runs.proofs.Samples.{samples_left}
use Rattle.cuts.specs.Appending.{Appended}

-- the listed cuts below a place
abbrev pub passed : Order → List ℕ → ℕ → List ℕ
passed o p start = below (is_listed (map (rank_of o) p)) start

pub none_passed : (o : Order) (p : List ℕ) → passed o p 1 ≡ []
none_passed o p = none_before (map (rank_of o) p)

pub all_passed : (o : Order) (p : List ℕ) (start : ℕ) → Reached (map (rank_of o) p) start → length p ≤ start → passed o p start ≡ pattern_cuts o p
unfolding pattern_cuts
all_passed o p start r h = scan_done (map (rank_of o) p) start r (omega (arith, length-map p (rank_of o)))

-- the pattern has at least those
pub passed_most : (o : Order) (p : List ℕ) (start : ℕ) → start ≤ length p → length (passed o p start) ≤ length (pattern_cuts o p)
unfolding pattern_cuts listed_cuts
passed_most o p start h = omega (arith, simp length-append at (ap length (split (length p - start) whole)))
  where
    f : ℕ → Bool
    f = is_listed (map (rank_of o) p)

    whole : start + (length p - start) ≡ length (map (rank_of o) p)
    whole = omega (arith, length-map p (rank_of o))

    split : (k : ℕ) → start + k ≡ length (map (rank_of o) p) → below f (length (map (rank_of o) p)) ≡ below f start ++ map (λ (i : ℕ). start + i) (below (λ i. f (start + i)) k)
    split k e = ap (below f) (sym e) ∙ below_append f start k

-- ---- how long the list is

-- k + 1 words are enough, and they are at most 11
pub most_cuts : (o : Order) (p : List ℕ) (k : ℕ) → Largest (length p) k → length (pattern_cuts o p) ≤ k + 1
unfolding pattern_cuts
most_cuts o p k h = omega (arith, listed_bound (map (rank_of o) p) k (rw (length-map p (rank_of o)) h))

pub eleven : (m k : ℕ) → m ≤ 2047 → Largest m k → k + 1 ≤ 11
eleven m k h l = omega (arith, power_le 2047 10 k (omega arith) (omega (arith, l.0)))

-- ---- writing

pub appended_none : (n : ℕ) (w : List ℕ) → Appended [] n n w w
appended_none n w front old e q h = (e ∙ ap (λ (x : List ℕ). placed x old) (sym (append-nil front)), q ∙ ap length (sym (append-nil front)))

pub appended_one : (n c : ℕ) (w : List ℕ) → Appended (c ∷ []) n (n + 1) w (set w n c)
appended_one n c w front old e q h = (
  ap (λ (x : List ℕ). set x n c) e ∙ ap (λ (i : ℕ). set (placed front old) i c) q ∙ sym (placed_more front old c (omega arith)),
  omega (arith, length-append front (c ∷ [])),
)

pub appended_both : (l m : List ℕ) (n i j : ℕ) (w v z : List ℕ) → Appended l n i w v → Appended m i j v z → Appended (l ++ m) n j w z
appended_both l m n i j w v z a b front old e q h =
    let size = length-append l m in
    let (f, g) = a front old e q (omega arith) in
    let (f', g') = b (front ++ l) old f g (omega (arith, length-append front l)) in
    (f' ∙ ap (λ (x : List ℕ). placed x old) (append_assoc front l m), g' ∙ ap length (append_assoc front l m))

-- ---- a run more

module _ (o : Order) (p : List ℕ) (start rs back end next : ℕ) (same : rs ≡ start) (reached : Reached (map (rank_of o) p) start)
    (run : Scanned (map (rank_of o) p) start back end next) where
  -- what is passed then
  further : Reached (map (rank_of o) p) next × (passed o p next ≡ passed o p start ++ run_cuts rs back end next (length p))
  further =
      let (a, b) = samples_left o p start back end next reached run in
      (a, b ∙ ap (λ (i : ℕ). passed o p start ++ run_cuts i back end next (length p)) (sym same))

  pub run_inside : end ≤ length p
  run_inside = omega (arith, run.stopped.running.inside, length-map p (rank_of o))

  -- there is room for its cuts
  pub run_room : (n m : ℕ) → n ≡ length (passed o p start) → length (pattern_cuts o p) ≤ m → n + length (run_cuts rs back end next (length p)) ≤ m
  run_room n m e h =
      omega (arith, run_inside, passed_most o p next (omega (arith, run_inside, run.high)), simp length-append at (ap length further.1))

  pub run_written : (n r : ℕ) (old w v : List ℕ) → length (pattern_cuts o p) ≤ length old → n ≡ length (passed o p start) → w ≡ placed (passed o p start) old
      → Appended (run_cuts rs back end next (length p)) n r w v
      → Reached (map (rank_of o) p) next × (r ≡ length (passed o p next)) × (v ≡ placed (passed o p next) old)
  run_written n r old w v h e f a =
      let (x, y) = a (passed o p start) old f e (omega (arith, run_room n (length old) e h)) in
      (further.0, y ∙ ap length (sym further.1), x ∙ ap (λ (l : List ℕ). placed l old) (sym further.1))
