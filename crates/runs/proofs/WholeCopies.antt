-- The whole copies of a run: of a word and `more` symbols that repeat it, 1 + more / word. They end inside the run, and another copy would not (`copies_end`); so they
-- are left one after the other (`copies_left`).
use mathlib.Core.Path.{◌≡◌, sym, subst}
use mathlib.Core.List.{List}
use Prim.Native.Nat.{ℕ, zero, suc, ◌+◌, ◌-◌, ◌*◌, ◌/◌, ◌≤◌, ◌<◌}
use native.Mathlib.Omega.{arith}
use native.Mathlib.Nat.{add-mul, one-mul, suc-mul, div-mul-le_self, lt-div-mul-add}
use Rattle.runs.specs.Runs.{Copies, no_copy, copy_more, Stopped, Scanned}

-- one copy more
more_copies : (k word : ℕ) → (1 + k) * word ≡ word + k * word
more_copies k word = omega (arith, add-mul 1 k word, one-mul word)

module _ (word more : ℕ) (filled : 0 < word) where
  pub copies_end : (more < (1 + more / word) * word) × ((1 + more / word) * word ≤ word + more)
  copies_end =
      let e = more_copies (more / word) word in
      (omega (arith, e, lt-div-mul-add {a = more} {b = word} filled), omega (arith, e, div-mul-le_self more word))

  -- so many further copies are left, as long as they stand in what repeats the word
  further : (start k : ℕ) → k * word ≤ more → Copies start (start + more) (start + word + more) (start + (1 + k) * word)
  further start zero h =
      let e : start + (start + word + more - (start + more)) ≡ start + (1 + 0) * word = omega (arith, more_copies 0 word) in
      subst (λ (c : ℕ). Copies start (start + more) (start + word + more) c) e (copy_more start no_copy (omega arith))
  further start (suc k) h =
      let e : start + (1 + k) * word + (start + word + more - (start + more)) ≡ start + (1 + suc k) * word = omega (arith, more_copies (suc k) word, more_copies k word, suc-mul k word) in
      subst (λ (c : ℕ). Copies start (start + more) (start + word + more) c) e
      (copy_more (start + (1 + k) * word) (further start k (omega (arith, suc-mul k word))) (omega (arith, more_copies k word, suc-mul k word)))

  pub copies_left : (start : ℕ) → Copies start (start + more) (start + word + more) (start + (1 + more / word) * word)
  copies_left start = further start (more / word) (div-mul-le_self more word)

  -- a run that goes no further, placed by numbers that are equal to its own
  pub placed_run : (s : List ℕ) (start back end next : ℕ) → Stopped s start (start + more) (start + word + more)
      → back ≡ start + more → end ≡ start + word + more → next ≡ start + (1 + more / word) * word → Scanned s start back end next
  placed_run s start back end next stopped b e n =
      subst (λ (i : ℕ). Scanned s start i end next) (sym b)
      (subst (λ (i : ℕ). Scanned s start (start + more) i next) (sym e)
      (subst (λ (i : ℕ). Scanned s start (start + more) (start + word + more) i) (sym n)
      record { stopped = stopped; copies = copies_left start; low = omega (arith, copies_end); high = omega (arith, copies_end) }))

-- ---- what a run takes

copies_from : (start back end c : ℕ) → Copies start back end c → start ≤ c
copies_from start back end _ no_copy = omega arith
copies_from start back end _ (copy_more c k h) = omega (arith, copies_from start back end c k)

one_copy : (start back end c : ℕ) → Copies start back end c → start < c → start + (end - back) ≤ c
one_copy start back end _ no_copy l = absurd (omega arith)
one_copy start back end _ (copy_more c k h) l = omega (arith, copies_from start back end c k)

-- a run is compared up to its end, one pair of samples a place; more than half of these places are behind the scan then, so fewer than two pairs are compared a sample
pub compared_twice : (s : List ℕ) (start back end next : ℕ) → Scanned s start back end next → end - start < 2 * (next - start)
compared_twice s start back end next r =
    let run = r.stopped.running in
    omega (arith, run.low, run.high, r.low, r.high, one_copy start back end next r.copies (omega (arith, run.low, r.low)))
