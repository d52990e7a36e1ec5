-- How long the line of a run and its count is (`tally_most`, `tallies_most`), where the run stands (`tally_within`, `tally_run`), and the sum of counts
-- (`total_sum`, `total_most`), which is written behind the lines (`report_stored`).
use mathlib.Core.Path.{◌≡◌, refl, ◌∙◌, ap}
use mathlib.Core.List.{List, [], ◌∷◌, ◌++◌, map}
use Prim.Native.Nat.{ℕ, suc, ◌+◌, ◌-◌, ◌*◌, ◌≤◌, ◌<◌}
use native.Mathlib.Omega.{arith}
use native.Mathlib.Nat.{mul-suc, mul-le-mul_left}
use lib.ListN.{length, take, drop, get_or, length-append, length-take}
use Rattle.definitions.specs.Words.{placed}
use Rattle.std.specs.List.{sum}
use Rattle.std.proofs.lemmas.List.Sums.{sum_by-cons}
use Rattle.definitions.specs.Census.{total}
use Rattle.definitions.specs.Programs.{decimal, line, named, spaced}
use Rattle.lists.specs.Members.{at_in, in_take, in_drop}
use Rattle.lyndon.specs.Ranks.{Bytes}
use Rattle.decimals.proofs.Digits.{line_most, decimal_most}
use Rattle.lines.proofs.Turns.{turns_most, both_stored}
use Rattle.lines.proofs.Lines.{spaced_most}
use Rattle.census_output.specs.Reports.{tally, tallies, report, Tallied}

module _ (q : ℕ) (runs counts : List ℕ) (ok : Tallied q runs counts) where
  pub tally_within : (i : ℕ) → i < length counts → q * i + q ≤ length runs
  tally_within i h = omega (arith, ok.size, mul-suc q i, mul-le-mul_left q h)

  -- the run as code takes it
  pub tally_run : (i : ℕ) → take (q * i + q - q * i) (drop (q * i) runs) ≡ take q (drop (q * i) runs)
  tally_run i = let size : q * i + q - q * i ≡ q = omega arith in ap (λ (n : ℕ). take n (drop (q * i) runs)) size

  module _ (bytes : Bytes runs) where
    pub tally_most : (i : ℕ) → i < length counts → length (tally q runs counts i) ≤ 4 * q + 5
    unfolding tally named line
    tally_most i h =
        let run = take q (drop (q * i) runs) in
        let c = get_or counts i 0 in
        let few : length run ≤ q = omega (arith, length-take q (drop (q * i) runs)) in
        omega (
          arith,
          few,
          length-append (spaced run) (line (decimal c)),
          length-append (decimal c) (10 ∷ []),
          decimal_most 3 c (ok.low i h),
          spaced_most run
              (λ j l. bytes (get_or run j 0) (in_drop (q * i) runs (get_or run j 0) (in_take q (drop (q * i) runs) (get_or run j 0) (at_in run j l)))),
        )

    pub tallies_most : length (tallies q runs counts) ≤ (4 * q + 5) * length counts
    unfolding tallies
    tallies_most = turns_most (tally q runs counts) (4 * q + 5) (length counts) tally_most

-- all of them, and a sum behind them
pub report_stored : (q : ℕ) (runs counts old w z : List ℕ) (n m s : ℕ) → n + 11 ≤ length old → s ≡ total counts → n ≡ length (tallies q runs counts)
    → w ≡ placed (tallies q runs counts) old → m ≡ length (line (decimal s)) → z ≡ placed (line (decimal s)) (take (length w - n) (drop n w))
    → (n + m ≡ length (report q runs counts)) × (take n w ++ (z ++ drop (length w - n) (drop n w)) ≡ placed (report q runs counts) old)
unfolding report
report_stored q runs counts old w z n m s room e f g h i =
    let v = line (decimal (total counts)) in
    let same : line (decimal s) ≡ v = ap (λ (k : ℕ). line (decimal k)) e in
    both_stored (tallies q runs counts) v old w z n m (omega (arith, line_most (total counts))) f g (h ∙ ap length same) (i ∙ ap (λ (x : List ℕ). placed x (take (length w - n) (drop n w))) same)

-- ---- the sum

pub total_sum : (l : List ℕ) → sum (map (λ x. x) l) ≡ total l
unfolding total
total_sum [] = refl
total_sum (n ∷ l) = omega (arith, sum_by-cons (λ x. x) n (map (λ x. x) l), total_sum l)

-- counts that are words
pub total_most : (l : List ℕ) → ((i : ℕ) → get_or l i 0 < 4294967296) → total l ≤ 4294967296 * length l
unfolding total
total_most [] h = omega arith
total_most (n ∷ l) h = omega (arith, h 0, total_most l (λ i. h (suc i)))
