-- The runs that a census lists have q bytes each, so they have q times their number one behind the other (`joined_length`); from the slices in which they and their counts
-- stand their lines are printed (`listed_lines`), which are not too long (`listed_tallied`, `listed_room`).
use mathlib.Core.Path.{◌≡◌, refl, sym, ◌∙◌, ap, ap₂}
use mathlib.Core.List.Memᴰ.{head as here}
use mathlib.Core.List.Memᴰ.{tail as there}
use mathlib.Core.List.{List, [], ◌∷◌, ◌++◌, map}
use Prim.Native.Nat.{ℕ, zero, suc, ◌+◌, ◌*◌, ◌≤◌, ◌<◌}
use native.Mathlib.Omega.{arith}
use native.Mathlib.Nat.{mul-suc, mul-zero, mul-le-mul_right}
use lib.ListN.{length, take, drop, get_or, length-map, length-append}
use lib.Seq.{take_at, drop_at, drop-drop}
use Rattle.definitions.specs.declared.Order.{Order}
use Rattle.definitions.specs.Census.{census_runs, count_in, census_counts, joined}
use Rattle.definitions.specs.Programs.{named, spaced, census_lines}
use Rattle.lists.specs.Numbers.{split_le}
use Rattle.lyndon.specs.Ranks.{Bytes}
use Rattle.lyndon.specs.Occurrences.{occurrences_most}
use Rattle.lines.specs.Turns.{turns}
use Rattle.lines.proofs.Turns.{turns_first}
use Rattle.run_counts.specs.Runs.{Runs}
use Rattle.run_counts.specs.Census.{census_run, census_few}
use Rattle.census_output.specs.Reports.{tally, tallies, Tallied}

-- ---- one behind the other

pub joined_length : (q : ℕ) (runs : List (List ℕ)) → Runs q runs → length (joined runs) ≡ q * length runs
unfolding joined
joined_length q [] h = sym (mul-zero q)
joined_length q (x ∷ runs) h = length-append x (joined runs) ∙ omega (arith, (h x (here refl)).1, joined_length q runs (λ z m. h z (there m)), mul-suc q (length runs))

turns_same : (f g : ℕ → List ℕ) → ((i : ℕ) → f i ≡ g i) → (n : ℕ) → turns f n ≡ turns g n
unfolding turns
turns_same f g h zero = refl
turns_same f g h (suc n) = ap₂ {C = List ℕ} (λ a b. a ++ b) (turns_same f g h n) (h n)

module _ (text : List ℕ) (q : ℕ) where
  abbrev line_at : List (List ℕ) → ℕ → List ℕ
  line_at runs = tally q (joined runs) (map (count_in text) runs)

  next_line : (x : List ℕ) (runs : List (List ℕ)) → length x ≡ q → (i : ℕ) → line_at (x ∷ runs) (suc i) ≡ line_at runs i
  unfolding tally joined
  next_line x runs e i =
      let past : q * suc i ≡ q + q * i = omega (arith, mul-suc q i) in
      let rest : drop (q * suc i) (x ++ joined runs) ≡ drop (q * i) (joined runs) =
      ap (λ (k : ℕ). drop k (x ++ joined runs)) past ∙ sym (drop-drop (q * i) q (x ++ joined runs)) ∙ ap (drop (q * i)) (drop_at x (joined runs) q e) in
      ap (λ (l : List ℕ). named (spaced (take q l)) (get_or (map (count_in text) runs) i 0)) rest

  first_line : (x : List ℕ) (runs : List (List ℕ)) → length x ≡ q → line_at (x ∷ runs) 0 ≡ named (spaced x) (count_in text x)
  unfolding tally joined
  first_line x runs e =
      ap (λ (k : ℕ). named (spaced (take q (drop k (x ++ joined runs)))) (count_in text x)) (mul-zero q)
      ∙ ap (λ (l : List ℕ). named (spaced l) (count_in text x)) (take_at x (joined runs) q e)

  lines_all : (runs : List (List ℕ)) → Runs q runs → turns (line_at runs) (length runs) ≡ census_lines text runs
  unfolding turns census_lines
  lines_all [] h = refl
  lines_all (x ∷ runs) h =
      let size = (h x (here refl)).1 in
      turns_first (line_at (x ∷ runs)) (length runs)
      ∙ ap₂ {C = List ℕ} (λ a b. a ++ b) (first_line x runs size)
      (turns_same (λ i. line_at (x ∷ runs) (suc i)) (line_at runs) (next_line x runs size) (length runs) ∙ lines_all runs (λ z m. h z (there m)))

-- ---- what is listed, as it stands in the slices

module _ (o : Order) (q : ℕ) (text : List ℕ) (bytes : Bytes text) where
  counts_length : length (census_counts o q text) ≡ length (census_runs o q text)
  unfolding census_counts
  counts_length = length-map (census_runs o q text) (count_in text)

  pub listed_lines : tallies q (joined (census_runs o q text)) (census_counts o q text) ≡ census_lines text (census_runs o q text)
  unfolding tallies census_counts
  listed_lines =
      ap (turns (line_at text q (census_runs o q text))) (length-map (census_runs o q text) (count_in text))
      ∙ lines_all text q (census_runs o q text) (census_run o q text bytes)

  count_low : (l : List (List ℕ)) (i : ℕ) → i < length l → get_or (map (count_in text) l) i 0 ≤ suc (length text)
  unfolding count_in
  count_low [] i h = absurd (omega arith)
  count_low (x ∷ l) zero h = occurrences_most x text
  count_low (x ∷ l) (suc i) h = count_low l i (omega arith)

  module _ (some : 0 < q) (short : length text ≤ 2047) where
    pub listed_tallied : Tallied q (joined (census_runs o q text)) (census_counts o q text)
    unfolding census_counts
    listed_tallied = record {
      size = joined_length q (census_runs o q text) (census_run o q text bytes) ∙ ap (λ (n : ℕ). q * n) (sym counts_length);
      few = omega (arith, counts_length, census_few o q text bytes);
      low = λ i h. omega (arith, count_low (census_runs o q text) i (omega (arith, counts_length)));
    }

    module _ (most : q ≤ 8) where
      -- both slices suffice
      pub listed_fits : (length (joined (census_runs o q text)) ≤ 16376) × (length (census_counts o q text) ≤ 2047)
      listed_fits =
          let n = length (census_counts o q text) in
          let t = listed_tallied in
          (omega (arith, t.size, t.few, mul-le-mul_right n most), t.few)

      -- runs of one sample are short, longer ones one fewer
      pub listed_room : (4 * q + 5) * length (census_counts o q text) + 11 ≤ 75744
      listed_room =
          let n = length (census_counts o q text) in
          let wide : 4 * q + 5 ≤ 37 = omega arith in
          split_le q 1
          (λ h. let one : 4 * q + 5 ≤ 9 = omega arith in omega (arith, listed_tallied.few, mul-le-mul_right n one))
          (λ h. omega (arith, counts_length, census_few o q text bytes, mul-le-mul_right n wide))
