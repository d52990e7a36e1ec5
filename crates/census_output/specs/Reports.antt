-- What is printed of a census as it stands in two slices: runs of q bytes one behind the other, and a count for each.
use Rattle.std.specs.Prelude.{◌≡◌, List, ◌++◌, ℕ, ◌*◌, ◌≤◌, ◌<◌, length, take, drop, get_or}
use Rattle.definitions.specs.Census.{total}
use Rattle.definitions.specs.Programs.{decimal, line, named, spaced}
use Rattle.lines.specs.Turns.{turns}

-- the line of a run and its count, by index
unfoldable pub tally : ℕ → List ℕ → List ℕ → ℕ → List ℕ
tally q runs counts i = named (spaced (take q (drop (q * i) runs))) (get_or counts i 0)

-- all these lines
unfoldable pub tallies : ℕ → List ℕ → List ℕ → List ℕ
tallies q runs counts = turns (tally q runs counts) (length counts)

-- and the sum of the counts
unfoldable pub report : ℕ → List ℕ → List ℕ → List ℕ
report q runs counts = tallies q runs counts ++ line (decimal (total counts))

-- there are so many runs as counts, at most 2,047, and no count has more than four digits
pub record Tallied (q : ℕ) (runs counts : List ℕ) : Type 0 where
  pub size : length runs ≡ q * length counts
  pub few : length counts ≤ 2047
  pub low : (i : ℕ) → i < length counts → get_or counts i 0 < 10000
