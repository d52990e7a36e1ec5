-- What the areas of the work slice hold: the text's ranks from 0 on, the lengths of the longest Lyndon words from LONGEST on, the
-- closings from CLOSINGS on.
use Rattle.std.specs.Prelude.{◌≡◌, List, ℕ, suc, ◌+◌, ◌-◌, length, drop}
use Rattle.lists.specs.Parts.{part}
use Rattle.lyndon.specs.Forest.{forest, longests}
use Rattle.lyndon.specs.Closings.{closings_of}
use Rattle.layout.specs.Layout.{LONGEST, CLOSINGS}

-- the places from i on are done: each has its longest Lyndon word's length and the joins that close behind it
pub record Ended (s : List ℕ) (i : ℕ) (w : List ℕ) : Type 0 where
  pub text : part 0 (length s) w ≡ s
  pub first : part (LONGEST + i) (length s - i) w ≡ longests (drop i s)
  pub close : part (CLOSINGS + i) (length s - i) w ≡ closings_of (forest (drop i s))

-- the same but for the length at i itself
pub record Merged (s : List ℕ) (i : ℕ) (w : List ℕ) : Type 0 where
  pub text : part 0 (length s) w ≡ s
  pub first : part (LONGEST + suc i) (length s - suc i) w ≡ longests (drop (suc i) s)
  pub close : part (CLOSINGS + i) (length s - i) w ≡ closings_of (forest (drop i s))
