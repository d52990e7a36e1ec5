-- The constants of the layout under their names, and what stands in the areas of a search. w is the work slice, r a rule.
use Rattle.std.specs.Prelude.{List, ℕ, ◌+◌, ◌/◌, ◌%◌, ◌≤◌, ◌<◌, length, get_or}

abbrev pub LONGEST : ℕ
LONGEST = 2048

abbrev pub CLOSINGS : ℕ
CLOSINGS = 4096

abbrev pub STACK : ℕ
STACK = 6144

abbrev pub LINKS : ℕ
LINKS = 8192

abbrev pub TABLE : ℕ
TABLE = 11520

abbrev pub CHAIR : ℕ
CHAIR = 11521

abbrev pub LENGTHS : ℕ
LENGTHS = 2048

abbrev pub PLACES : ℕ
PLACES = 4352

abbrev pub ENTRIES : ℕ
ENTRIES = 6656

abbrev pub FOUND : ℕ
FOUND = 6656

abbrev pub PATTERN : ℕ
PATTERN = 8960

abbrev pub CUTS : ℕ
CUTS = 11008

-- what stands behind the last cut
abbrev pub NO_CUT : ℕ
NO_CUT = 4096

abbrev pub WORK : ℕ
WORK = 16384

abbrev pub KIND : ℕ
KIND = 1073741824

abbrev pub RIGHT_HALF : ℕ
RIGHT_HALF = 2147483648

abbrev pub BESIDE_SYMBOL : ℕ
BESIDE_SYMBOL = 3221225472

-- the length of a rule's string, and a place at which it stands
abbrev pub length_in : List ℕ → ℕ → ℕ
length_in w r = get_or w (LENGTHS + r) 0

abbrev pub place_in : List ℕ → ℕ → ℕ
place_in w r = get_or w (PLACES + r) 0

-- how many rules are met before it
abbrev pub entry_in : List ℕ → ℕ → ℕ
entry_in w r = get_or w (ENTRIES + r) 0

-- a word of FOUND is occurrences * PACK + cut
abbrev pub PACK : ℕ
PACK = 4096

-- how many occurrences it has, and the cut at which one straddles its join, 0 if none does
abbrev pub count_in : List ℕ → ℕ → ℕ
count_in w r = get_or w (FOUND + r) 0 / PACK

abbrev pub join_cut_in : List ℕ → ℕ → ℕ
join_cut_in w r = get_or w (FOUND + r) 0 % PACK

-- r is the number of a rule, and w has room for all areas
pub record Readable (w : List ℕ) (r : ℕ) : Type 0 where
  pub low : r < 2304
  pub long : WORK ≤ length w
