-- The nine-heading profile (document 02, S-7): what a switch joystick sends, 0 for rest and 1 to 8 for the other headings. A byte is read as the number 0 to 255.
use Rattle.std.specs.Prelude.{ℕ, ◌-◌, Bool, not, ◌&&◌, List, length, get_or, leb, ltb, eqb}
use Rattle.definitions.specs.Words.{every, least}

-- the byte at index i is one of the nine headings
unfoldable pub on_heading : List ℕ → ℕ → Bool
on_heading x i = leb (get_or x i 0) 8

-- the lowest index of a byte that is none, and the length where there is no such byte
unfoldable pub first_off : List ℕ → ℕ
first_off x = least (λ i. not (on_heading x i)) (length x)

-- the drive is not empty, and begins and ends at rest
unfoldable pub at_rest : List ℕ → Bool
at_rest x = ltb 0 (length x) && (eqb (get_or x 0 0) 0 && eqb (get_or x (length x - 1) 0) 0)

-- a profile drive
unfoldable pub is_profile : List ℕ → Bool
is_profile x = every (on_heading x) (length x) && at_rest x
