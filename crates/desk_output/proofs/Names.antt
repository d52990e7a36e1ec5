-- Names of headings: no byte above 8 has one (`no_name`), a name has at most 13 bytes (`name_short`), and its line at most 14 bytes (`name_most`).
use mathlib.Core.Path.{◌≡◌, refl, ap}
use mathlib.Core.List.{List, [], ◌∷◌}
use Prim.Native.Nat.{ℕ, ◌*◌, ◌≤◌}
use native.Mathlib.Omega.{arith}
use lib.ListN.{length, length-append, get_or-eq_default as past_end}
use lib.Dec.{leb}
use borrow.Author.Tests.{leb-true}
use Rattle.definitions.specs.Words.{every}
use Rattle.definitions.specs.Programs.{line, lines_of, heading_names, heading_name}
use Rattle.lists.specs.Numbers.{split_le, every_at}
use Rattle.lines.proofs.Lines.{lines_most}

pub no_name : (b : ℕ) → 9 ≤ b → heading_name b ≡ []
unfolding heading_name
no_name b h = past_end heading_names [] h

pub name_short : (b : ℕ) → length (heading_name b) ≤ 13
unfolding heading_name every
name_short b = split_le 9 b
    (λ h. omega (arith, ap length (no_name b h)))
    (λ h. leb-true (length (heading_name b)) 13 (every_at (λ i. leb (length (heading_name i)) 13) 9 refl b h))

pub name_most : (b : ℕ) → length (line (heading_name b)) ≤ 14
unfolding line
name_most b = omega (arith, name_short b, length-append (heading_name b) (10 ∷ []))

pub names_most : (l : List ℕ) → length (lines_of heading_name l) ≤ 14 * length l
names_most l = lines_most heading_name 14 name_most l
