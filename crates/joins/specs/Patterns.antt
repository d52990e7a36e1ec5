-- A pattern that is placed in the work slice w, by its numbers.
use Rattle.std.specs.Prelude.{◌≡◌, List, ℕ}
use Rattle.joins.specs.declared.Placed.{Placed}
use Rattle.joins.specs.Joining.{Tried, longest_tail}

-- they are those of the pattern whose cuts are tried
pub record InWork (p : Placed) (w : List ℕ) : Type 0 where
  pub tried : Tried p.size p.cuts w
  pub longest : p.longest ≡ longest_tail p.size p.cuts w
