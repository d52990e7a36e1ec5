-- A table without a bad word and a work slice for it (`InShape`), in which the rules' strings have their lengths (`Sized`).
use Rattle.std.specs.Prelude.{◌≡◌, List, ℕ, ◌≤◌, ◌<◌, length}
use Rattle.definitions.specs.declared.Order.{Order}
use Rattle.definitions.specs.Table.{rule_string}
use Rattle.lyndon.specs.Shapes.{Shaped}
use Rattle.layout.specs.Layout.{WORK, length_in}

-- a table without a bad word, and a work slice for it
pub record InShape (t w : List ℕ) : Type 0 where
  pub shaped : Shaped t
  pub few : length t ≤ 4608
  pub long : WORK ≤ length w

-- the first n rules have their lengths, none above 2,048
pub record Sized (t : List ℕ) (n : ℕ) (w : List ℕ) : Type 0 where
  pub lent : InShape t w
  pub short : (r : ℕ) → r < n → length_in w r ≤ 2048
  pub sizes : (o : Order) (r : ℕ) → r < n → length_in w r ≡ length (rule_string o t r)
