-- What rule r of a table is, by its two words: below 2 ^ 30 the first is a symbol's number, and else that of a left half.
use Rattle.std.specs.Prelude.{cond, List, ℕ, ◌+◌, ◌*◌, ◌%◌, take, drop, get_or, ltb}
use Rattle.layout.specs.Layout.{TABLE, KIND}
use Rattle.decoding.specs.declared.Rule.{Rule}
use Rattle.decoding.specs.declared.Rule.TheVariants.{Symbol, Pair}

unfoldable pub rule_at : List ℕ → ℕ → Rule
rule_at t r =
    let x = get_or t (2 * r) 0 in
    let y = get_or t (2 * r + 1) 0 in
    cond (ltb x KIND) (Symbol x (y % KIND)) (Pair (x % KIND) (y % KIND))

-- the same in the table area of the work slice
unfoldable pub rule_in : List ℕ → ℕ → Rule
rule_in w r = rule_at (take 4608 (drop TABLE w)) r

-- the halves of rule r there, where it is a pair
unfoldable pub left_in : List ℕ → ℕ → ℕ
left_in w r = get_or w (TABLE + 2 * r) 0 % KIND

unfoldable pub right_in : List ℕ → ℕ → ℕ
right_in w r = get_or w (TABLE + 2 * r + 1) 0 % KIND
