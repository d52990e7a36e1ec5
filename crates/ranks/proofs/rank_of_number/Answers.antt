-- `rank_of_number` is the rank of the byte that is one less, as in the definition.
use mathlib.Core.Path.{◌≡◌, ◌∙◌, ap}
use Prim.Native.Nat.{ℕ, zero, suc, ◌-◌, ◌<◌}
use native.Mathlib.Omega.{arith}
use Rattle.definitions.specs.declared.Order.{Order}
use Rattle.definitions.specs.Table.{rank_of, rank_of_number}
use Rattle.ranks.proofs.rank_of_number.Goals as goal

of_sample : (o : Order) (n : ℕ) → 0 < n → rank_of o (n - 1) ≡ rank_of_number o n
unfolding rank_of_number
of_sample o zero h = absurd (omega arith)
of_sample o (suc n) h = ap (rank_of o) (omega arith)

pub returns : goal.returns
returns c = c.rank_of.ensures ∙ of_sample c.args.order c.args.number c.requires.0
