-- `symbol_rank` is the mark's rank, or a sample's.
use mathlib.Core.Path.{◌≡◌, refl}
use Prim.Native.Nat.{ℕ}
use Rattle.definitions.specs.declared.Order.{Order}
use Rattle.definitions.specs.Table.{rank_of_number}
use Rattle.expansion.proofs.symbol_rank.Goals as goal

of_mark : (o : Order) (n : ℕ) → n ≡ 0 → 0 ≡ rank_of_number o n
unfolding rank_of_number
of_mark o n e = rw e refl

pub returns-then-number-eq0 : goal.returns-then-number-eq0
returns-then-number-eq0 c = let a = c.args in of_mark a.order a.number c.if-number-eq0.true
