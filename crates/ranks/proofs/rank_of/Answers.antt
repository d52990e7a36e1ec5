-- `rank_of` is the definition's rank, order by order.
use mathlib.Core.Path.{◌≡◌}
use Prim.Native.Nat.{ℕ, ◌+◌, ◌%◌}
use native.Mathlib.Numerals.{add-one}
use Rattle.definitions.specs.declared.Order.{Order}
use Rattle.definitions.specs.declared.Order.TheVariants.{Unsigned, Signed}
use Rattle.definitions.specs.Table.{rank_of}
use Rattle.ranks.proofs.rank_of.Goals as goal

unsigned : (o : Order) (b : ℕ) → o ≡ Unsigned → b + 1 ≡ rank_of o b
unfolding rank_of
unsigned o b e = rw e (add-one b)

signed : (o : Order) (b : ℕ) → o ≡ Signed → (b + 128) % 256 + 1 ≡ rank_of o b
unfolding rank_of
signed o b e = rw e (add-one ((b + 128) % 256))

pub returns-in-Unsigned : goal.returns-in-Unsigned
returns-in-Unsigned c = let a = c.args in unsigned a.order a.byte c.in-Unsigned.is

pub returns-in-Signed : goal.returns-in-Signed
returns-in-Signed c = let a = c.args in signed a.order a.byte c.in-Signed.is
