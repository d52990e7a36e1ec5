-- `byte_of` is the definition's byte, order by order.
use mathlib.Core.Path.{◌≡◌, refl}
use Prim.Native.Nat.{ℕ, ◌+◌, ◌-◌, ◌%◌}
use Rattle.definitions.specs.declared.Order.{Order}
use Rattle.definitions.specs.declared.Order.TheVariants.{Unsigned, Signed}
use Rattle.definitions.specs.Table.{byte_of}
use Rattle.ranks.proofs.byte_of.Goals as goal

unsigned : (o : Order) (r : ℕ) → o ≡ Unsigned → r - 1 ≡ byte_of o r
unfolding byte_of
unsigned o r e = rw e refl

signed : (o : Order) (r : ℕ) → o ≡ Signed → (r + 127) % 256 ≡ byte_of o r
unfolding byte_of
signed o r e = rw e refl

pub returns-in-Unsigned : goal.returns-in-Unsigned
returns-in-Unsigned c = let a = c.args in unsigned a.order a.rank c.in-Unsigned.is

pub returns-in-Signed : goal.returns-in-Signed
returns-in-Signed c = let a = c.args in signed a.order a.rank c.in-Signed.is
