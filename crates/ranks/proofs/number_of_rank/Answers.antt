-- `number_of_rank` is one more than the byte, as in the definition.
use mathlib.Core.Path.{◌≡◌, ◌∙◌, ap}
use Prim.Native.Nat.{ℕ, zero, suc, ◌+◌, ◌<◌}
use native.Mathlib.Omega.{arith}
use native.Mathlib.Numerals.{add-one}
use Rattle.definitions.specs.declared.Order.{Order}
use Rattle.definitions.specs.Table.{byte_of, number_of_rank}
use Rattle.ranks.proofs.number_of_rank.Goals as goal

one_more : (o : Order) (r b : ℕ) → 0 < r → b ≡ byte_of o r → b + 1 ≡ number_of_rank o r
unfolding number_of_rank
one_more o zero b h e = absurd (omega arith)
one_more o (suc r) b h e = add-one b ∙ ap suc e

pub returns : goal.returns
returns c = one_more c.args.order c.args.rank c.byte_of.result c.requires.0 c.byte_of.ensures
