-- `digit_count` takes a digit away a turn. The invariant: the digits of the whole are those counted and those of the rest.
use Prim.Native.Nat.{◌-◌}
use native.Mathlib.Omega.{arith}
use Rattle.decimals.proofs.Digits.{count_starts, count_small, count_more, count_ends}
use Rattle.decimals.proofs.digit_count.Goals as goal

pub loop-n-init : goal.loop-n-init
loop-n-init c = count_starts c.args.number

pub returns-then-rest-lt10 : goal.returns-then-rest-lt10
returns-then-rest-lt10 c =
    omega (arith, c.loop-n.invariant, count_small (10 - c.loop-n.n) c.loop-n.rest c.if-rest-lt10.true)

pub loop-n-preserved : goal.loop-n-preserved
loop-n-preserved c =
    omega (arith, c.loop-n.invariant, count_more c.loop-n.n c.loop-n.rest (omega arith) (omega arith))

pub returns : goal.returns
returns c =
    omega (arith, c.loop-n.invariant, count_ends c.loop-n.n c.loop-n.rest (omega arith))
