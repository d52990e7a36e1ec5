-- `lowest_off` goes down from the last byte.
use native.Mathlib.Omega.{arith}
use Rattle.naive_profile.proofs.Lowest.{lowest_first}
use Rattle.naive_profile.proofs.lowest_off.Goals as goal

pub loop-i-init : goal.loop-i-init
loop-i-init c = record { low = omega arith; high = omega arith; off = λ h. absurd (omega arith); on = λ j a b. absurd (omega arith) }

pub returns : goal.returns
returns c = lowest_first c.args.drive.now c.loop-i.i c.loop-i.lowest (omega arith) c.loop-i.invariant
