-- `lowest_off` goes down from the last byte. The loop's invariant: the lowest of the bytes passed that is above 8 is known.
use Rattle.naive_profile.proofs.Lowest.{LowestFrom}
use Rattle.naive_profile.proofs.lowest_off.Given as goal

abbrev pub invariant-loop-i : goal.invariant-loop-i
invariant-loop-i l = LowestFrom l.drive l.i l.lowest
