-- `join_all` joins k times. The invariant: from the state that is held, the joins left give what all of them give.
use Prim.Native.Nat.{◌-◌}
use Rattle.lyndon.specs.Closings.{joins}
use Rattle.stack.specs.Areas.{Joinable, Below}
use Rattle.stack.proofs.Pushing.{Left}
use Rattle.stack.proofs.join_all.Given as goal

abbrev pub invariant-loop : goal.invariant-loop
invariant-loop l = Below l.initial.work l.work
    × ((p : Joinable l.initial.work l.initial.t.rules l.initial.t.depth l.k) → Left l.work l.t.rules l.t.depth (l.k - l.counter) p.o (joins l.k p.s))
