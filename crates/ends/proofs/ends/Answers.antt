-- `ends` goes from the last place to the first. The invariant: the places from i on are done.
use mathlib.Core.Path.{◌≡◌, subst}
use mathlib.Core.List.{List}
use Prim.Native.Nat.{ℕ, suc, ◌-◌}
use native.Mathlib.Omega.{arith}
use Rattle.ends.specs.Areas.{Ended}
use Rattle.ends.proofs.Areas.{none_ended, text_same}
use Rattle.ends.proofs.ends.Goals as goal

pub loop-i-init : goal.loop-i-init
loop-i-init c = let a = c.args in none_ended a.work.now a.n (omega arith)

pub end_at-requires : goal.end_at-requires
end_at-requires c =
    let a = c.args in
    let back : suc (c.loop-i.i - 1) ≡ c.loop-i.i = omega arith in
    let e = text_same a.work.now c.loop-i.work a.n c.loop-i.i (omega arith) c.loop-i.invariant in
    (omega arith, omega arith, omega arith, rw (e, back) c.loop-i.invariant)

pub loop-i-preserved : goal.loop-i-preserved
loop-i-preserved c =
    let a = c.args in
    subst (λ (s : List ℕ). Ended s (c.loop-i.i - 1) c.end_at.new.work) (text_same a.work.now c.loop-i.work a.n c.loop-i.i (omega arith) c.loop-i.invariant) c.end_at.ensures
