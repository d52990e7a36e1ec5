-- `enter_below` goes from the last rule down. The invariant: the rules from r on are entered.
use mathlib.Core.Path.{◌≡◌, refl, subst}
use Prim.Native.Nat.{ℕ, ◌+◌, ◌-◌}
use native.Mathlib.Omega.{arith}
use Rattle.lists.specs.Bools.{contra}
use Rattle.entries.specs.Entries.{Entered}
use Rattle.entries.proofs.Steps.{all_placed}
use Rattle.entries.proofs.enter_below.Goals as goal

pub enter_halves-requires : goal.enter_halves-requires
enter_halves-requires c =
    let one : c.loop-r.r ≡ c.loop-r.r - 1 + 1 = omega arith in
    (subst (λ (n : ℕ). Entered c.args.table.now n c.loop-r.work) one c.loop-r.invariant, omega arith)

pub returns : goal.returns
returns c =
    let z : c.loop-r.r ≡ 0 = omega arith in
    (λ e. all_placed (subst (λ (n : ℕ). Entered c.args.table.now n c.loop-r.work) z c.loop-r.invariant), λ e. contra refl e)
