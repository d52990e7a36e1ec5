-- `place_all` goes from the last rule down. The invariant: the halves of the rules from r on have their places, whatever is loaded.
use mathlib.Core.Path.{◌≡◌, sym, subst}
use Prim.Native.Nat.{ℕ, ◌+◌, ◌-◌}
use native.Mathlib.Omega.{arith}
use Rattle.places.specs.Passes.{Placing}
use Rattle.places.proofs.place_all.Goals as goal

pub loop-r-init : goal.loop-r-init
loop-r-init c g e k = k

pub place_halves-requires : goal.place_halves-requires
place_halves-requires c =
    let (g, q, k) = c.requires in
    let back : c.loop-r.r - 1 + 1 ≡ c.loop-r.r = omega arith in
    (g, omega (arith, q), subst (λ (n : ℕ). Placing g n c.loop-r.work) (sym back) (c.loop-r.invariant g q k))

pub loop-r-preserved : goal.loop-r-preserved
loop-r-preserved c g q k =
    let back : c.loop-r.r - 1 + 1 ≡ c.loop-r.r = omega arith in
    c.place_halves.ensures g (omega arith) (subst (λ (n : ℕ). Placing g n c.loop-r.work) (sym back) (c.loop-r.invariant g q k))

pub returns : goal.returns
returns c g q k =
    let z : c.loop-r.r ≡ 0 = omega arith in
    subst (λ (n : ℕ). Placing g n c.loop-r.work) z (c.loop-r.invariant g q k)
