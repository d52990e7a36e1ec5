-- `equal_front` decides sameness of two fronts. The loop's invariant: the words passed agree, so the rest decides.
use mathlib.Core.Path.{◌≡◌, sym, ◌∙◌}
use mathlib.Core.List.{List}
use Prim.Native.Nat.{ℕ, ◌<◌}
use native.Mathlib.Omega.{arith}
use lib.ListN.{take, get_or}
use lib.Seq.{get_or-take, length-take-le}
use Rattle.lists.specs.Sameness.{agree, differ, ended}
use Rattle.equality.proofs.equal_front.Goals as goal

-- the words at i of the fronts are those of the slices
here : (n i : ℕ) (x y : List ℕ) → i < n → get_or x i 0 ≡ get_or y i 0 → get_or (take n x) i 0 ≡ get_or (take n y) i 0
here n i x y h e = get_or-take n x i 0 h ∙ e ∙ sym (get_or-take n y i 0 h)

there : (n i : ℕ) (x y : List ℕ) → i < n → get_or (take n x) i 0 ≡ get_or (take n y) i 0 → get_or x i 0 ≡ get_or y i 0
there n i x y h e = sym (get_or-take n x i 0 h) ∙ e ∙ get_or-take n y i 0 h

pub returns-then-x-i : goal.returns-then-x-i
returns-then-x-i c =
    let a = c.args in
    let i = c.loop-i.i in
    sym (c.loop-i.invariant
    ∙ differ (take a.n a.x.now) (take a.n a.y.now) i (omega (arith, length-take-le a.n a.x.now c.requires.0)) (omega (arith, length-take-le a.n a.y.now c.requires.1))
    (λ e. c.if-x-i.true (there a.n i a.x.now a.y.now c.loop-i-test.true e)))

pub loop-i-preserved : goal.loop-i-preserved
loop-i-preserved c =
    let a = c.args in
    let i = c.loop-i.i in
    c.loop-i.invariant
    ∙ agree (take a.n a.x.now) (take a.n a.y.now) i (omega (arith, length-take-le a.n a.x.now c.requires.0)) (omega (arith, length-take-le a.n a.y.now c.requires.1))
    (here a.n i a.x.now a.y.now c.loop-i-test.true c.if-x-i.false)

pub returns : goal.returns
returns c =
    let a = c.args in
    sym (c.loop-i.invariant
    ∙ ended (take a.n a.x.now) (take a.n a.y.now) c.loop-i.i (omega (arith, length-take-le a.n a.x.now c.requires.0)) (omega (arith, length-take-le a.n a.y.now c.requires.1)))
