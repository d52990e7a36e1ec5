-- `size_all` goes from the first rule up. The invariant: the rules before r have their lengths, whatever is loaded.
use mathlib.Core.Path.{◌≡◌, subst}
use Prim.Native.Nat.{ℕ, ◌<◌}
use native.Mathlib.Omega.{arith}
use Rattle.places.specs.Passes.{rules_in, Sizing}
use Rattle.places.proofs.Sizes.{size_more}
use Rattle.places.proofs.size_all.Goals as goal

pub length_of-n-requires : goal.length_of-n-requires
length_of-n-requires c =
    let (g, e, s) = c.requires in
    (g, omega (arith, e, c.loop-r-test.true), c.loop-r.invariant g e s)

pub put-requires : goal.put-requires
put-requires c =
    let (g, e, s) = c.requires in
    omega (arith, e, s.most, s.kept.long, c.loop-r.auto.work, c.loop-r-test.true)

pub loop-r-preserved : goal.loop-r-preserved
loop-r-preserved c = λ g e s.
    let k = c.loop-r.invariant g e s in
    let low : c.loop-r.r < rules_in g = omega (arith, c.loop-r-test.true) in
    size_more g c.loop-r.work c.loop-r.r k low c.put.new.s c.length_of-n.result (c.length_of-n.ensures g low k) c.put.ensures

pub returns : goal.returns
returns c =
    let z : c.loop-r.r ≡ c.args.rules = omega arith in
    λ g e k. subst (λ (n : ℕ). Sizing g n c.loop-r.work) z (c.loop-r.invariant g e k)

pub loop-r-init : goal.loop-r-init
loop-r-init c g e s = s

pub overflow_add-r : goal.overflow_add-r
overflow_add-r c = omega (arith, c.requires.1, c.requires.2.most, c.loop-r-test.true)
