-- `join_all` joins k times. The invariant: from the state that is held, the joins left give what all of them give.
use mathlib.Core.Path.{◌≡◌, refl, sym, ◌∙◌, ap, subst}
use Prim.Native.Nat.{ℕ, ◌+◌, ◌-◌}
use native.Mathlib.Omega.{arith}
use Rattle.lyndon.specs.Closings.{State, joins}
use Rattle.stack.specs.Areas.{Holds}
use Rattle.stack.proofs.Pushing.{Left, left_joins, left_next}
use Rattle.stack.proofs.join_all.Goals as goal

pub loop-init : goal.loop-init
loop-init c =
    let all : c.args.k - 0 ≡ c.args.k = omega arith in
    (refl, λ p. record { s = p.s; holds = p.holds; low = p.low; enough = omega (arith, p.enough); rest = ap (λ (k : ℕ). joins k p.s) all })

pub join_top-t-requires : goal.join_top-t-requires
join_top-t-requires c =
    left_joins c.loop.work c.loop.t.rules c.loop.t.depth (c.args.k - c.loop.counter) c.requires.o (joins c.args.k c.requires.s) (c.loop.invariant.1 c.requires) (omega arith) c.requires.room

pub loop-preserved : goal.loop-preserved
unfolding left_joins
loop-preserved c = (
  c.join_top-t.ensures.1 ∙ c.loop.invariant.0,
  λ p.
      let k = c.args.k - c.loop.counter in
      let all = joins c.args.k p.s in
      let l = c.loop.invariant.1 p in
      let less : k - 1 ≡ c.args.k - (c.loop.counter + 1) = omega arith in
      subst (λ (m : ℕ). Left c.join_top-t.new.work c.join_top-t.result.rules c.join_top-t.result.depth m p.o all) less
      (left_next c.loop.work c.join_top-t.new.work c.loop.t.rules c.join_top-t.result.rules c.loop.t.depth c.join_top-t.result.depth k p.o all l (omega arith)
      (c.join_top-t.ensures.0 (left_joins c.loop.work c.loop.t.rules c.loop.t.depth k p.o all l (omega arith) p.room))),
)

pub returns : goal.returns
unfolding joins
returns c = (
  λ p.
      let l = c.loop.invariant.1 p in
      let z : c.args.k - c.loop.counter ≡ 0 = omega arith in
      subst (λ (s : State). Holds p.o s c.loop.work c.loop.t.rules c.loop.t.depth) (ap (λ (k : ℕ). joins k l.s) (sym z) ∙ l.rest) l.holds,
  c.loop.invariant.0,
)
