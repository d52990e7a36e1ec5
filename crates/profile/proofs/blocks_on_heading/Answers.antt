-- `blocks_on_heading` looks at a block a turn. The loop's invariant: the bytes of the blocks passed are on heading.
use mathlib.Core.Path.{◌≡◌, refl, sym, ◌∙◌, subst}
use mathlib.Core.Bool.{true}
use Prim.Native.Nat.{ℕ, ◌+◌, ◌*◌, ◌/◌}
use native.Mathlib.Omega.{arith}
use lib.ListN.{length}
use Rattle.definitions.specs.Words.{every}
use Rattle.definitions.specs.Profile.{on_heading}
use Rattle.profile.proofs.Headings.{part_more}
use Rattle.profile.proofs.blocks_on_heading.Goals as goal

pub loop-i-init : goal.loop-i-init
unfolding every
loop-i-init c = refl

pub returns-then-not-all_on_heading : goal.returns-then-not-all_on_heading
returns-then-not-all_on_heading c = (omega arith, c.loop-i.invariant)

pub loop-i-preserved : goal.loop-i-preserved
loop-i-preserved c =
    let text = c.args.text.now in
    let i = c.loop-i.i in
    let next : 16 * i + 16 ≡ 16 * (i + 1) = omega arith in
    subst (λ (n : ℕ). every (on_heading text) n ≡ true) next
    (part_more text (16 * i) (16 * i + 16) (omega arith) (omega arith) c.loop-i.invariant (sym c.all_on_heading.ensures ∙ c.if-not-all_on_heading.false))

pub returns : goal.returns
returns c =
    let text = c.args.text.now in
    let end : 16 * c.loop-i.i ≡ 16 * (length text / 16) = omega arith in
    (omega arith, subst (λ (n : ℕ). every (on_heading text) n ≡ true) end c.loop-i.invariant)
