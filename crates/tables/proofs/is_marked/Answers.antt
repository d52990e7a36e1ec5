-- `is_marked` decides whether the first rank alone is the mark. The loop's invariant: it is decided of the ranks passed.
use mathlib.Core.Path.{◌≡◌, ◌∙◌, ap, subst}
use Prim.Native.Nat.{ℕ, ◌+◌, ◌-◌}
use native.Mathlib.Omega.{arith}
use lib.ListN.{take, drop, get_or, length-take, length-drop}
use borrow.Author.Tests.{not-true, not-false}
use Rattle.lists.specs.Parts.{part, part_at}
use Rattle.tables.proofs.Marks.{Decided, first_decided, next_decided}
use Rattle.tables.proofs.is_marked.Goals as goal

pub loop-rank-init : goal.loop-rank-init
loop-rank-init c = first_decided c.args.work.now

pub loop-rank-preserved : goal.loop-rank-preserved
unfolding part
loop-rank-preserved c =
    let w = c.args.work.now in
    let i = c.loop-rank.rank-index in
    let rest = c.args.n - 1 in
    let here : get_or (take rest (drop 1 w)) i 0 ≡ get_or w (i + 1) 0 = part_at 1 rest w i 0 (omega (arith, length-take {A = ℕ}, length-drop {A = ℕ})) ∙ ap (λ (j : ℕ). get_or w j 0) (omega arith) in
    rw here (next_decided w (i + 1) c.loop-rank.refuted (omega arith) c.loop-rank.invariant)

pub returns : goal.returns
returns c =
    let all : c.loop-rank.rank-index + 1 ≡ c.args.n = omega (arith, length-take {A = ℕ}, length-drop {A = ℕ}) in
    let d = subst (λ (n : ℕ). Decided c.loop-rank.refuted c.args.work.now n) all c.loop-rank.invariant in
    (λ e. d.0 (not-true c.loop-rank.refuted e), λ e. d.1 (not-false c.loop-rank.refuted e))
