-- `straddles` compares two parts of the work slice. If their samples before the cut differ, so do they.
use mathlib.Core.Path.{◌≡◌, sym, ◌∙◌, ap, ap₂}
use mathlib.Core.Bool.{Bool, false}
use mathlib.Core.List.{List}
use Prim.Native.Nat.{ℕ, ◌+◌, ◌-◌, ◌<◌}
use native.Mathlib.Omega.{arith}
use lib.ListN.{get_or}
use borrow.Author.Tests.{ne_eqb}
use Rattle.definitions.specs.Words.{same}
use Rattle.lists.specs.Bools.{not_so}
use Rattle.lists.specs.Parts.{part, part_at, part_taken}
use Rattle.lists.specs.Strings.{same_eq}
use Rattle.layout.specs.Layout.{PATTERN}
use Rattle.joins.specs.Joining.{Fitting}
use Rattle.joins.proofs.straddles.Goals as goal

differ : (w : List ℕ) (m c join : ℕ) → Fitting m c join → (get_or w (join - 1) 0 ≡ get_or w (PATTERN + c - 1) 0 → ⊥) → false ≡ same (part (join - c) m w) (part PATTERN m w)
differ w m c join h d =
    let front : join - c + (c - 1) ≡ join - 1 = omega (arith, h.some, h.front) in
    let here : PATTERN + (c - 1) ≡ PATTERN + c - 1 = omega (arith, h.some) in
    let inside : c - 1 < m = omega (arith, h.inside) in
    sym (not_so (same (part (join - c) m w) (part PATTERN m w))
    (λ e. d
    (ap (λ (i : ℕ). get_or w i 0) (sym front)
    ∙ sym (part_at (join - c) m w (c - 1) 0 inside)
    ∙ ap (λ (l : List ℕ). get_or l (c - 1) 0) (same_eq (part (join - c) m w) (part PATTERN m w) e)
    ∙ part_at PATTERN m w (c - 1) 0 inside
    ∙ ap (λ (i : ℕ). get_or w i 0) here)))

pub returns-else-work-join : goal.returns-else-work-join
returns-else-work-join c =
    let a = c.args in
    ne_eqb _ _ c.if-work-join.false ∙ differ a.work.now a.m a.c a.join c.requires.0 c.if-work-join.false

pub returns-then-work-join : goal.returns-then-work-join
returns-then-work-join c =
    let a = c.args in
    let at = a.join - a.c in
    c.equal.ensures
    ∙ ap₂ {C = Bool} (λ (x y : List ℕ). same x y) (part_taken at (at + a.m - at) a.m a.work.now (omega arith)) (part_taken PATTERN (PATTERN + a.m - PATTERN) a.m a.work.now (omega arith))
