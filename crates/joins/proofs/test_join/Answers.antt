-- `test_join` tests the cuts upwards, from the first whose tail fits. The loop's invariant: what is found is found at the cuts passed, the tests are those of them that
-- fit, and the tails of the others fit. NO_CUT ends the loop, if no cut does.
use mathlib.Core.Path.{refl}
use Prim.Native.Nat.{◌+◌, ◌-◌, ◌≤◌, ◌<◌}
use native.Mathlib.Omega.{arith}
use lib.ListN.{get_or}
use Rattle.layout.specs.Layout.{CUTS}
use Rattle.joins.proofs.Joining.{nowhere, missed_first, sought_more, sought_all, cut_range, cut_inside, fitting_start, fitting_more, fitting_all}
use Rattle.joins.proofs.test_join.Goals.{In-loop-pattern}
use Rattle.joins.proofs.test_join.Goals as goal

pub loop-pattern-init : goal.loop-pattern-init
loop-pattern-init c =
    let a = c.args in
    let f = c.first_fitting-i.ensures in
    let none = fitting_start a.work.now a.pattern.size a.pattern.cuts a.at a.left a.right c.requires.0.tried c.requires.1 c.requires.2 c.first_fitting-i.result f in (
      refl,
      f.most,
      f.behind,
      nowhere refl (missed_first a.work.now a.pattern.size a.pattern.cuts a.at a.left a.right c.requires.0.tried c.requires.1 c.requires.2 c.first_fitting-i.result f),
      omega (arith, none),
      omega arith,
    )

-- the cut that is tested
cut_here : (c : In-loop-pattern) → let a = c.args in
    let x = get_or a.work.now (CUTS + c.loop-pattern.i) 0 in
    (c.loop-pattern.i < a.pattern.cuts) × (0 < x) × (x < a.pattern.size) × (x ≤ a.left) × (a.pattern.size - x ≤ a.right)
cut_here c =
    let a = c.args in
    let i = c.loop-pattern.i in
    let short : get_or a.work.now (CUTS + i) 0 ≤ a.left = omega (arith, c.loop-pattern-test.true, c.wide.ensures) in
    let low = cut_inside a.work.now a.pattern.size a.pattern.cuts a.at a.left a.right c.requires.0.tried c.requires.1 c.requires.2 i c.loop-pattern.invariant.1 short in
    let (some, less) = cut_range a.work.now a.pattern.size a.pattern.cuts c.requires.0.tried c.requires.2 i low in
    (low, some, less, short, c.loop-pattern.invariant.2 i (omega arith) low)

pub bounds-work-i : goal.bounds-work-i
bounds-work-i c =
    omega (arith, c.loop-pattern.invariant.1, c.requires.0.tried.few, c.requires.2)

pub test_cut-tested-requires : goal.test_cut-tested-requires
test_cut-tested-requires c =
    let (low, some, less, short, tail) = cut_here (goal.at.test_cut-tested-requires c).In-loop-pattern in
    (record { some = some; inside = less; short = c.requires.0.tried.short; front = omega (arith, c.loop-pattern.invariant.0); tail = omega (arith, c.loop-pattern.invariant.0, c.requires.1) }, c.requires.2, omega (arith, low, c.loop-pattern.invariant.5, c.requires.0.tried.few, c.requires.3))

pub loop-pattern-preserved : goal.loop-pattern-preserved
loop-pattern-preserved c =
    let a = c.args in
    let i = c.loop-pattern.i in
    let x = get_or a.work.now (CUTS + i) 0 in
    let (low, some, less, short, tail) = cut_here (goal.at.loop-pattern-preserved c).In-loop-pattern in
    let more = fitting_more a.work.now a.pattern.size a.pattern.cuts a.at a.left a.right c.requires.0.tried c.requires.1 c.requires.2 i low short tail in (
      refl,
      omega arith,
      λ j l h. c.loop-pattern.invariant.2 j (omega arith) h,
      sought_more a.work.now a.pattern.size a.pattern.cuts a.at a.left a.right c.requires.0.tried c.requires.1 c.requires.2 i x c.loop-pattern.tested.found c.test_cut-tested.result.found low refl short tail c.loop-pattern.invariant.3 c.test_cut-tested.ensures.0,
      omega (arith, c.test_cut-tested.ensures.1, c.loop-pattern.invariant.4, more),
      omega (arith, c.test_cut-tested.ensures.1, c.loop-pattern.invariant.5),
    )

pub returns : goal.returns
returns c =
    let a = c.args in
    let i = c.loop-pattern.i in
    let longer : a.left < get_or a.work.now (CUTS + i) 0 = omega (arith, c.loop-pattern-test.false, c.wide.ensures) in
    let all = fitting_all a.work.now a.pattern.size a.pattern.cuts a.at a.left a.right c.requires.0.tried c.requires.1 c.requires.2 i c.loop-pattern.invariant.1 longer in (
      sought_all a.work.now a.pattern.size a.pattern.cuts a.at a.left a.right c.requires.0.tried c.requires.1 c.requires.2 i c.loop-pattern.tested.found longer c.loop-pattern.invariant.3,
      omega (arith, c.loop-pattern.invariant.4, all),
    )

pub overflow_add-join : goal.overflow_add-join
overflow_add-join c = omega (arith, c.requires.1)

pub first_fitting-i-requires : goal.first_fitting-i-requires
first_fitting-i-requires c = (c.requires.0, c.requires.2)

pub overflow_add-i : goal.overflow_add-i
overflow_add-i c = omega (arith, c.loop-pattern.invariant.1, c.requires.0.tried.few)

pub offset_bounds-work-i : goal.offset_bounds-work-i
offset_bounds-work-i c = omega (arith, c.loop-pattern.invariant.1, c.requires.0.tried.few)

pub overflow_add-i-in-loop-pattern : goal.overflow_add-i-in-loop-pattern
overflow_add-i-in-loop-pattern c = omega (arith, c.loop-pattern.invariant.1, c.requires.0.tried.few)

pub offset_bounds-work-i-in-loop-pattern : goal.offset_bounds-work-i-in-loop-pattern
offset_bounds-work-i-in-loop-pattern c = omega (arith, c.loop-pattern.invariant.1, c.requires.0.tried.few)

pub bounds-work-i-in-loop-pattern : goal.bounds-work-i-in-loop-pattern
bounds-work-i-in-loop-pattern c = omega (arith, c.loop-pattern.invariant.1, c.requires.0.tried.few, c.requires.2)

pub overflow_add-i-in-loop-pattern-2 : goal.overflow_add-i-in-loop-pattern-2
overflow_add-i-in-loop-pattern-2 c = omega (arith, c.loop-pattern.invariant.1, c.requires.0.tried.few)

pub loop-pattern-smaller : goal.loop-pattern-smaller
loop-pattern-smaller c = let k = cut_here (goal.at.loop-pattern-smaller c).In-loop-pattern in omega (arith, k.0)
