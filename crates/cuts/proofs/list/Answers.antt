-- `list` writes the listed cuts run by run. The loop's invariant: the scan has reached `start`, and the cuts before it stand at the front.
use mathlib.Core.Path.{refl, sym, ◌∙◌, ap}
use mathlib.Core.List.{List, map}
use Prim.Native.Nat.{ℕ}
use native.Mathlib.Omega.{arith}
use lib.ListN.{length}
use Rattle.definitions.specs.Words.{placed}
use Rattle.definitions.specs.Table.{rank_of}
use Rattle.lists.specs.Lists.{placed_none}
use Rattle.runs.proofs.Scanning.{scan_start}
use Rattle.cuts.proofs.Lists.{none_passed, all_passed, run_inside, run_room, run_written}
use Rattle.cuts.proofs.list.Goals as goal

pub loop-start-init : goal.loop-start-init
loop-start-init c =
    let a = c.args in
    let none = none_passed a.order a.pattern.now in
    (refl, scan_start (map (rank_of a.order) a.pattern.now), ap length (sym none), sym (ap (λ (l : List ℕ). placed l a.cuts.now) none ∙ placed_none a.cuts.now))

pub scan-run-requires : goal.scan-run-requires
scan-run-requires c = (omega (arith, c.loop-start-test.true, c.loop-start.invariant.0), c.requires.1)

pub append_run-n-requires : goal.append_run-n-requires
append_run-n-requires c =
    let a = c.args in
    let run = c.scan-run.result in
    let (e, t) = c.scan-run.ensures in
    let inside = run_inside a.order a.pattern.now c.loop-start.start run.start run.back run.end run.next e c.loop-start.invariant.1 t in (
      omega (
        arith,
        c.loop-start.auto.cuts,
        run_room a.order a.pattern.now c.loop-start.start run.start run.back run.end run.next e c.loop-start.invariant.1 t
            c.loop-start.n (length a.cuts.now) c.loop-start.invariant.2 c.requires.0,
      ),
      omega (arith, inside, e, t.stopped.running.low, t.stopped.running.high, c.requires.1),
      omega (arith, inside, t.stopped.running.high, c.requires.1),
    )

pub loop-start-smaller : goal.loop-start-smaller
loop-start-smaller c =
    let t = c.scan-run.ensures.1 in
    omega (arith, c.loop-start-test.true, t.low, t.stopped.running.low)

pub loop-start-preserved : goal.loop-start-preserved
loop-start-preserved c =
    let a = c.args in
    let run = c.scan-run.result in
    let (e, t) = c.scan-run.ensures in
    let (x, y, z) = run_written a.order a.pattern.now c.loop-start.start run.start run.back run.end run.next e c.loop-start.invariant.1 t
    c.loop-start.n c.append_run-n.result a.cuts.now c.loop-start.cuts c.append_run-n.new.cuts c.requires.0 c.loop-start.invariant.2 c.loop-start.invariant.3 c.append_run-n.ensures in
    (refl, x, y, z)

pub returns : goal.returns
returns c =
    let a = c.args in
    let all = all_passed a.order a.pattern.now c.loop-start.start c.loop-start.invariant.1 c.loop-start-test.false in
    (c.loop-start.invariant.2 ∙ ap length all, c.loop-start.invariant.3 ∙ ap (λ (l : List ℕ). placed l a.cuts.now) all)
