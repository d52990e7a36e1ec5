-- `write_runs` writes a run a turn, behind those before. The invariant: the runs of the keys passed stand at the front.
use mathlib.Core.Path.{refl}
use Prim.Native.Nat.{◌+◌, ◌*◌, ◌≤◌}
use native.Mathlib.Omega.{arith}
use lib.ListN.{length, length-take, length-drop}
use Rattle.run_keys.proofs.Writing.{runs_none, runs_room, runs_stored, runs_all}
use Rattle.run_keys.proofs.write_runs.Goals.{In-loop-i}
use Rattle.run_keys.proofs.write_runs.Goals as goal

pub loop-i-init : goal.loop-i-init
loop-i-init c = runs_none c.args.q c.args.keys.now c.args.runs.now

-- there is room for one more
room : (t : In-loop-i) → t.args.q * t.loop-i.i + t.args.q ≤ length t.args.runs.now
room t = runs_room t.args.q t.args.keys.now t.args.runs.now t.loop-i.i (omega arith) t.requires.2

pub write_run-requires : goal.write_run-requires
write_run-requires c = simp (length-take, length-drop) (omega (arith, room (goal.at.write_run-requires c).In-loop-i))

pub loop-i-preserved : goal.loop-i-preserved
loop-i-preserved c =
    runs_stored c.args.q c.args.keys.now c.args.runs.now c.loop-i.runs c.write_run.new.run c.loop-i.i _ (omega arith) (room (goal.at.loop-i-preserved c).In-loop-i) refl c.loop-i.invariant c.write_run.ensures

pub returns : goal.returns
returns c =
    let a = c.args in
    runs_all a.q a.keys.now a.runs.now c.loop-i.runs c.loop-i.i (omega arith) c.loop-i.invariant

pub overflow_mul-q : goal.overflow_mul-q
overflow_mul-q c = omega (arith, room (goal.at.overflow_mul-q c).In-loop-i)

pub slice_bounds-write_run-count : goal.slice_bounds-write_run-count
slice_bounds-write_run-count c = omega (arith, room (goal.at.slice_bounds-write_run-count c).In-loop-i)

pub slice_bounds-write_run-start : goal.slice_bounds-write_run-start
slice_bounds-write_run-start c = omega (arith, room (goal.at.slice_bounds-write_run-start c).In-loop-i)
