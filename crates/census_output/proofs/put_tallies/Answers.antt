-- `put_tallies` writes a line a turn, in the rest of the slice. The invariant: the lines of the runs passed stand at the front.
use mathlib.Core.Path.{◌≡◌, refl, ◌∙◌, ap, ap₂}
use mathlib.Core.List.{List}
use Prim.Native.Nat.{ℕ, ◌+◌, ◌-◌, ◌*◌, ◌≤◌, ◌<◌}
use native.Mathlib.Omega.{arith}
use lib.ListN.{length, take, drop, length-take, length-drop}
use Rattle.definitions.specs.Programs.{named, spaced}
use Rattle.lyndon.specs.Ranks.{slice_bytes}
use Rattle.lines.proofs.Turns.{turns_none, turns_spare, turns_stored, turns_all}
use Rattle.census_output.specs.Reports.{tally, tallies}
use Rattle.census_output.proofs.Tallying.{tally_within, tally_run, tally_most}
use Rattle.census_output.proofs.put_tallies.Goals.{In-loop-i, After-wide}
use Rattle.census_output.proofs.put_tallies.Goals as goal

pub loop-i-init : goal.loop-i-init
loop-i-init c =
    let a = c.args in
    turns_none (tally a.q a.runs.now a.counts.now) a.out.now

module _ (t : In-loop-i) where
  -- the run stands within the slice
  within : t.args.q * t.loop-i.i + t.args.q ≤ length t.args.runs.now
  within = tally_within t.args.q t.args.runs.now t.args.counts.now t.requires.0 t.loop-i.i (omega (arith, t.loop-i-test.true))

  small : (j : ℕ) → j < length t.args.counts.now → length (tally t.args.q t.args.runs.now t.args.counts.now j) ≤ 4 * t.args.q + 5
  small = tally_most t.args.q t.args.runs.now t.args.counts.now t.requires.0 (slice_bytes t.args.runs.now (λ i h. omega (arith, t.type_inv.runs i)))

  -- there is room for one more
  room : t.loop-i.n + (4 * t.args.q + 5) + 11 ≤ length t.args.out.now
  room =
      turns_spare (tally t.args.q t.args.runs.now t.args.counts.now) (4 * t.args.q + 5) 11 t.loop-i.i (length t.args.counts.now) small (omega (arith, t.loop-i-test.true)) t.requires.1 t.loop-i.invariant

pub overflow_mul-start : goal.overflow_mul-start
overflow_mul-start c = omega (arith, within (goal.at.overflow_mul-start c).In-loop-i)

pub slice_bounds-put_tally-end : goal.slice_bounds-put_tally-end
slice_bounds-put_tally-end c = omega (arith, within (goal.at.slice_bounds-put_tally-end c).In-loop-i)

pub slice_bounds-put_tally-count-in-loop-i : goal.slice_bounds-put_tally-count-in-loop-i
slice_bounds-put_tally-count-in-loop-i c = omega (arith, room (goal.at.slice_bounds-put_tally-count-in-loop-i c).In-loop-i)

pub slice_bounds-put_tally-start-in-loop-i : goal.slice_bounds-put_tally-start-in-loop-i
slice_bounds-put_tally-start-in-loop-i c = omega (arith, room (goal.at.slice_bounds-put_tally-start-in-loop-i c).In-loop-i)

pub put_tally-n-requires : goal.put_tally-n-requires
put_tally-n-requires c = simp (length-take, length-drop) (omega (arith, room (goal.at.put_tally-n-requires c).In-loop-i))

-- the line of the run at i, as code takes it
line_at : (w : After-wide) → let a = w.args in
    named (spaced (take (a.q * w.loop-i.i + a.q - a.q * w.loop-i.i) (drop (a.q * w.loop-i.i) a.runs.now))) w.wide.result ≡ tally a.q a.runs.now a.counts.now w.loop-i.i
unfolding tally
line_at w =
    let a = w.args in
    ap₂ {C = List ℕ} (λ (x : List ℕ) (n : ℕ). named (spaced x) n) (tally_run a.q a.runs.now a.counts.now w.requires.0 w.loop-i.i) w.wide.ensures

pub overflow_add-n : goal.overflow_add-n
overflow_add-n c =
    omega (arith, room (goal.at.overflow_add-n c).In-loop-i, c.put_tally-n.ensures.value ∙ ap length (line_at (goal.at.overflow_add-n c).After-wide), small (goal.at.overflow_add-n c).In-loop-i c.loop-i.i (omega (arith, c.loop-i-test.true)))

pub loop-i-preserved : goal.loop-i-preserved
loop-i-preserved c =
    let a = c.args in
    let more = turns_stored (tally a.q a.runs.now a.counts.now) c.loop-i.i (line_at (goal.at.loop-i-preserved c).After-wide) (omega (arith, room (goal.at.loop-i-preserved c).In-loop-i, small (goal.at.loop-i-preserved c).In-loop-i c.loop-i.i (omega (arith, c.loop-i-test.true)))) c.loop-i.invariant c.put_tally-n.ensures.value c.put_tally-n.ensures.out_after in
    more.1

pub returns : goal.returns
unfolding tallies
returns c =
    let a = c.args in
    let (first, second) = turns_all (tally a.q a.runs.now a.counts.now) c.loop-i.i (length a.counts.now) (omega arith) refl c.loop-i.invariant in
    record { value = first; out_after = second }
