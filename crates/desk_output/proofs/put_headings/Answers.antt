-- `put_headings` writes a line a turn, in the rest of the slice. The invariant: the lines of the headings passed stand at the front.
use mathlib.Core.Path.{◌∙◌, ap}
use Prim.Native.Nat.{◌+◌, ◌≤◌}
use native.Mathlib.Omega.{arith}
use lib.ListN.{length, get_or, length-take, length-drop}
use Rattle.definitions.specs.Programs.{line, heading_name}
use Rattle.lines.proofs.Turns.{turns_none, turns_room, turns_stored, turns_all}
use Rattle.lines.proofs.Lines.{line_at, lines_turns}
use Rattle.desk_output.proofs.Names.{name_most, name_short}
use Rattle.desk_output.proofs.put_headings.Goals.{In-loop-heading}
use Rattle.desk_output.proofs.put_headings.Goals as goal

pub loop-heading-init : goal.loop-heading-init
loop-heading-init c = turns_none (line_at heading_name c.args.headings.now) c.args.out.now

-- there is room for one more
room : (t : In-loop-heading) → t.loop-heading.n + 14 ≤ length t.args.out.now
room t =
    turns_room (line_at heading_name t.args.headings.now) 14 t.loop-heading.heading-index (length t.args.headings.now) (λ j h. name_most (get_or t.args.headings.now j 0))
    (omega (arith, t.loop-heading-test.true)) t.requires t.loop-heading.invariant

pub slice_bounds-put_line-count : goal.slice_bounds-put_line-count
slice_bounds-put_line-count c = omega (arith, room (goal.at.slice_bounds-put_line-count c).In-loop-heading)

pub slice_bounds-put_line-start : goal.slice_bounds-put_line-start
slice_bounds-put_line-start c = omega (arith, room (goal.at.slice_bounds-put_line-start c).In-loop-heading)

pub put_line-n-requires : goal.put_line-n-requires
put_line-n-requires c =
    simp (length-take, length-drop)
    (omega (arith, room (goal.at.put_line-n-requires c).In-loop-heading, ap length c.name_of.ensures, name_short (get_or c.args.headings.now c.loop-heading.heading-index 0)))

pub overflow_add-n : goal.overflow_add-n
overflow_add-n c =
    omega (arith, room (goal.at.overflow_add-n c).In-loop-heading, c.put_line-n.ensures.value ∙ ap (λ l. length (line l)) c.name_of.ensures, name_most (get_or c.args.headings.now c.loop-heading.heading-index 0))

pub loop-heading-preserved : goal.loop-heading-preserved
loop-heading-preserved c =
    let headings = c.args.headings.now in
    (turns_stored (line_at heading_name headings) c.loop-heading.heading-index (ap line c.name_of.ensures)
    (omega (arith, room (goal.at.loop-heading-preserved c).In-loop-heading, name_most (get_or headings c.loop-heading.heading-index 0)))
    c.loop-heading.invariant c.put_line-n.ensures.value c.put_line-n.ensures.out_after).1

pub returns : goal.returns
returns c =
    let headings = c.args.headings.now in
    let (first, second) = turns_all (line_at heading_name headings) c.loop-heading.heading-index (length headings) (omega arith) (lines_turns heading_name headings) c.loop-heading.invariant in
    record { value = first; out_after = second }
