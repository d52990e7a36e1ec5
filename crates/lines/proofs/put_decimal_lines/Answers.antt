-- `put_decimal_lines` writes a line a turn, in the rest of the slice. The invariant: the lines of the numbers passed stand at the front.
use mathlib.Core.Path.{ap}
use Prim.Native.Nat.{ℕ, ◌+◌, ◌≤◌}
use native.Mathlib.Omega.{arith}
use lib.ListN.{length, get_or, length-take, length-drop}
use Rattle.definitions.specs.Programs.{decimal, line}
use Rattle.decimals.proofs.Digits.{line_most}
use Rattle.lines.proofs.Turns.{turns_none, turns_room, turns_stored, turns_all}
use Rattle.lines.proofs.Lines.{line_at, lines_turns}
use Rattle.lines.proofs.put_decimal_lines.Goals.{In-loop-number}
use Rattle.lines.proofs.put_decimal_lines.Goals as goal

pub loop-number-init : goal.loop-number-init
loop-number-init c =
    let a = c.args in
    (turns_none (line_at decimal a.numbers.now) a.out.now)

-- there is room for one more
room : (t : In-loop-number) → t.loop-number.n + 11 ≤ length t.args.out.now
room t =
    turns_room (line_at decimal t.args.numbers.now) 11 t.loop-number.number-index (length t.args.numbers.now) (λ j h. line_most (get_or t.args.numbers.now j 0)) (omega (arith, t.loop-number-test.true)) t.requires t.loop-number.invariant

pub slice_bounds-put_decimal_line-count : goal.slice_bounds-put_decimal_line-count
slice_bounds-put_decimal_line-count c = omega (arith, room (goal.at.slice_bounds-put_decimal_line-count c).In-loop-number)

pub slice_bounds-put_decimal_line-start : goal.slice_bounds-put_decimal_line-start
slice_bounds-put_decimal_line-start c = omega (arith, room (goal.at.slice_bounds-put_decimal_line-start c).In-loop-number)

pub put_decimal_line-n-requires : goal.put_decimal_line-n-requires
put_decimal_line-n-requires c = simp (length-take, length-drop) (omega (arith, room (goal.at.put_decimal_line-n-requires c).In-loop-number))

pub overflow_add-n : goal.overflow_add-n
overflow_add-n c =
    omega (arith, room (goal.at.overflow_add-n c).In-loop-number, c.put_decimal_line-n.ensures.value, line_most c.wide.result)

pub loop-number-preserved : goal.loop-number-preserved
loop-number-preserved c =
    let a = c.args in
    let e = ap (λ (n : ℕ). line (decimal n)) c.wide.ensures in
    let more = turns_stored (line_at decimal a.numbers.now) c.loop-number.number-index e (omega (arith, room (goal.at.loop-number-preserved c).In-loop-number, line_most (get_or a.numbers.now c.loop-number.number-index 0))) c.loop-number.invariant c.put_decimal_line-n.ensures.value c.put_decimal_line-n.ensures.out_after in
    more.1

pub returns : goal.returns
returns c =
    let numbers = c.args.numbers.now in
    let (first, second) = turns_all (line_at decimal numbers) c.loop-number.number-index (length numbers) (omega arith) (lines_turns decimal numbers) c.loop-number.invariant in
    record { value = first; out_after = second }
