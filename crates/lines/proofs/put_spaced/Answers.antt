-- `put_spaced` writes a number and a space a turn, in the rest of the slice. The invariant: those of the bytes passed stand at the front.
use mathlib.Core.Path.{refl, ◌∙◌}
use mathlib.Core.List.{[], ◌∷◌}
use Prim.Native.Nat.{ℕ, ◌+◌, ◌≤◌}
use native.Mathlib.Omega.{arith}
use lib.ListN.{length, get_or, length-append, length-take, length-drop}
use Rattle.definitions.specs.Programs.{decimal}
use Rattle.lines.proofs.Turns.{turns_none, turns_room, turns_stored, turns_all}
use Rattle.lines.proofs.Lines.{spaced_at, spaced_turns, byte_most}
use Rattle.lines.proofs.put_spaced.Goals.{In-loop-byte}
use Rattle.lines.proofs.put_spaced.Goals as goal

pub loop-byte-init : goal.loop-byte-init
loop-byte-init c =
    let a = c.args in
    (turns_none (spaced_at a.bytes.now) a.out.now)

-- each number is a byte, and there is room for one more
module _ (t : In-loop-byte) where
  small : (j : ℕ) → length (spaced_at t.args.bytes.now j) ≤ 4
  small j = byte_most (get_or t.args.bytes.now j 0) (omega (arith, t.type_inv.bytes j))

  room : t.loop-byte.n + 4 ≤ length t.args.out.now
  room =
      turns_room (spaced_at t.args.bytes.now) 4 t.loop-byte.byte-index (length t.args.bytes.now) (λ j h. small j) (omega (arith, t.loop-byte-test.true)) t.requires t.loop-byte.invariant

pub slice_bounds-put_decimal-count : goal.slice_bounds-put_decimal-count
slice_bounds-put_decimal-count c = omega (arith, room (goal.at.slice_bounds-put_decimal-count c).In-loop-byte)

pub slice_bounds-put_decimal-start : goal.slice_bounds-put_decimal-start
slice_bounds-put_decimal-start c = omega (arith, room (goal.at.slice_bounds-put_decimal-start c).In-loop-byte)

-- without what stands behind the number
digits : (t : In-loop-byte) → length (decimal (get_or t.args.bytes.now t.loop-byte.byte-index 0)) ≤ 3
digits t =
    omega (arith, small t t.loop-byte.byte-index, length-append (decimal (get_or t.args.bytes.now t.loop-byte.byte-index 0)) (32 ∷ []))

pub put_decimal-n-requires : goal.put_decimal-n-requires
put_decimal-n-requires c = simp (length-take, length-drop) (omega (arith, room (goal.at.put_decimal-n-requires c).In-loop-byte, digits (goal.at.put_decimal-n-requires c).In-loop-byte))

pub overflow_add-n : goal.overflow_add-n
overflow_add-n c =
    omega (arith, room (goal.at.overflow_add-n c).In-loop-byte, digits (goal.at.overflow_add-n c).In-loop-byte, c.put_decimal-n.ensures.value ∙ length-append (decimal (get_or c.args.bytes.now c.loop-byte.byte-index 0)) _)

pub loop-byte-preserved : goal.loop-byte-preserved
loop-byte-preserved c =
    let a = c.args in
    let t = (goal.at.loop-byte-preserved c).In-loop-byte in
    let more = turns_stored (spaced_at a.bytes.now) c.loop-byte.byte-index refl (omega (arith, room t, small t c.loop-byte.byte-index)) c.loop-byte.invariant c.put_decimal-n.ensures.value c.put_decimal-n.ensures.out_after in
    more.1

pub returns : goal.returns
returns c =
    let bytes = c.args.bytes.now in
    let (first, second) = turns_all (spaced_at bytes) c.loop-byte.byte-index (length bytes) (omega arith) (spaced_turns bytes) c.loop-byte.invariant in
    record { value = first; out_after = second }
