-- `keep` judges the mark at the front, and copies the table behind.
use mathlib.Core.Path.{refl}
use Prim.Native.Nat.{◌≤◌, ◌<◌}
use native.Mathlib.Omega.{arith}
use lib.ListN.{length-take, length-drop}
use Rattle.definitions.specs.Table.{rule_count}
use Rattle.tables.proofs.Loading.{front_size, front_filled, unmarked, marked_sound, kept_loaded, refused, accepted}
use Rattle.tables.proofs.keep.Goals.{Start}
use Rattle.tables.proofs.keep.Goals as goal

pub is_marked-requires : goal.is_marked-requires
is_marked-requires c =
    let size = front_size c.requires c.wide-n.result c.wide-n.ensures in
    (front_filled c.requires c.wide-n.result c.wide-n.ensures, omega (arith, size.1, c.requires.filling.placed.sized.lent.long))

pub returns-then-not-is_marked : goal.returns-then-not-is_marked
returns-then-not-is_marked c =
    let a = c.args in
    λ k. refused k.order a.table.now a.work.now (unmarked k c.wide-n.result c.wide-n.ensures (c.is_marked.ensures.1 (c.if-not-is_marked.true)))

pub returns : goal.returns
returns c =
    let a = c.args in
    λ k. let sound = marked_sound k c.wide-n.result c.wide-n.ensures (front_filled k c.wide-n.result c.wide-n.ensures) (c.is_marked.ensures.0 (c.if-not-is_marked.false)) in
    accepted k.order a.table.now _ sound (kept_loaded k sound c.copy.new.to c.copy.ensures)

index : (c : Start) → (rule_count c.args.table.now ≤ 2304) × (0 < rule_count c.args.table.now)
index c = let (_, _, few, some) = front_size c.requires _ refl in (few, some)

pub overflow_sub-rules : goal.overflow_sub-rules
overflow_sub-rules c = omega (arith, index (goal.at.overflow_sub-rules c).Start)

pub overflow_add-rules : goal.overflow_add-rules
overflow_add-rules c = omega (arith, index (goal.at.overflow_add-rules c).Start)

pub offset_bounds-work-rules : goal.offset_bounds-work-rules
offset_bounds-work-rules c = omega (arith, index (goal.at.offset_bounds-work-rules c).Start)

pub bounds-work-rules : goal.bounds-work-rules
bounds-work-rules c = omega (arith, index (goal.at.bounds-work-rules c).Start, c.requires.filling.placed.sized.lent.long)

pub slice_bounds-copy-end : goal.slice_bounds-copy-end
slice_bounds-copy-end c = omega (arith, c.requires.filling.placed.sized.lent.long)

pub copy-requires : goal.copy-requires
copy-requires c = let l = c.requires.filling.placed.sized.lent in simp (length-take, length-drop) (omega (arith, l.few, l.long))
