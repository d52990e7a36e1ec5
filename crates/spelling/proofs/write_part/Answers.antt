-- `write_part` writes the samples of a part of the ranks at the front of the work slice.
use mathlib.Core.Path.{◌∙◌, ap}
use mathlib.Core.List.{List}
use Prim.Native.Nat.{ℕ, ◌+◌, ◌≤◌}
use native.Mathlib.Omega.{arith}
use Rattle.definitions.specs.Words.{placed}
use Rattle.spelling.proofs.Texts.{loaded_piece}
use Rattle.spelling.proofs.write_part.Goals.{Start}
use Rattle.spelling.proofs.write_part.Goals as goal

-- the part ends in the work slice
inside : (s : Start) → 1 + s.args.start + s.args.count ≤ 2048
inside s = let (rules, h, fits, room) = s.requires in omega (arith, fits, h.loaded.kept.stored.short)

pub write_samples-requires : goal.write_samples-requires
write_samples-requires c =
    let (rules, h, fits, room) = c.requires in
    let piece = loaded_piece h c.args.start c.args.count fits in
    (piece.ranks, omega (arith, piece.size, room))

pub returns : goal.returns
returns c rules h fits =
    let a = c.args in
    c.write_samples.ensures ∙ ap (λ (l : List ℕ). placed l a.res.now) (loaded_piece h a.start a.count fits).same

pub overflow_add-from : goal.overflow_add-from
overflow_add-from c = omega (arith, inside (goal.at.overflow_add-from c).Start)

pub overflow_add-end : goal.overflow_add-end
overflow_add-end c = omega (arith, inside (goal.at.overflow_add-end c).Start)

pub slice_bounds-write_samples-end : goal.slice_bounds-write_samples-end
slice_bounds-write_samples-end c = omega (arith, inside (goal.at.slice_bounds-write_samples-end c).Start, c.requires.1.loaded.kept.long)
