-- `copy_rule` writes the samples of the ranks where the rule stands.
use mathlib.Core.Path.{◌∙◌, ap}
use mathlib.Core.List.{List}
use Prim.Native.Nat.{ℕ, ◌+◌, ◌≤◌, ◌<◌}
use native.Mathlib.Omega.{arith}
use Rattle.definitions.specs.Words.{placed}
use Rattle.state.proofs.Lengths.{rules_range}
use Rattle.spelling.proofs.Texts.{piece_count, rule_inside, rule_piece}
use Rattle.spelling.proofs.copy_rule.Goals.{After-wide-count, Start}
use Rattle.spelling.proofs.copy_rule.Goals as goal

low : (s : Start) → s.args.r < 2304
low s = omega (arith, s.requires.2.low, rules_range s.requires.1)

-- the rule ends among the ranks
inside : (c : After-wide-count) → c.wide-place.result + c.wide-count.result ≤ 2048
inside c =
    rule_inside c.requires.1 c.args.r c.wide-place.result c.wide-count.result c.requires.2 c.wide-place.ensures c.wide-count.ensures

pub write_samples-requires : goal.write_samples-requires
write_samples-requires c =
    let piece = rule_piece c.requires.1 c.args.r c.wide-place.result c.wide-count.result c.requires.2 c.wide-place.ensures c.wide-count.ensures in
    (piece.ranks, omega (arith, piece.size, piece_count piece, c.requires.3))

pub returns : goal.returns
returns c rules h m =
    let a = c.args in
    let piece = rule_piece h a.r c.wide-place.result c.wide-count.result m c.wide-place.ensures c.wide-count.ensures in
    record {
      number = piece_count piece;
      front = c.write_samples.ensures ∙ ap (λ (l : List ℕ). placed l a.res.now) piece.same;
    }

pub overflow_add-r : goal.overflow_add-r
overflow_add-r c = omega (arith, low (goal.at.overflow_add-r c).Start)

pub offset_bounds-work-r : goal.offset_bounds-work-r
offset_bounds-work-r c = omega (arith, low (goal.at.offset_bounds-work-r c).Start)

pub bounds-work-r : goal.bounds-work-r
bounds-work-r c = omega (arith, low (goal.at.bounds-work-r c).Start, c.requires.1.loaded.kept.long)

pub overflow_add-r-2 : goal.overflow_add-r-2
overflow_add-r-2 c = omega (arith, low (goal.at.overflow_add-r-2 c).Start)

pub offset_bounds-work-r-2 : goal.offset_bounds-work-r-2
offset_bounds-work-r-2 c = omega (arith, low (goal.at.offset_bounds-work-r-2 c).Start)

pub bounds-work-r-2 : goal.bounds-work-r-2
bounds-work-r-2 c = omega (arith, low (goal.at.bounds-work-r-2 c).Start, c.requires.1.loaded.kept.long)

pub overflow_add-end : goal.overflow_add-end
overflow_add-end c = omega (arith, inside (goal.at.overflow_add-end c).After-wide-count)

pub offset_bounds-work-place : goal.offset_bounds-work-place
offset_bounds-work-place c = omega (arith, inside (goal.at.offset_bounds-work-place c).After-wide-count)

pub slice_bounds-write_samples-end : goal.slice_bounds-write_samples-end
slice_bounds-write_samples-end c = omega (arith, inside (goal.at.slice_bounds-write_samples-end c).After-wide-count, c.requires.1.loaded.kept.long)
