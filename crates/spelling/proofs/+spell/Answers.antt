-- `spell` writes the bytes of the left half, and in the rest of the slice those of the right half; the left half is a rule before it.
use mathlib.Core.Path.{sym, ◌∙◌, ap}
use mathlib.Core.List.{List}
use Prim.Native.Nat.{ℕ, ◌+◌, ◌≤◌}
use native.Mathlib.Omega.{arith}
use lib.ListN.{length, length-take, length-drop}
use Rattle.definitions.specs.Words.{placed}
use Rattle.definitions.specs.Services.{sample_order}
use Rattle.lists.specs.Lists.{placed_none, placed_both}
use Rattle.state.specs.State.{Held}
use Rattle.state.proofs.Lengths.{rules_range}
use Rattle.spelling.specs.Spelling.{rule_bytes, WithMark}
use Rattle.spelling.proofs.Texts.{Halves, mark_spelled, halves_spelled, halves_size}
use Rattle.spelling.proofs.+spell.Goals.{In-Pair, After-spell-n, After-copy_rule}
use Rattle.spelling.proofs.+spell.Goals as goal

pub rule_in-requires : goal.rule_in-requires
rule_in-requires t c =
    let (rules, h, m, room) = c.requires in
    record { low = omega (arith, m.low, rules_range h); long = h.loaded.kept.long }

-- a rule that is no pair is the mark
pub returns-in_default : goal.returns-in_default
returns-in_default t c rules h m =
    let a = c.args in
    let none = mark_spelled h a.r c.in_default.field-0 c.in_default.field-1 m (sym c.in_default.ensures) in
    record {
      number = sym (ap length none);
      front = sym (placed_none a.res.now) ∙ ap (λ (l : List ℕ). placed l a.res.now) (sym none);
    }

-- the halves of a pair
halves : (t : ℕ) (k : In-Pair t) (rules : ℕ) (h : Held sample_order rules k.args.work.now) → WithMark h k.args.r → Halves h k.args.r k.in-Pair.left k.in-Pair.right
halves t k rules h m = halves_spelled h k.args.r k.in-Pair.left k.in-Pair.right m (sym k.in-Pair.ensures)

pub spell-n-requires : goal.spell-n-requires
spell-n-requires t c =
    let (rules, h, m, room) = c.requires in
    let k = halves t (goal.at.spell-n-requires t c).In-Pair rules h m in
    (omega (arith, c.decreases, k.left), (rules, h, k.first, omega (arith, halves_size h c.args.r c.in-Pair.left c.in-Pair.right k, room)))

-- once the left half is spelled there is room for the right half
left_fits : (t : ℕ) (k : After-spell-n t) → k.spell-n.result + length (rule_bytes k.requires.1 k.in-Pair.right) ≤ length k.spell-n.new.res
left_fits t k =
    let (rules, h, m, room) = k.requires in
    let both = halves t (goal.at.After-spell-n t k).In-Pair rules h m in
    omega (arith, halves_size h k.args.r k.in-Pair.left k.in-Pair.right both, (k.spell-n.ensures rules h both.first).number, room, k.spell-n.auto.res)

pub slice_bounds-copy_rule-count : goal.slice_bounds-copy_rule-count
slice_bounds-copy_rule-count t c = omega (arith, left_fits t (goal.at.slice_bounds-copy_rule-count t c).After-spell-n)

pub slice_bounds-copy_rule-start : goal.slice_bounds-copy_rule-start
slice_bounds-copy_rule-start t c = omega (arith, left_fits t (goal.at.slice_bounds-copy_rule-start t c).After-spell-n)

pub copy_rule-requires : goal.copy_rule-requires
copy_rule-requires t c =
    let (rules, h, m, room) = c.requires in
    let k = halves t (goal.at.copy_rule-requires t c).In-Pair rules h m in
    (rules, h, k.rest, simp (length-take, length-drop) (omega (arith, left_fits t (goal.at.copy_rule-requires t c).After-spell-n)))

-- both halves are no longer than the slice
both_fit : (t : ℕ) (k : After-copy_rule t) → k.spell-n.result + k.copy_rule.result ≤ length k.args.res.now
both_fit t k =
    let (rules, h, m, room) = k.requires in
    let both = halves t (goal.at.After-copy_rule t k).In-Pair rules h m in
    omega (arith, left_fits t (goal.at.After-copy_rule t k).After-spell-n, (k.copy_rule.ensures rules h both.rest).number, k.spell-n.auto.res)

pub overflow_add-result : goal.overflow_add-result
overflow_add-result t c = omega (arith, both_fit t (goal.at.overflow_add-result t c).After-copy_rule)

pub returns : goal.returns
returns t c rules h m =
    let old = c.args.res.now in
    let u = c.in-Pair.left in
    let v = c.in-Pair.right in
    let k = halves t (goal.at.returns t c).In-Pair rules h m in
    let left = c.spell-n.ensures rules h k.first in
    let right = c.copy_rule.ensures rules h k.rest in
    record {
      number = omega (arith, halves_size h c.args.r u v k, left.number, right.number);
      front =
          placed_both (rule_bytes h u) (rule_bytes h v) old c.spell-n.new.res c.copy_rule.new.res c.spell-n.result left.number
          (omega (arith, both_fit t (goal.at.returns t c).After-copy_rule, left.number, right.number)) left.front right.front
          ∙ ap (λ (q : List ℕ). placed q old) (sym k.bytes);
    }
