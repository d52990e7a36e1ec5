-- `count_rules` counts rule after rule. The loop's invariant: whatever text is loaded, the rules before r are counted, by so many tests; the cuts stay as they are.
use mathlib.Core.Path.{sym, ◌∙◌}
use Prim.Native.Nat.{ℕ, ◌<◌}
use native.Mathlib.Omega.{arith}
use Rattle.lyndon.specs.Stored.{rule_range}
use Rattle.rule_finds.proofs.Counting.{counted_none, counted_turn, counted_end, few_tests, longest_kept}
use Rattle.search.proofs.count_rules.Goals.{Start}
use Rattle.search.proofs.count_rules.Goals as goal

-- rule r of those that are counted
low : (s : Start) (r : ℕ) → r < s.args.rules → r < 2304
low s r l = let h = s.requires.0 in omega (arith, h.size, rule_range h.order h.text h.chair h.counting.loaded.kept.stored)

pub loop-r-init : goal.loop-r-init
loop-r-init c = let a = c.args in (counted_none a.pattern.size a.pattern.cuts a.rules a.work.now, c.requires.1.longest)

pub found_in-tested-requires : goal.found_in-tested-requires
found_in-tested-requires c =
    let h = c.requires.0 in
    let a = c.args in
    let counting = (c.loop-r.invariant.0 h.order h.samples h.text h.chair h.counting h.size).0 in (
      record {
        order = h.order;
        samples = h.samples;
        text = h.text;
        chair = h.chair;
        counting = counting;
        low = omega (arith, h.size, c.loop-r-test.true);
      },
      record { tried = counting.tried; longest = c.loop-r.invariant.1 },
      omega (arith, few_tests a.pattern.size a.pattern.cuts a.rules c.loop-r.r c.loop-r.tests a.work.now c.loop-r.work h c.loop-r.invariant.0, low (goal.at.found_in-tested-requires c).Start c.loop-r.r c.loop-r-test.true),
    )

pub overflow_add-r : goal.overflow_add-r
overflow_add-r c =
    omega (arith, low (goal.at.overflow_add-r c).Start c.loop-r.r c.loop-r-test.true)

pub put-requires : goal.put-requires
put-requires c =
    omega (arith, low (goal.at.put-requires c).Start c.loop-r.r c.loop-r-test.true, c.loop-r.auto.work, c.requires.0.counting.loaded.kept.long)

pub loop-r-preserved : goal.loop-r-preserved
loop-r-preserved c =
    let a = c.args in
    let m = a.pattern.size in
    let n = a.pattern.cuts in
    let x = c.found_in-tested.result.found in (
      counted_turn m n a.rules c.loop-r.r c.loop-r.tests c.found_in-tested.result.tests a.work.now c.loop-r.work c.put.new.s x
          c.loop-r-test.true c.loop-r.invariant.0 c.found_in-tested.ensures c.put.ensures,
      c.loop-r.invariant.1 ∙ sym (longest_kept m n c.loop-r.r c.loop-r.work c.put.new.s x (low (goal.at.loop-r-preserved c).Start c.loop-r.r c.loop-r-test.true) c.put.ensures),
    )

pub returns : goal.returns
returns c =
    let a = c.args in
    counted_end a.pattern.size a.pattern.cuts a.rules c.loop-r.r c.loop-r.tests a.work.now c.loop-r.work (omega arith) c.loop-r.invariant.0
