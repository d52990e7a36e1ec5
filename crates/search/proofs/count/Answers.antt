-- `count` finds nothing where the root's string is shorter than the pattern; else it places the pattern, counts every rule, and reads the root's number, less what is passed over.
use mathlib.Core.Path.{◌≡◌, sym, ◌∙◌}
use Prim.Native.Nat.{◌+◌, ◌-◌}
use native.Mathlib.Omega.{arith}
use lib.ListN.{length, drop}
use borrow.Author.Tests.{ltb-true}
use Rattle.definitions.specs.Table.{table_of}
use Rattle.definitions.specs.Occurrences.{occurrences, tests}
use Rattle.layout.specs.Layout.{FOUND, length_in}
use Rattle.state.specs.State.{Held}
use Rattle.state.proofs.Lengths.{rules_range}
use Rattle.rule_finds.specs.Searching.{Counting, Counts}
use Rattle.rule_finds.proofs.Short.{short_text, short_search, short_all}
use Rattle.placing.proofs.Placing.{pattern_here}
use Rattle.search.proofs.Ending.{counted_text, counted_all}
use Rattle.search.proofs.count.Goals.{After-count_rules-tests, After-number_of-all, After-place_pattern-placed}
use Rattle.search.proofs.count.Goals as goal

pub is_shorter-requires : goal.is_shorter-requires
is_shorter-requires c =
    (record { low = omega (arith, rules_range c.requires.0); long = omega (arith, c.requires.0.loaded.kept.long) }, c.requires.2)

pub returns-then-is_shorter : goal.returns-then-is_shorter
returns-then-is_shorter c h =
    let a = c.args in
    let w = a.work.now in
    let p = a.pattern.now in
    let q = pattern_here p c.requires.1 c.requires.2 (λ j b. omega (arith, c.type_inv.pattern j)) in
    let shorter = ltb-true (length_in w (a.rules - 1)) (length p) (sym c.is_shorter.ensures ∙ c.if-is_shorter.true) in (
      short_text a.order h.text h.chair w h.loaded p a.from a.rules h.size shorter,
      short_search a.order h.text h.chair w h.loaded p a.rules h.size shorter,
      short_all a.order h.text h.chair w h.loaded p c.clear.new.s (FOUND + a.rules - FOUND) a.rules q h.size shorter (omega arith) c.clear.ensures,
    )

pub place_pattern-placed-requires : goal.place_pattern-placed-requires
place_pattern-placed-requires c =
    (c.requires.1, c.requires.2, c.requires.0.loaded.kept.long)

-- nothing is counted yet
placed : (p : After-place_pattern-placed) → let a = p.args in
    Counts p.place_pattern-placed.result.size p.place_pattern-placed.result.cuts a.rules 0 p.place_pattern-placed.new.work
placed p =
    let h = p.requires.0 in
    record {
      order = p.args.order;
      samples = p.args.pattern.now;
      text = h.text;
      chair = h.chair;
      counting = p.place_pattern-placed.ensures.counting h.text h.chair h.loaded;
      size = h.size;
    }

pub passed_over-before-requires : goal.passed_over-before-requires
passed_over-before-requires c =
    (c.place_pattern-placed.result.cuts, placed (goal.at.passed_over-before-requires c).After-place_pattern-placed, c.requires.3)

pub count_rules-tests-requires : goal.count_rules-tests-requires
count_rules-tests-requires c = (placed (goal.at.count_rules-tests-requires c).After-place_pattern-placed, c.place_pattern-placed.ensures.in_work)

pub number_of-all-requires : goal.number_of-all-requires
number_of-all-requires c =
    record { low = omega (arith, rules_range c.requires.0); long = omega (arith, c.requires.0.loaded.kept.long) }

-- every rule is counted, and the tests are
all_counted : (r : After-count_rules-tests) → let a = r.args in
    (h : Held a.order a.rules a.work.now)
    → Counting a.order a.pattern.now h.text h.chair r.place_pattern-placed.result.size r.place_pattern-placed.result.cuts a.rules r.count_rules-tests.new.work
    × (r.count_rules-tests.result ≡ length (tests a.order (table_of a.order h.text h.chair) a.pattern.now))
all_counted r h =
    let a = r.args in
    r.count_rules-tests.ensures a.order a.pattern.now h.text h.chair (r.place_pattern-placed.ensures.counting h.text h.chair h.loaded) h.size

-- how many begin before, and how many are counted
both : (c : After-number_of-all) → let a = c.args in
    (h : Held a.order a.rules a.work.now)
    → c.passed_over-before.result + length (occurrences a.pattern.now (drop a.from h.text)) ≡ c.number_of-all.result
both c h =
    let a = c.args in
    let n = c.place_pattern-placed.result.cuts in
    let w = c.count_rules-tests.new.work in
    let placed = c.place_pattern-placed.ensures.counting h.text h.chair h.loaded in
    let (counted, _) = c.count_rules-tests.ensures a.order a.pattern.now h.text h.chair placed h.size in
    let all = counted_all a.order a.pattern.now h.text h.chair _ n a.rules w h.size counted in
    c.passed_over-before.ensures a.order a.pattern.now h.text h.chair n placed h.size
    ∙ sym (c.number_of-all.ensures ∙ counted_text a.order a.pattern.now h.text h.chair a.rules w (omega (arith, rules_range h)) h.size all)

pub overflow_sub-result : goal.overflow_sub-result
overflow_sub-result c = omega (arith, both (goal.at.overflow_sub-result c).After-number_of-all c.requires.0)

pub returns : goal.returns
returns c h =
    let a = c.args in
    let (counted, tests) = all_counted (goal.at.returns c).After-count_rules-tests h in
    let all = counted_all a.order a.pattern.now h.text h.chair _ c.place_pattern-placed.result.cuts a.rules c.count_rules-tests.new.work h.size counted in
    (omega (arith, both (goal.at.returns c).After-number_of-all h), tests, all)

pub overflow_sub-rules : goal.overflow_sub-rules
overflow_sub-rules c = omega (arith, rules_range c.requires.0)

pub overflow_add-rules : goal.overflow_add-rules
overflow_add-rules c = omega (arith, rules_range c.requires.0)

pub slice_bounds-clear-end : goal.slice_bounds-clear-end
slice_bounds-clear-end c = omega (arith, rules_range c.requires.0, c.requires.0.loaded.kept.long)

pub overflow_sub-rules-2 : goal.overflow_sub-rules-2
overflow_sub-rules-2 c = omega (arith, rules_range c.requires.0)
