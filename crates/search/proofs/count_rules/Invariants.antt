-- `count_rules` counts rule after rule. The loop's invariant: whatever text is loaded, the rules before r are counted, by so many tests; the cuts stay as they are.
use mathlib.Core.Path.{◌≡◌}
use Rattle.joins.specs.Joining.{longest_tail}
use Rattle.rule_finds.proofs.Counting.{Counted}
use Rattle.search.proofs.count_rules.Given as goal

abbrev pub invariant-loop-r : goal.invariant-loop-r
invariant-loop-r l = Counted l.pattern.size l.pattern.cuts l.rules l.r l.tests l.initial.work l.work
    × (l.pattern.longest ≡ longest_tail l.pattern.size l.pattern.cuts l.work)
