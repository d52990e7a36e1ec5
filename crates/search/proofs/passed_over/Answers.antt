-- `passed_over` compares the text's first samples with the pattern, where counting begins behind them.
use mathlib.Core.Path.{◌≡◌, sym, ◌∙◌, ap₂}
use mathlib.Core.Bool.{Bool, true, false}
use mathlib.Core.List.{List}
use Prim.Native.Nat.{ℕ, ◌+◌, ◌-◌, ◌≤◌, ◌<◌}
use native.Mathlib.Omega.{arith}
use native.Mathlib.Nat.{zero-add}
use lib.ListN.{length, take, drop}
use Rattle.definitions.specs.declared.Order.{Order}
use Rattle.definitions.specs.Words.{same}
use Rattle.definitions.specs.Table.{table_of, rule_count}
use Rattle.definitions.specs.Occurrences.{occurrences}
use Rattle.lists.specs.Parts.{part, part_taken}
use Rattle.lyndon.specs.Stored.{rule_range}
use Rattle.layout.specs.Layout.{PATTERN, length_in}
use Rattle.rule_finds.specs.Searching.{Counting}
use Rattle.search.proofs.Passing.{start, none_passed, unlike, first_passed}
use Rattle.search.proofs.passed_over.Goals.{Start, else-from-ne0-via-then-from-ne0+then-m-length_of+then-work+else-equal_many, else-from-ne0-via-then-from-ne0+then-m-length_of+else-work, else-from-ne0-via-then-from-ne0+else-m-length_of, else-from-ne0-via-else-from-ne0}
use Rattle.search.proofs.passed_over.Goals as goal

-- the number of rules, and how long pattern and work slice are
range : (s : Start) → (0 < s.args.rules) × (s.args.rules ≤ 2304)
range s =
    let h = s.requires.1 in
    let (some, most) = rule_range h.order h.text h.chair h.counting.loaded.kept.stored in
    (omega (arith, h.size), omega (arith, h.size))

long : (s : Start) → 16384 ≤ length s.args.work.now
long s = s.requires.1.counting.loaded.kept.long

short : (s : Start) → s.args.m ≤ 2047
short s = omega (arith, s.requires.1.counting.size, s.requires.1.counting.pattern.short)

pub length_of-requires : goal.length_of-requires
length_of-requires c =
    record { low = omega (arith, range (goal.at.length_of-requires c).Start); long = long (goal.at.length_of-requires c).Start }

-- counting begins at the second place, and the text is longer: so many are passed over, as the pattern stands at the start or not
decided : (s : Start) → let a = s.args in
    (a.from ≡ 0 → ⊥) → a.m < length_in a.work.now (a.rules - 1) → (b : Bool) → same (part 1 a.m a.work.now) (part PATTERN a.m a.work.now) ≡ b
    → (o : Order) (p text : List ℕ) (chair n : ℕ) → Counting o p text chair a.m n 0 a.work.now → a.rules ≡ rule_count (table_of o text chair)
    → length (start b) + length (occurrences p (drop a.from text)) ≡ length (occurrences p text)
decided s f l b q o p text chair n h e =
    let a = s.args in
    let one : a.from ≡ 1 = omega (arith, s.requires.2) in
    rw one (first_passed o p text chair a.m n a.rules a.work.now h e l b q)

compared : (w : List ℕ) (m : ℕ) (r : Bool) → r ≡ same (take (m + 1 - 1) (drop 1 w)) (take (PATTERN + m - PATTERN) (drop PATTERN w)) → same (part 1 m w) (part PATTERN m w) ≡ r
compared w m r e =
    sym (e ∙ ap₂ {C = Bool} same (part_taken 1 (m + 1 - 1) m w (omega arith)) (part_taken PATTERN (PATTERN + m - PATTERN) m w (omega arith)))

pub returns-then-equal_many : goal.returns-then-equal_many
returns-then-equal_many c o p text chair n h e =
    let a = c.args in
    decided (goal.at.returns-then-equal_many c).Start c.if-from-ne0.true (omega (arith, c.length_of.ensures, c.if-m-length_of.true)) true
    (compared a.work.now a.m c.equal_many.result c.equal_many.ensures ∙ c.if-equal_many.true) o p text chair n h e

pub returns : goal.returns
returns c o p text chair n h e =
    let a = c.args in
    let s = (goal.at.returns c).Start in
    elim c.else-from-ne0.branch [
      | else-from-ne0-via-else-from-ne0 w ↦ rw w.if-from-ne0.false (zero-add (length (occurrences p text)))
      | else-from-ne0-via-then-from-ne0+else-m-length_of w ↦
          let one : a.from ≡ 1 = omega (arith, c.requires.2, w.if-from-ne0.true) in
          rw one (zero-add _ ∙ none_passed o p text chair a.m n a.rules a.work.now h e (omega (arith, w.length_of.ensures, w.if-m-length_of.false)))
      | else-from-ne0-via-then-from-ne0+then-m-length_of+else-work w ↦
          decided s w.if-from-ne0.true (omega (arith, w.length_of.ensures, w.if-m-length_of.true)) false
          (unlike o p text chair a.m n a.rules a.work.now h e w.if-work.false) o p text chair n h e
      | else-from-ne0-via-then-from-ne0+then-m-length_of+then-work+else-equal_many w ↦
          decided s w.if-from-ne0.true (omega (arith, w.length_of.ensures, w.if-m-length_of.true)) false
          (compared a.work.now a.m w.equal_many.result w.equal_many.ensures ∙ w.if-equal_many.false) o p text chair n h e
    ]

pub overflow_sub-rules : goal.overflow_sub-rules
overflow_sub-rules c = omega (arith, range (goal.at.overflow_sub-rules c).Start)

pub bounds-work-1 : goal.bounds-work-1
bounds-work-1 c = omega (arith, long (goal.at.bounds-work-1 c).Start)

pub bounds-work-8960 : goal.bounds-work-8960
bounds-work-8960 c = omega (arith, long (goal.at.bounds-work-8960 c).Start)

pub overflow_add-m : goal.overflow_add-m
overflow_add-m c = omega (arith, short (goal.at.overflow_add-m c).Start)

pub slice_bounds-equal_many-end : goal.slice_bounds-equal_many-end
slice_bounds-equal_many-end c = omega (arith, short (goal.at.slice_bounds-equal_many-end c).Start, long (goal.at.slice_bounds-equal_many-end c).Start)

pub slice_bounds-equal_many-end-then-work : goal.slice_bounds-equal_many-end-then-work
slice_bounds-equal_many-end-then-work c = omega (arith, short (goal.at.slice_bounds-equal_many-end-then-work c).Start, long (goal.at.slice_bounds-equal_many-end-then-work c).Start)
