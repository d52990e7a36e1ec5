-- `scan` lets a word grow as long as the later tail has the greater sample at the first difference. The loop's invariant: the samples from `start` on, `word` of
-- them, are a Lyndon word.
use mathlib.Core.Path.{refl}
use mathlib.Core.Bool.{false}
use native.Mathlib.Omega.{arith}
use borrow.Author.Tests.{not-true, not-false}
use Rattle.runs.proofs.Samples.{samples_first, samples_alike, samples_unlike, samples_ended, samples_empty, samples_within, samples_stopped, samples_grown}
use Rattle.runs.proofs.scan.Goals as goal

pub loop-word-init : goal.loop-word-init
loop-word-init c =
    samples_first c.args.order c.args.pattern.now c.args.start c.requires.0

-- ---- the first samples agree

pub first_difference-d-requires : goal.first_difference-d-requires
first_difference-d-requires c =
    let a = c.args in
    samples_alike a.order a.pattern.now a.start c.loop-word.word c.loop-word.invariant c.loop-word-test.true c.if-x-y.true

pub grows-requires : goal.grows-requires
grows-requires c =
    let a = c.args in
    omega (arith, samples_within a.order a.pattern.now a.start c.loop-word.word c.loop-word.invariant c.first_difference-d.result c.first_difference-d.ensures)

pub run_of-requires : goal.run_of-requires
run_of-requires c =
    let a = c.args in
    omega (arith, c.requires, samples_within a.order a.pattern.now a.start c.loop-word.word c.loop-word.invariant c.first_difference-d.result c.first_difference-d.ensures)

pub returns-then-not-grows : goal.returns-then-not-grows
returns-then-not-grows c =
    let a = c.args in
    let r = c.run_of.result in
    samples_stopped a.order a.pattern.now a.start c.loop-word.word c.loop-word.invariant c.first_difference-d.result c.first_difference-d.ensures (λ j h. omega (arith, c.type_inv.pattern j))
    c.grows.result c.grows.ensures (not-true c.grows.result c.if-not-grows.true-raw) r.start r.back r.end r.next c.run_of.ensures

pub overflow_add-word : goal.overflow_add-word
overflow_add-word c =
    let a = c.args in
    omega (arith, c.requires, samples_within a.order a.pattern.now a.start c.loop-word.word c.loop-word.invariant c.first_difference-d.result c.first_difference-d.ensures)

pub overflow_add-word-then-x-y : goal.overflow_add-word-then-x-y
overflow_add-word-then-x-y c =
    let a = c.args in
    omega (arith, c.requires, samples_within a.order a.pattern.now a.start c.loop-word.word c.loop-word.invariant c.first_difference-d.result c.first_difference-d.ensures)

pub loop-word-preserved-then-x-y : goal.loop-word-preserved-then-x-y
loop-word-preserved-then-x-y c =
    let a = c.args in
    samples_grown a.order a.pattern.now a.start c.loop-word.word c.loop-word.invariant c.first_difference-d.result c.first_difference-d.ensures (λ j h. omega (arith, c.type_inv.pattern j))
    c.grows.result c.grows.ensures (not-false c.grows.result c.if-not-grows.false-raw)

-- ---- they differ

pub returns-then-not-grows-2 : goal.returns-then-not-grows-2
returns-then-not-grows-2 c =
    let a = c.args in
    let r = c.run_of-then-not-grows-2.result in
    let e = samples_unlike a.order a.pattern.now a.start c.loop-word.word c.loop-word.invariant c.if-x-y.false in
    samples_stopped a.order a.pattern.now a.start c.loop-word.word c.loop-word.invariant 0 e (λ j h. omega (arith, c.type_inv.pattern j))
    c.grows-else-x-y.result c.grows-else-x-y.ensures (not-true c.grows-else-x-y.result c.if-not-grows-2.true-raw) r.start r.back r.end r.next c.run_of-then-not-grows-2.ensures

pub loop-word-preserved : goal.loop-word-preserved
loop-word-preserved c =
    let a = c.args in
    let e = samples_unlike a.order a.pattern.now a.start c.loop-word.word c.loop-word.invariant c.if-x-y.false in
    samples_grown a.order a.pattern.now a.start c.loop-word.word c.loop-word.invariant 0 e (λ j h. omega (arith, c.type_inv.pattern j))
    c.grows-else-x-y.result c.grows-else-x-y.ensures (not-false c.grows-else-x-y.result c.if-not-grows-2.false-raw)

-- ---- nothing stands behind the word

pub run_of-requires-2 : goal.run_of-requires-2
run_of-requires-2 c =
    let a = c.args in
    let e = samples_ended a.order a.pattern.now a.start c.loop-word.word c.loop-word.invariant c.loop-word-test.false in
    omega (arith, c.requires, samples_within a.order a.pattern.now a.start c.loop-word.word c.loop-word.invariant 0 e)

pub returns : goal.returns
returns c =
    let a = c.args in
    let r = c.run_of-2.result in
    let e = samples_ended a.order a.pattern.now a.start c.loop-word.word c.loop-word.invariant c.loop-word-test.false in
    let n = samples_empty a.order a.pattern.now a.start c.loop-word.word c.loop-word.invariant c.loop-word-test.false in
    samples_stopped a.order a.pattern.now a.start c.loop-word.word c.loop-word.invariant 0 e (λ j h. omega (arith, c.type_inv.pattern j))
    false n refl r.start r.back r.end r.next c.run_of-2.ensures
