-- `place_others` places a sample a turn. The invariant: all before this one are placed, and n of them are not sample 0.
use mathlib.Core.Path.{◌≡◌, sym, ◌∙◌, ap, subst}
use mathlib.Core.List.{List, [], ◌∷◌}
use Prim.Native.Nat.{ℕ, ◌+◌, ◌≤◌}
use native.Mathlib.Omega.{arith}
use native.Mathlib.Numerals.{add-one}
use lib.ListN.{length}
use Rattle.definitions.specs.Table.{text_of}
use Rattle.definitions.specs.Occurrences.{occurrences}
use Rattle.definitions.specs.Services.{sample_order, cleared, table_checks}
use Rattle.lists.specs.Decisions.{Passed}
use Rattle.census.specs.Samples.{SoFar, number_below, put_all, number_more, number_all, number_most, so_far_more, turn}
use Rattle.census.specs.Accepted.{accepted}
use Rattle.census.proofs.place_others.Goals.{After-unwrap_or-n}
use Rattle.census.proofs.place_others.Goals as goal

module _ (c : After-unwrap_or-n) where
  abbrev text : List ℕ
  text = text_of sample_order c.args.table.now

  -- what a turn does: the work slice is as it was, and the sample is placed
  turned : (c.place_sample.new.work ≡ c.loop-sample.work) × (c.unwrap_or-n.result ≡ length (occurrences (c.loop-sample.sample ∷ []) text))
      × (c.place_sample.new.drive ≡ put_all (occurrences (c.loop-sample.sample ∷ []) text) c.loop-sample.sample c.loop-sample.drive)
  turned =
      let t = c.args.table.now in
      let same = sym c.loop-sample.invariant.0 in
      turn sample_order t c.loop-sample.work
      (subst (λ (w : List ℕ). Passed (table_checks sample_order t (length w))) same c.requires.passes)
      (subst (λ (w : List ℕ). w ≡ cleared w) same c.requires.clear)
      c.place_sample.ensures c.unwrap_or-n.ensures

  -- how many are placed then, and that they are
  number : number_below text 1 + (c.loop-sample.n + c.unwrap_or-n.result) ≡ number_below text (c.loop-sample.sample + 1)
  number = rw add-one (omega (arith, c.loop-sample.invariant.1, turned.1, number_more text c.loop-sample.sample))

  few : c.loop-sample.n + c.unwrap_or-n.result ≤ 2047
  few = omega (arith, number, number_most text (c.loop-sample.sample + 1), (accepted sample_order c.args.table.now (length c.args.work.now) c.requires.passes).0)

  placed : SoFar text (c.loop-sample.sample + 1) c.place_sample.new.drive
  placed = rw add-one (so_far_more text c.loop-sample.sample c.loop-sample.drive c.place_sample.new.drive turned.2 c.loop-sample.invariant.2)

pub loop-sample-preserved : goal.loop-sample-preserved
loop-sample-preserved c =
    let a = (goal.at.loop-sample-preserved c).After-unwrap_or-n in
    ((turned a).0 ∙ c.loop-sample.invariant.0, number a, placed a)

pub returns-2-clause-result_value : goal.returns-2-clause-result_value
returns-2-clause-result_value c =
    let a = (goal.at.returns-2-clause-result_value c).After-unwrap_or-n in
    let last : c.loop-sample.sample + 1 ≡ 256 = omega arith in
    number a ∙ ap (number_below (text a)) last ∙ number_all (text a) (accepted sample_order c.args.table.now (length c.args.work.now) c.requires.passes).1

pub returns-2-clause-so_far : goal.returns-2-clause-so_far
returns-2-clause-so_far c =
    let a = (goal.at.returns-2-clause-so_far c).After-unwrap_or-n in
    let last : c.loop-sample.sample + 1 ≡ 256 = omega arith in
    subst (λ (k : ℕ). SoFar (text a) k c.place_sample.new.drive) last (placed a)

pub overflow_add-n : goal.overflow_add-n
overflow_add-n c = omega (arith, few (goal.at.overflow_add-n c).After-unwrap_or-n)
