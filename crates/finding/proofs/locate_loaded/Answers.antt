-- `locate_loaded` counts, delivers what is found, and answers with the tests.
use mathlib.Core.Path.{sym, ◌∙◌, ap, subst}
use mathlib.Core.List.{List, [], ◌∷◌}
use Prim.Native.Nat.{ℕ}
use native.Mathlib.Omega.{arith}
use lib.ListN.{length}
use Rattle.definitions.specs.Steps.{searched, finds}
use Rattle.definitions.specs.Services.{done, sample_order, writes, Serves, Answers, Searches}
use Rattle.lists.specs.Serving.{restated}
use Rattle.results.proofs.Answers.{tests_refused, tests_done}
use Rattle.finding.proofs.Counting.{start_low, finds_from, all_found}
use Rattle.results.specs.Results.{with_tests}
use Rattle.finding.proofs.locate_loaded.Goals as goal

pub deliver_found-a-requires : goal.deliver_found-a-requires
unfolding all_found
deliver_found-a-requires c =
    let a = c.args in
    let h = c.requires.held in
    let found = c.count_loaded-n.ensures h in (
      all_found sample_order (searched a.content a.pattern.now) h.text c.count_loaded-n.new.work h.chair found.all,
      h.size,
      omega (arith, start_low a.content, c.start_of.ensures),
      found.number ∙ ap length (finds_from a.content a.pattern.now h c.requires.filled c.start_of.ensures),
    )

pub returns : goal.returns
unfolding all_found
returns c h =
    let a = c.args in
    let p = a.pattern.now in
    let found = c.count_loaded-n.ensures h in
    let r = c.deliver_found-a.result in
    let n = length (finds a.content p h.text) in
    let same = finds_from a.content p h c.requires.filled c.start_of.ensures in
    restated (λ i j y. rw c.with_tests.ensures (tests_refused r c.count_loaded-n.result.tests i j y))
    (λ y. rw c.with_tests.ensures (subst (λ (m : ℕ). Searches (with_tests r c.count_loaded-n.result.tests) (done n m)) found.made (tests_done r c.count_loaded-n.result.tests n y)))
    (subst (λ (l : List ℕ). Serves (writes [] l 0 a.res.now) (Answers r) (c.deliver_found-a.new.res ∷ [])) (sym same)
    (c.deliver_found-a.ensures (all_found sample_order (searched a.content p) h.text c.count_loaded-n.new.work h.chair found.all) h.size (found.number ∙ ap length same)))
