-- `count_loaded` counts, from what is loaded, in its order, by what the table holds.
use mathlib.Core.Path.{refl, sym, subst}
use native.Mathlib.Omega.{arith}
use Rattle.definitions.specs.declared.Content.{Content}
use Rattle.definitions.specs.declared.Content.TheVariants.{Samples}
use Rattle.definitions.specs.Steps.{searched}
use Rattle.finding.specs.Counted.{Sought, Counted}
use Rattle.finding.proofs.Counting.{loaded_count}
use Rattle.finding.proofs.count_loaded.Goals as goal

-- for samples, what is searched for is the pattern
pub count-requires : goal.count-requires
unfolding searched
count-requires c =
    let a = c.args in
    let q = subst (λ (x : Content). Sought x a.pattern.now a.rules a.work.now) c.in-Samples.is c.requires in
    (c.requires.held, q.filled, q.short, omega arith)

pub count_steps-requires : goal.count_steps-requires
count_steps-requires c =
    let a = c.args in
    subst (λ (x : Content). Sought x a.pattern.now a.rules a.work.now) c.in-Steps.is c.requires

pub returns-in-Samples : goal.returns-in-Samples
unfolding searched
returns-in-Samples c h =
    let a = c.args in
    let p = a.pattern.now in
    let q = subst (λ (x : Content). Sought x p a.rules a.work.now) c.in-Samples.is c.requires in
    subst (λ (x : Content). Counted x p h c.count.result c.count.new.work) (sym c.in-Samples.is)
    (loaded_count Samples p h q.filled refl p c.count.new.work c.count.result refl (c.count.ensures h))

pub returns-in-Steps : goal.returns-in-Steps
returns-in-Steps c h =
    let p = c.args.pattern.now in
    subst (λ (x : Content). Counted x p h c.count_steps.result c.count_steps.new.work) (sym c.in-Steps.is) (c.count_steps.ensures h)
