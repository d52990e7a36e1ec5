-- `count_steps` counts the steps of the pattern, which it writes to a local array; they stand there behind the first sample.
use mathlib.Core.Path.{◌≡◌, refl, ◌∙◌, ap, subst, sym}
use mathlib.Core.List.{List}
use Prim.Native.Nat.{ℕ, ◌-◌, ◌≤◌, ◌<◌}
use native.Mathlib.Omega.{arith}
use lib.ListN.{length, take, drop}
use Rattle.definitions.specs.declared.Content.TheVariants.{Steps}
use Rattle.definitions.specs.Steps.{steps_of, searched}
use Rattle.lyndon.specs.Steps.{two_samples, steps_size}
use Rattle.finding.proofs.Counting.{loaded_count, steps_behind}
use Rattle.finding.proofs.count_steps.Goals.{After-rearrange, Start}
use Rattle.finding.proofs.count_steps.Goals as goal

-- the pattern has a step
long : (s : Start) → 2 ≤ length s.args.pattern.now
long s = two_samples s.args.pattern.now s.requires.filled

-- what is searched for
behind : (c : After-rearrange) → let p = c.args.pattern.now in
    take (length p - 1) (drop 1 c.rearrange.new.steps) ≡ steps_of p
behind c =
    let p = c.args.pattern.now in
    ap (λ (l : List ℕ). take (length p - 1) (drop 1 l)) c.rearrange.ensures ∙ steps_behind p _

pub count-requires : goal.count-requires
unfolding searched
count-requires c =
    let p = c.args.pattern.now in (
      c.requires.held,
      subst (λ (l : List ℕ). 0 < length l) (sym (behind (goal.at.count-requires c).After-rearrange)) c.requires.filled,
      subst (λ (l : List ℕ). length l ≤ 2047) (sym (behind (goal.at.count-requires c).After-rearrange)) (omega (arith, steps_size p, c.requires.short)),
      omega arith,
    )

pub returns : goal.returns
unfolding searched
returns c h =
    loaded_count Steps c.args.pattern.now h c.requires.filled refl _ c.count.new.work c.count.result (behind (goal.at.returns c).After-rearrange) (c.count.ensures h)

pub rearrange-requires : goal.rearrange-requires
rearrange-requires c = omega (arith, c.requires.short)

pub slice_bounds-count-count : goal.slice_bounds-count-count
slice_bounds-count-count c = omega (arith, long (goal.at.slice_bounds-count-count c).Start)

pub slice_bounds-count-start : goal.slice_bounds-count-start
slice_bounds-count-start c = omega (arith, long (goal.at.slice_bounds-count-start c).Start)

pub slice_bounds-count-end : goal.slice_bounds-count-end
slice_bounds-count-end c = omega (arith, c.requires.short)
