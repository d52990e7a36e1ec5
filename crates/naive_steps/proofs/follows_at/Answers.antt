-- `follows_at` compares step by step.
use mathlib.Core.Path.{refl, ◌∙◌, ap}
use mathlib.Core.List.{List}
use Prim.Native.Nat.{ℕ, ◌-◌}
use lib.ListN.{length, take, drop}
use borrow.Author.Tests.{tests}
use Rattle.std.proofs.Common.{rules}
use Rattle.std.proofs.lemmas.Iterator.{YieldsList-from_range}
use Rattle.std.proofs.lemmas.Iterator.Search.{all_from_yields_List}
use Rattle.definitions.specs.Words.{begins}
use Rattle.definitions.specs.Steps.{steps_of}
use Rattle.lists.specs.Lists.{tail_taken}
use Rattle.naive_steps.proofs.Following.{same_step, followed}
use Rattle.naive_steps.proofs.follows_at.Goals as goal

pub returns : goal.returns
returns c =
    let p = c.args.pattern.now in
    let x = take (length c.args.drive.now - c.args.i) (drop c.args.i c.args.drive.now) in
    all_from_yields_List (same_step p x) _ _ _ c.all.ensures.ran (YieldsList-from_range 1 (length p) (length p - 1) refl refl) (λ k b q r. search (rules, tests))
    ∙ followed p x
    ∙ ap (λ (l : List ℕ). begins (steps_of p) (steps_of l)) (tail_taken c.args.drive.now c.args.i)
