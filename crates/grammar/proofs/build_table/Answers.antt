-- `build_table` finds the ends of the Lyndon words, numbers the rules, and stores the chair number beside the mark.
use mathlib.Core.Path.{◌∙◌, ap, subst}
use mathlib.Core.List.{List}
use lib.ListN.{length}
use Rattle.definitions.specs.Grammar.{Rule}
use Rattle.definitions.specs.Services.{sample_order}
use Rattle.stack.specs.Areas.{Rules}
use Rattle.grammar.proofs.Tabling.{ended_numbers, ended_numbered, rules_size, tabled}
use Rattle.grammar.proofs.build_table.Goals as goal

pub rules-r-requires : goal.rules-r-requires
rules-r-requires c =
    let a = c.args in
    ended_numbers sample_order a.n a.chair a.work.now c.ends.new.work c.requires c.ends.ensures c.ends.auto.work

pub returns : goal.returns
returns c =
    let a = c.args in
    λ m.
    let same = ended_numbered sample_order a.n a.chair a.work.now c.ends.new.work m c.ends.ensures c.ends.auto.work in
    let (k, n, b) = c.rules-r.ensures in (
      tabled sample_order a.n a.chair a.work.now c.ends.new.work m c.ends.ensures c.ends.auto.work c.rules-r.new.work
          (subst (λ (K : List Rule). Rules sample_order K c.rules-r.new.work) same k) b,
      n ∙ ap length same ∙ rules_size sample_order a.n a.chair a.work.now c.ends.new.work m c.ends.ensures c.ends.auto.work,
    )
