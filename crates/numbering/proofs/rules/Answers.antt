-- `rules` empties the buckets, and numbers.
use mathlib.Core.Path.{◌∙◌, ap, subst}
use mathlib.Core.List.{List}
use lib.ListN.{length}
use Rattle.definitions.specs.Grammar.{Rule}
use Rattle.stack.specs.Areas.{Rules}
use Rattle.numbering.proofs.Clearing.{cleared_numbers, cleared_buckets, cleared_numbered, cleared_stays}
use Rattle.numbering.proofs.rules.Goals as goal

pub number-requires : goal.number-requires
number-requires c =
    let a = c.args in (
      cleared_numbers a.work.now c.clear.new.s c.requires.long c.clear.ensures a.n c.requires,
      cleared_buckets a.work.now c.clear.new.s c.requires.long c.clear.ensures,
    )

pub returns : goal.returns
returns c =
    let a = c.args in
    let same = cleared_numbered a.work.now c.clear.new.s c.requires.long c.clear.ensures a.n c.requires.short in
    let (k, e, b) = c.number.ensures in (
      subst (λ (K : List Rule). Rules a.order K c.number.new.work) same k,
      e ∙ ap length same,
      b ∙ cleared_stays a.work.now c.clear.new.s c.requires.long c.clear.ensures,
    )
