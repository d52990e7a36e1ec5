-- `enter_all` enters the root where no rule is met, and then the rules below it.
use mathlib.Core.Path.{sym, subst}
use Rattle.definitions.specs.Table.{rule_count}
use Rattle.entries.specs.Entries.{Entered}
use Rattle.entries.proofs.Steps.{root_start}
use Rattle.entries.proofs.enter_all.Goals as goal

pub enter_below-requires : goal.enter_below-requires
enter_below-requires c =
    subst (Entered c.args.table.now (rule_count c.args.table.now)) (sym c.enter.ensures.1) (root_start c.requires)
