-- `load` refuses where two rules are alike, and else judges on.
use Rattle.tables.proofs.Loading.{refused}
use Rattle.tables.proofs.load.Goals as goal

pub is_distinct-requires : goal.is_distinct-requires
is_distinct-requires c = record { shaped = c.requires.0; few = c.requires.1; long = c.requires.2 }

pub returns-then-not-is_distinct : goal.returns-then-not-is_distinct
returns-then-not-is_distinct c =
    let a = c.args in
    refused a.order a.table.now c.is_distinct.new.work (c.is_distinct.ensures.1 (c.if-not-is_distinct.true) a.order)

pub judge-requires : goal.judge-requires
judge-requires c = c.is_distinct.ensures.0 (c.if-not-is_distinct.false)
