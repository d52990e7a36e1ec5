-- `is_distinct` wants the mark first, clears the buckets, and has every rule looked up.
use mathlib.Core.Path.{refl}
use native.Mathlib.Omega.{arith}
use Rattle.lists.specs.Bools.{contra}
use Rattle.twins.proofs.Looking.{no_mark, linked_none}
use Rattle.twins.proofs.is_distinct.Goals as goal

pub returns-then-table-ne0 : goal.returns-then-table-ne0
returns-then-table-ne0 c = (λ e. contra e refl, λ e. no_mark c.args.table.now c.if-table-ne0.true)

pub link_all-requires : goal.link_all-requires
link_all-requires c =
    linked_none c.args.table.now c.args.work.now c.clear.new.s c.requires (omega (arith, c.if-table-ne0.false)) c.clear.ensures
