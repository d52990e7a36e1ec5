-- `judge` refuses where a pass does, and else keeps what the passes leave.
use mathlib.Core.Path.{◌≡◌}
use mathlib.Core.Bool.{true}
use Rattle.twins.proofs.Looking.{only_mark}
use Rattle.tables.specs.Loading.{Spelled}
use Rattle.tables.proofs.Loading.{refused}
use Rattle.tables.proofs.judge.Goals.{After-fill_all}
use Rattle.tables.proofs.judge.Goals as goal

pub returns-then-not-measure : goal.returns-then-not-measure
returns-then-not-measure c =
    let a = c.args in
    refused a.order a.table.now c.measure.new.work (c.measure.ensures.1 c.if-not-measure.true a.order)

pub enter_all-requires : goal.enter_all-requires
enter_all-requires c = c.measure.ensures.0 c.if-not-measure.false

pub returns-then-not-enter_all : goal.returns-then-not-enter_all
returns-then-not-enter_all c =
    let a = c.args in
    refused a.order a.table.now c.enter_all.new.work ((c.enter_all.ensures.1 c.if-not-enter_all.true).foreign a.order)

pub fill_all-requires : goal.fill_all-requires
fill_all-requires c =
    let d = c.requires in
    (c.enter_all.ensures.0 c.if-not-enter_all.false, record { mark = d.mark; samples = only_mark d })

pub returns-then-not-fill_all : goal.returns-then-not-fill_all
returns-then-not-fill_all c =
    let a = c.args in
    refused a.order a.table.now c.fill_all.new.work (c.fill_all.ensures.1 c.if-not-fill_all.true)

-- all rules are written
written : (c : After-fill_all) → (r : c.fill_all.result ≡ true) → Spelled c.args.table.now c.fill_all.new.work
written c r =
    record { order = c.args.order; new = c.requires.new; filling = c.fill_all.ensures.0 r }

pub keep-requires : goal.keep-requires
keep-requires c = written (goal.at.keep-requires c).After-fill_all c.if-not-fill_all.false

pub returns : goal.returns
unfolding written
returns c =
    c.keep.ensures (written (goal.at.returns c).After-fill_all c.if-not-fill_all.false)

pub measure-requires : goal.measure-requires
measure-requires c = c.requires.lent
