-- `longest_tail` reads the first cut, if there is one.
use mathlib.Core.Path.{sym}
use native.Mathlib.Omega.{arith}
use Rattle.joins.proofs.Joining.{longest_first, longest_none, first_range}
use Rattle.joins.proofs.longest_tail.Goals as goal

pub returns-then-cuts-eq0 : goal.returns-then-cuts-eq0
returns-then-cuts-eq0 c =
    let a = c.args in
    sym (longest_none a.work.now a.size a.cuts c.requires.0 c.requires.1 c.if-cuts-eq0.true)

pub overflow_sub-result : goal.overflow_sub-result
overflow_sub-result c =
    let a = c.args in
    omega (arith, c.wide.ensures, first_range a.work.now a.size a.cuts c.requires.0 c.requires.1 (omega (arith, c.if-cuts-eq0.false)))

pub returns : goal.returns
returns c =
    let a = c.args in
    omega (arith, c.wide.ensures, longest_first a.work.now a.size a.cuts c.requires.0 c.requires.1 (omega (arith, c.if-cuts-eq0.false)))
