-- `direction` gives the name of each number; what is left for the last arm is 8.
use mathlib.Core.Path.{◌≡◌, sym, ap}
use native.Mathlib.Omega.{arith}
use Rattle.definitions.specs.Programs.{heading_name}
use Rattle.desk_output.proofs.direction.Goals as goal

pub returns-in-1 : goal.returns-in-1
unfolding heading_name
returns-in-1 c = sym (ap heading_name c.in-1.is)

pub returns-in-2 : goal.returns-in-2
unfolding heading_name
returns-in-2 c = sym (ap heading_name c.in-2.is)

pub returns-in-3 : goal.returns-in-3
unfolding heading_name
returns-in-3 c = sym (ap heading_name c.in-3.is)

pub returns-in-4 : goal.returns-in-4
unfolding heading_name
returns-in-4 c = sym (ap heading_name c.in-4.is)

pub returns-in-5 : goal.returns-in-5
unfolding heading_name
returns-in-5 c = sym (ap heading_name c.in-5.is)

pub returns-in-6 : goal.returns-in-6
unfolding heading_name
returns-in-6 c = sym (ap heading_name c.in-6.is)

pub returns-in-7 : goal.returns-in-7
unfolding heading_name
returns-in-7 c = sym (ap heading_name c.in-7.is)

pub returns-in_default : goal.returns-in_default
unfolding heading_name
returns-in_default c =
    let h = c.args.heading in
    let e : h ≡ 8 = omega arith in
    sym (ap heading_name e)
