-- `name_of` goes by the number: rest, a direction, and else no name.
use mathlib.Core.Path.{sym, ap}
use native.Mathlib.Omega.{arith}
use Rattle.definitions.specs.Programs.{heading_name}
use Rattle.desk_output.proofs.Names.{no_name}
use Rattle.desk_output.proofs.name_of.Goals as goal

pub returns-in-0 : goal.returns-in-0
unfolding heading_name
returns-in-0 c = sym (ap heading_name c.in-0.is)

pub returns-in_default : goal.returns-in_default
returns-in_default c = sym (no_name c.args.heading (omega arith))
