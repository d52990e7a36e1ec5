-- `at_rest` tests one part of its definition after the other.
use native.Mathlib.Omega.{arith}
use lib.ListN.{length, get_or}
use borrow.Author.Tests.{lt-ltb, le-ltb, eq-eqb, ne_eqb}
use Rattle.definitions.specs.Profile.{at_rest}
use Rattle.naive_profile.proofs.at_rest.Goals as goal

pub returns-then-n-eq0 : goal.returns-then-n-eq0
unfolding at_rest
returns-then-n-eq0 c = rw (le-ltb 0 (length c.args.drive.now) (omega arith))

pub returns-then-drive-eq0 : goal.returns-then-drive-eq0
unfolding at_rest
returns-then-drive-eq0 c = rw (lt-ltb 0 (length c.args.drive.now) (omega arith), eq-eqb (get_or c.args.drive.now 0 0) 0 c.if-drive-eq0.true)

pub returns-else-drive-eq0 : goal.returns-else-drive-eq0
unfolding at_rest
returns-else-drive-eq0 c = rw (lt-ltb 0 (length c.args.drive.now) (omega arith), ne_eqb (get_or c.args.drive.now 0 0) 0 c.if-drive-eq0.false)
