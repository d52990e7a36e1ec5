-- `is_profile` looks for a byte above 8, and then at both ends.
use mathlib.Core.Path.{◌∙◌, sym}
use native.Mathlib.Omega.{arith}
use lib.ListN.{length}
use borrow.Author.Tests.{lt-ltb, le-ltb, ne_eqb}
use Rattle.definitions.specs.Profile.{first_off}
use Rattle.naive_profile.proofs.Lowest.{profile_off, first_le}
use Rattle.naive_profile.proofs.is_profile.Goals as goal

pub returns-then-lowest_off-drive : goal.returns-then-lowest_off-drive
returns-then-lowest_off-drive c =
    let x = c.args.drive.now in
    c.at_rest.ensures ∙ sym (rw (profile_off x, le-ltb (first_off x) (length x) (omega (arith, c.lowest_off.ensures, c.if-lowest_off-drive.true))))

pub returns-else-lowest_off-drive : goal.returns-else-lowest_off-drive
returns-else-lowest_off-drive c =
    let x = c.args.drive.now in
    ne_eqb c.lowest_off.result (length x) c.if-lowest_off-drive.false
    ∙ sym (rw (profile_off x, lt-ltb (first_off x) (length x) (omega (arith, first_le x, c.lowest_off.ensures, c.if-lowest_off-drive.false))))
