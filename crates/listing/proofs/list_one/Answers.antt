-- `list_one` stores the position, unless the place is passed over.
use mathlib.Core.Path.{sym, ◌∙◌, ap}
use mathlib.Core.List.{List}
use Prim.Native.Nat.{◌-◌}
use native.Mathlib.Omega.{arith}
use lib.ListN.{length}
use Rattle.listing.specs.Listing.{placed_from}
use Rattle.listing.proofs.Drives.{drive_before, drive_there}
use Rattle.listing.proofs.Entries.{from_none, from_one_lem}
use Rattle.listing.proofs.list_one.Goals as goal

pub returns-then-place-first : goal.returns-then-place-first
returns-then-place-first c =
    let a = c.args in
    let e = drive_before a.first a.place c.if-place-first.true in
    (omega (arith, ap length e), sym (ap (λ (l : List _). placed_from a.n l a.res.now) e ∙ from_none a.n a.res.now))

pub returns : goal.returns
returns c =
    let a = c.args in
    let e = drive_there a.first a.place (omega (arith, c.if-place-first.false)) in (
      omega (arith, ap length e),
      from_one_lem a.n a.res.now (a.place - a.first) (omega (arith, ap length e, c.requires.1)) ∙ sym (ap (λ (l : List _). placed_from a.n l a.res.now) e),
    )

pub bounds-res-n : goal.bounds-res-n
bounds-res-n c =
    omega (arith, ap length (drive_there c.args.first c.args.place (omega (arith, c.if-place-first.false))), c.requires.1)

pub overflow_add-result : goal.overflow_add-result
overflow_add-result c = omega (arith, bounds-res-n c)
