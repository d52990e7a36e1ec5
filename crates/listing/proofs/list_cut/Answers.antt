-- `list_cut` lists the one occurrence at a join, or none.
use mathlib.Core.Path.{sym, ◌∙◌, ap}
use mathlib.Core.List.{List}
use Prim.Native.Nat.{ℕ, ◌+◌}
use native.Mathlib.Omega.{arith}
use lib.ListN.{length}
use Rattle.listing.specs.Listing.{placed_from}
use Rattle.listing.proofs.Drives.{drive_cut_none, drive_cut_some}
use Rattle.listing.proofs.Entries.{from_none}
use Rattle.listing.proofs.list_cut.Goals as goal

pub list_one-requires : goal.list_one-requires
list_one-requires c =
    let a = c.args in
    (omega (arith, c.requires.1), omega (arith, ap length (drive_cut_some a.first a.join c.in-Some.c a.cut c.in-Some.is), c.requires.2))

pub returns-in-Some : goal.returns-in-Some
returns-in-Some c =
    let a = c.args in
    let e = drive_cut_some a.first a.join c.in-Some.c a.cut c.in-Some.is in
    (c.list_one.ensures.0 ∙ ap (λ (l : List ℕ). a.n + length l) e, c.list_one.ensures.1 ∙ ap (λ (l : List ℕ). placed_from a.n l a.res.now) e)

pub returns-in-None : goal.returns-in-None
returns-in-None c =
    let a = c.args in
    let e = drive_cut_none a.first a.join a.cut c.in-None.is in
    (omega (arith, ap length e), sym (ap (λ (l : List ℕ). placed_from a.n l a.res.now) e ∙ from_none a.n a.res.now))
