-- `deliver_part` writes where the part is in range and the result slice is long enough, and else refuses.
use mathlib.Core.Path.{◌∙◌, ap}
use mathlib.Core.List.{List}
use Prim.Native.Nat.{ℕ}
use native.Mathlib.Omega.{arith}
use lib.ListN.{take, drop}
use Rattle.definitions.specs.Words.{placed}
use Rattle.results.proofs.Writing.{list_refused, list_fits, list_written, range_refused, range_fits, piece_size, piece_same, part_served}
use Rattle.delivery.proofs.deliver_part.Goals as goal

pub returns-in_default : goal.returns-in_default
returns-in_default c =
    let a = c.args in
    let h = a.loaded.now.held in
    range_refused h.text a.res.now a.start a.count c.len.result c.len.ensures c.range_fits-range.result c.range_fits-range.ensures c.in_default.is

pub returns-in_default-a : goal.returns-in_default-a
returns-in_default-a c =
    let a = c.args in
    let h = a.loaded.now.held in
    let old = a.res.now in
    let d = piece_size h.text old a.start a.count c.len.result c.len.ensures c.range_fits-range.result c.range_fits-range.ensures c.in-Ok.is in
    part_served h.text old a.start a.count c.len.result c.len.ensures c.range_fits-range.result c.range_fits-range.ensures c.in-Ok.is
    (list_refused (take a.count (drop a.start h.text)) old _ d c.result_fits-a.result c.result_fits-a.ensures c.in_default-a.is)

pub write_part-requires : goal.write_part-requires
write_part-requires c =
    let a = c.args in
    let h = a.loaded.now.held in
    let old = a.res.now in
    let d = piece_size h.text old a.start a.count c.len.result c.len.ensures c.range_fits-range.result c.range_fits-range.ensures c.in-Ok.is in (
      a.loaded.now.rules,
      h,
      range_fits h.text old a.start a.count c.len.result c.len.ensures c.range_fits-range.result c.range_fits-range.ensures c.in-Ok.is,
      omega (arith, d, list_fits (take a.count (drop a.start h.text)) old _ d c.result_fits-a.result c.result_fits-a.ensures c.in-Ok-a.is),
    )

pub returns : goal.returns
returns c =
    let a = c.args in
    let h = a.loaded.now.held in
    let old = a.res.now in
    let d = piece_size h.text old a.start a.count c.len.result c.len.ensures c.range_fits-range.result c.range_fits-range.ensures c.in-Ok.is in
    let fits = range_fits h.text old a.start a.count c.len.result c.len.ensures c.range_fits-range.result c.range_fits-range.ensures c.in-Ok.is in
    let same = piece_same h.text old a.start a.count c.len.result c.len.ensures c.range_fits-range.result c.range_fits-range.ensures c.in-Ok.is in
    part_served h.text old a.start a.count c.len.result c.len.ensures c.range_fits-range.result c.range_fits-range.ensures c.in-Ok.is
    (list_written (take a.count (drop a.start h.text)) old _ d c.result_fits-a.result c.result_fits-a.ensures c.write_part.new.res c.in-Ok-a.is
    (c.write_part.ensures a.loaded.now.rules h fits ∙ ap (λ (l : List ℕ). placed l old) same))
