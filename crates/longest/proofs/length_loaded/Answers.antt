-- `length_loaded` is refused by 8, or answers the entry of the array that was placed.
use native.Mathlib.Omega.{arith}
use Rattle.longest.proofs.Placing.{room, low, length_refused, length_served}
use Rattle.longest.proofs.length_loaded.Goals as goal

pub returns-in_default : goal.returns-in_default
returns-in_default c o h =
    length_refused h c.text_length-n.result (c.text_length-n.ensures o h) c.args.position c.range_fits-a.result c.range_fits-a.ensures c.in_default.is

pub place_array-requires : goal.place_array-requires
place_array-requires c =
    (c.requires.0, c.args.rules, c.requires.1, c.text_length-n.ensures c.requires.0 c.requires.1)

pub overflow_add-position : goal.overflow_add-position
overflow_add-position c =
    omega (arith, low c.requires.1 c.text_length-n.result (c.text_length-n.ensures c.requires.0 c.requires.1) c.args.position c.range_fits-a.result c.range_fits-a.ensures c.in-Ok.is)

pub offset_bounds-work-position : goal.offset_bounds-work-position
offset_bounds-work-position c =
    omega (arith, low c.requires.1 c.text_length-n.result (c.text_length-n.ensures c.requires.0 c.requires.1) c.args.position c.range_fits-a.result c.range_fits-a.ensures c.in-Ok.is)

pub bounds-work-position : goal.bounds-work-position
bounds-work-position c =
    let (o, h) = c.requires in
    let n = c.text_length-n.result in
    let q = c.text_length-n.ensures o h in
    omega (arith, c.place_array.auto.work, room h n q, low h n q c.args.position c.range_fits-a.result c.range_fits-a.ensures c.in-Ok.is)

pub returns : goal.returns
returns c o h =
    let q = c.text_length-n.ensures o h in
    length_served h c.text_length-n.result q c.args.position c.range_fits-a.result c.range_fits-a.ensures c.in-Ok.is c.place_array.new.work
    (c.place_array.ensures o c.args.rules h q) c.wide.result c.wide.ensures
