-- `place_rules` sizes all rules, places the root at the front of the marked text, which it spells, and then the halves of all rules.
use Prim.Native.Nat.{◌≤◌, ◌<◌}
use native.Mathlib.Omega.{arith}
use Rattle.lyndon.specs.Stored.{rule_range}
use Rattle.places.proofs.Sizes.{size_start}
use Rattle.places.proofs.Starts.{place_start, place_end}
use Rattle.places.proofs.place_rules.Goals.{Start}
use Rattle.places.proofs.place_rules.Goals as goal

pub size_all-requires : goal.size_all-requires
size_all-requires c =
    let (g, e, m) = c.requires in
    (g, e, size_start g c.args.work.now m)

-- the number of rules
range : (s : Start) → (0 < s.args.rules) × (s.args.rules ≤ 2304)
range s =
    let (g, e, m) = s.requires in
    let (some, most) = rule_range g.order g.text g.chair m.stored in
    (omega (arith, e), omega (arith, e))

pub put-requires : goal.put-requires
put-requires c =
    omega (arith, range (goal.at.put-requires c).Start, c.requires.2.built.long, c.size_all.auto.work)

pub place_all-requires : goal.place_all-requires
place_all-requires c =
    let (g, e, m) = c.requires in
    (g, e, place_start g c.size_all.new.work c.put.new.s c.args.rules e (c.size_all.ensures g e (size_start g c.args.work.now m)) c.put.ensures)

pub returns : goal.returns
returns c g e m =
    place_end g c.place_all.new.work
    (c.place_all.ensures g e
    (place_start g c.size_all.new.work c.put.new.s c.args.rules e (c.size_all.ensures g e (size_start g c.args.work.now m)) c.put.ensures))

pub overflow_sub-rules : goal.overflow_sub-rules
overflow_sub-rules c = omega (arith, range (goal.at.overflow_sub-rules c).Start)

pub overflow_add-rules : goal.overflow_add-rules
overflow_add-rules c = omega (arith, range (goal.at.overflow_add-rules c).Start)
