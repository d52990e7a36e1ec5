-- `place_halves` leaves a symbol alone. A pair has a place already: it is the root or a half of a rule behind it.
use mathlib.Core.Path.{◌≡◌, sym, ◌∙◌, ap}
use mathlib.Core.List.{List}
use Prim.Native.Nat.{ℕ, ◌+◌, ◌≤◌, ◌<◌}
use native.Mathlib.Omega.{arith}
use lib.ListN.{set}
use Rattle.layout.specs.Layout.{PLACES, length_in, place_in}
use Rattle.decoding.specs.declared.Rule.TheVariants.{Pair}
use Rattle.decoding.specs.Decoding.{rule_in}
use Rattle.places.proofs.Starts.{place_symbol, pair_room, place_pair}
use Rattle.places.proofs.place_halves.Goals.{In-Pair}
use Rattle.places.proofs.place_halves.Goals as goal

pub returns-in_default : goal.returns-in_default
returns-in_default c =
    let a = c.args in
    λ g h k. place_symbol g a.work.now a.r c.in_default.field-0 c.in_default.field-1 k h (sym c.rule_in.ensures ∙ c.in_default.is)

is_pair_lem : (c : In-Pair) → let a = c.args in rule_in a.work.now a.r ≡ Pair c.in-Pair.left c.in-Pair.right
is_pair_lem c = sym c.rule_in.ensures ∙ c.in-Pair.is

room : (c : In-Pair) → let a = c.args in
    (c.in-Pair.left < 2304) × (c.in-Pair.right < 2304) × (place_in a.work.now a.r + length_in a.work.now c.in-Pair.left ≤ 2048)
room c =
    let (g, h, k) = c.requires in
    pair_room g c.args.work.now c.args.r c.in-Pair.left c.in-Pair.right k h (is_pair_lem c)

pub put-requires-2 : goal.put-requires-2
put-requires-2 c =
    omega (arith, room (goal.at.put-requires-2 c).In-Pair, c.put.auto.s, c.requires.2.sizing.kept.long)

pub returns : goal.returns
returns c =
    let a = c.args in
    let w = a.work.now in
    let u = c.in-Pair.left in
    let v = c.in-Pair.right in
    λ g h k. place_pair g w a.r u v k h (is_pair_lem (goal.at.returns c).In-Pair) c.put-2.new.s
    (c.put-2.ensures ∙ ap (λ (l : List ℕ). set l (PLACES + v) (place_in w a.r + length_in w u)) c.put.ensures)

pub overflow_add-behind : goal.overflow_add-behind
overflow_add-behind c = omega (arith, room (goal.at.overflow_add-behind c).In-Pair)

pub offset_bounds-work-left : goal.offset_bounds-work-left
offset_bounds-work-left c = omega (arith, room (goal.at.offset_bounds-work-left c).In-Pair)

pub bounds-work-left : goal.bounds-work-left
bounds-work-left c = omega (arith, room (goal.at.bounds-work-left c).In-Pair, c.requires.2.sizing.kept.long)

pub overflow_add-behind-2 : goal.overflow_add-behind-2
overflow_add-behind-2 c = omega (arith, room (goal.at.overflow_add-behind-2 c).In-Pair)

pub overflow_add-left : goal.overflow_add-left
overflow_add-left c = omega (arith, room (goal.at.overflow_add-left c).In-Pair)

pub put-requires : goal.put-requires
put-requires c = omega (arith, room (goal.at.put-requires c).In-Pair, c.requires.2.sizing.kept.long)

pub overflow_add-right : goal.overflow_add-right
overflow_add-right c = omega (arith, room (goal.at.overflow_add-right c).In-Pair)
