-- `found_in` answers nothing where the rule's string is too short; else the rule is a pair, and it adds what both halves have and the occurrence at the
-- join, which is tested where the rule stands.
use mathlib.Core.Path.{◌≡◌, sym, ◌∙◌, ap, ap₂, subst}
use mathlib.Core.List.{map}
use Prim.Native.Nat.{ℕ, ◌*◌, ◌/◌, ◌%◌, ◌<◌, min}
use native.Mathlib.Omega.{arith}
use lib.ListN.{length, length-map}
use borrow.Author.Tests.{ltb-true, ltb-false}
use Rattle.definitions.specs.Table.{rank_of, table_of}
use Rattle.definitions.specs.Occurrences.{pattern_cuts}
use Rattle.lyndon.specs.Tests.{one_tests}
use Rattle.layout.specs.Layout.{PACK, length_in, place_in}
use Rattle.decoding.specs.declared.Rule.{Rule}
use Rattle.decoding.specs.declared.Rule.TheVariants.{Pair}
use Rattle.decoding.specs.Decoding.{rule_in}
use Rattle.rule_finds.specs.Searching.{FoundFor}
use Rattle.rule_finds.proofs.Counting.{PairKnown, turn_known, pair_known, pair_found, pair_tests}
use Rattle.rule_finds.proofs.Short.{long_pair, short_found, short_tests}
use Rattle.rule_finds.proofs.found_in.Goals.{After-right_in-v}
use Rattle.rule_finds.proofs.found_in.Goals as goal

pub found_of_one-requires : goal.found_of_one-requires
found_of_one-requires c =
    record { size = c.args.pattern.size; cuts = c.args.pattern.cuts; turn = c.requires.0; short = c.if-pattern-lt2.true }

pub returns-then-pattern-lt2 : goal.returns-then-pattern-lt2
returns-then-pattern-lt2 c h =
    let a = c.args in
    let t = table_of h.order h.text h.chair in
    let one : length h.samples ≡ 1 = omega (arith, h.counting.size, h.counting.tried.filled, c.if-pattern-lt2.true) in (
      subst (FoundFor h) (sym c.untested.ensures.0) (c.found_of_one.ensures record { size = a.pattern.size; cuts = a.pattern.cuts; turn = h; short = c.if-pattern-lt2.true }),
      omega (arith, c.untested.ensures.1, ap length (one_tests h.order t h.samples (length h.samples) a.r one)),
    )

pub returns-then-is_shorter : goal.returns-then-is_shorter
returns-then-is_shorter c h =
    let a = c.args in
    let shorter = ltb-true (length_in a.work.now a.r) a.pattern.size (sym c.is_shorter.ensures ∙ c.if-is_shorter.true) in (
      subst (FoundFor h) (sym c.untested-then-is_shorter.ensures.0)
          (short_found h.order h.text h.chair a.work.now h.counting.loaded a.r h.low (map (rank_of h.order) h.samples)
          (omega (arith, length-map h.samples (rank_of h.order), h.counting.size))),
      omega (
        arith,
        c.untested-then-is_shorter.ensures.1,
        short_tests h.order h.text h.chair a.work.now h.counting.loaded a.r h.low (length h.samples) (pattern_cuts h.order h.samples) (omega (arith, h.counting.size)),
      ),
    )

-- the rule is a pair
is_pair_lem : (c : After-right_in-v) → let a = c.args in
    rule_in a.work.now a.r ≡ Pair c.left_in-u.result c.right_in-v.result
is_pair_lem c =
    let h = c.requires.0 in
    long_pair h.order h.text h.chair c.args.work.now h.counting.loaded c.args.r h.low
    (omega (arith, ltb-false (length_in c.args.work.now c.args.r) c.args.pattern.size (sym c.is_shorter.ensures ∙ c.if-is_shorter.false), c.if-pattern-lt2.false))
    ∙ ap₂ {C = Rule} (λ u v. Pair u v) (sym c.left_in-u.ensures) (sym c.right_in-v.ensures)

known : (c : After-right_in-v) → let a = c.args in
    PairKnown c.left_in-u.result c.right_in-v.result (place_in a.work.now a.r) a.work.now
known c = pair_known c.requires.0 c.left_in-u.result c.right_in-v.result (is_pair_lem c)

pub test_join-joined-requires : goal.test_join-joined-requires
test_join-joined-requires c =
    let h = c.requires.0 in
    (c.requires.1, omega (arith, (known (goal.at.test_join-joined-requires c).After-right_in-v).inside, c.place_of-at.ensures, c.length_of-right.ensures, c.length_of-left.ensures), (turn_known h).long, c.requires.2)

packed_small : (x : ℕ) → x / PACK ≡ min 1 (x % PACK) → x < 2 * PACK
packed_small x e = omega arith

pub found-requires : goal.found-requires
found-requires c =
    let k = known (goal.at.found-requires c).After-right_in-v in
    (k.left, k.right, k.most, k.apart, packed_small c.test_join-joined.result.found c.test_join-joined.ensures.0.number)

pub returns : goal.returns
returns c h =
    let x = c.test_join-joined.result.found in
    let packed = c.test_join-joined.ensures.0 in (
      pair_found h c.left_in-u.result c.right_in-v.result (is_pair_lem (goal.at.returns c).After-right_in-v) c.place_of-at.result c.length_of-left.result c.length_of-right.result (x % PACK) c.found.result
          c.place_of-at.ensures c.length_of-left.ensures c.length_of-right.ensures packed.cut (omega (arith, c.found.ensures.0, packed.number)) c.found.ensures.1,
      pair_tests h c.left_in-u.result c.right_in-v.result (is_pair_lem (goal.at.returns c).After-right_in-v) c.length_of-left.result c.length_of-right.result _ c.test_join-joined.result.tests
          c.length_of-left.ensures c.length_of-right.ensures c.test_join-joined.ensures.1,
    )

pub is_shorter-requires : goal.is_shorter-requires
is_shorter-requires c = let h = c.requires.0 in (turn_known h, h.counting.tried.short)

pub left_in-u-requires : goal.left_in-u-requires
left_in-u-requires c = turn_known c.requires.0

pub right_in-v-requires : goal.right_in-v-requires
right_in-v-requires c = turn_known c.requires.0

pub length_of-left-requires : goal.length_of-left-requires
length_of-left-requires c = (known (goal.at.length_of-left-requires c).After-right_in-v).left

pub length_of-right-requires : goal.length_of-right-requires
length_of-right-requires c = (known (goal.at.length_of-right-requires c).After-right_in-v).right

pub place_of-at-requires : goal.place_of-at-requires
place_of-at-requires c = turn_known c.requires.0
