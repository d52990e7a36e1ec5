-- Listing a rule: what is listed and what the rest lists are all of the rule (`Remains`), from right half to right half, each an earlier rule.
use mathlib.Core.Path.{sym, ◌∙◌}
use Prim.Native.Nat.{◌+◌}
use native.Mathlib.Omega.{arith}
use Rattle.listing.proofs.Listing.{lists_known, list_none, symbol_fits, list_symbol, list_pair, list_left, right_remains, none_remains, cut_fits}
use Rattle.listing.proofs.+list_half_list_rule.Goals as goal

-- ---- a half

pub list_half-number_of-requires : goal.list_half-number_of-requires
list_half-number_of-requires t c = lists_known c.requires

pub list_half-returns-then-number_of-eq0 : goal.list_half-returns-then-number_of-eq0
list_half-returns-then-number_of-eq0 t c = list_none c.requires c.args.res.now (sym c.number_of.ensures ∙ c.if-number_of-eq0.true)

pub list_half-rule_in-requires : goal.list_half-rule_in-requires
list_half-rule_in-requires t c = lists_known c.requires

pub list_half-list_one-requires : goal.list_half-list_one-requires
list_half-list_one-requires t c =
    let l = c.requires in
    (omega (arith, l.inside), symbol_fits l c.in_default.field-0 c.in_default.field-1 (λ z. c.if-number_of-eq0.false (c.number_of.ensures ∙ z)) (sym c.in_default.ensures))

pub list_half-returns-in_default : goal.list_half-returns-in_default
list_half-returns-in_default t c =
    list_symbol c.requires c.in_default.field-0 c.in_default.field-1 (λ z. c.if-number_of-eq0.false (c.number_of.ensures ∙ z)) (sym c.in_default.ensures)
    c.list_one.result c.args.res.now c.list_one.new.res c.list_one.ensures.0 c.list_one.ensures.1

-- ---- a rule

pub list_rule-number_of-requires : goal.list_rule-number_of-requires
list_rule-number_of-requires t c = lists_known c.loop-u.invariant.listable

pub list_rule-rule_in-requires : goal.list_rule-rule_in-requires
list_rule-rule_in-requires t c = lists_known c.loop-u.invariant.listable

pub list_rule-list_one-requires : goal.list_rule-list_one-requires
list_rule-list_one-requires t c =
    let l = c.loop-u.invariant.listable in
    (omega (arith, l.inside), symbol_fits l c.in_default.field-0 c.in_default.field-1 (λ z. omega (arith, c.loop-u-test.true, c.number_of.ensures)) (sym c.in_default.ensures))

pub list_rule-returns-in_default : goal.list_rule-returns-in_default
list_rule-returns-in_default t c =
    none_remains c.loop-u.invariant c.list_one.result c.list_one.new.res
    (list_symbol c.loop-u.invariant.listable c.in_default.field-0 c.in_default.field-1 (λ z. omega (arith, c.loop-u-test.true, c.number_of.ensures)) (sym c.in_default.ensures)
    c.list_one.result c.loop-u.res c.list_one.new.res c.list_one.ensures.0 c.list_one.ensures.1)

pub list_rule-length_of-requires : goal.list_rule-length_of-requires
list_rule-length_of-requires t c =
    let j = lists_known c.loop-u.invariant.listable in
    let p = list_pair c.loop-u.invariant.listable c.in-Pair.u c.in-Pair.v (sym c.in-Pair.ensures) in
    record { low = omega (arith, j.low, p.left); long = j.long }

pub list_rule-overflow_add-join : goal.list_rule-overflow_add-join
list_rule-overflow_add-join t c =
    let p = list_pair c.loop-u.invariant.listable c.in-Pair.u c.in-Pair.v (sym c.in-Pair.ensures) in
    omega (arith, c.length_of.ensures, p.size, c.loop-u.invariant.listable.inside)

pub list_rule-cut_of-requires : goal.list_rule-cut_of-requires
list_rule-cut_of-requires t c = lists_known c.loop-u.invariant.listable

pub list_rule-list_half-n-requires : goal.list_rule-list_half-n-requires
list_rule-list_half-n-requires t c =
    let l = c.loop-u.invariant.listable in
    let p = list_pair l c.in-Pair.u c.in-Pair.v (sym c.in-Pair.ensures) in
    (omega (arith, c.decreases, p.left, c.loop-u.invariant.falls), list_left l c.in-Pair.u c.in-Pair.v (sym c.in-Pair.ensures))

pub list_rule-list_cut-n-requires : goal.list_rule-list_cut-n-requires
list_rule-list_cut-n-requires t c =
    cut_fits c.loop-u.invariant c.in-Pair.u c.in-Pair.v (sym c.in-Pair.ensures) (c.loop-u.place + c.length_of.result)
    (omega (arith, c.length_of.ensures)) c.cut_of.result c.cut_of.ensures c.list_half-n.result c.list_half-n.new.res c.list_half-n.auto.res c.list_half-n.ensures

pub list_rule-loop-u-smaller : goal.list_rule-loop-u-smaller
list_rule-loop-u-smaller t c = (list_pair c.loop-u.invariant.listable c.in-Pair.u c.in-Pair.v (sym c.in-Pair.ensures)).right

pub list_rule-loop-u-preserved : goal.list_rule-loop-u-preserved
list_rule-loop-u-preserved t c =
    right_remains c.loop-u.invariant c.in-Pair.u c.in-Pair.v (sym c.in-Pair.ensures) (c.loop-u.place + c.length_of.result)
    (omega (arith, c.length_of.ensures)) c.cut_of.result c.cut_of.ensures c.list_half-n.result c.list_cut-n.result c.list_half-n.new.res c.list_cut-n.new.res
    c.list_half-n.auto.res c.list_cut-n.auto.res c.list_half-n.ensures c.list_cut-n.ensures.0 c.list_cut-n.ensures.1

pub list_rule-returns : goal.list_rule-returns
list_rule-returns t c =
    none_remains c.loop-u.invariant c.loop-u.n c.loop-u.res (list_none c.loop-u.invariant.listable c.loop-u.res (omega (arith, c.loop-u-test.false, c.number_of.ensures)))
