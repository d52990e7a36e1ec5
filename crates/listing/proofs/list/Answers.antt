-- `list` lists the root, whose string is the marked text.
use native.Mathlib.Omega.{arith}
use lib.ListN.{length}
use Rattle.listing.proofs.Listing.{root_some, root_lists, root_done}
use Rattle.listing.proofs.list.Goals as goal

pub overflow_sub-rules : goal.overflow_sub-rules
overflow_sub-rules c =
    omega (arith, root_some c.requires.0 c.args.from c.args.rules c.requires.1)

pub list_rule-requires : goal.list_rule-requires
list_rule-requires c =
    root_lists c.requires.0 c.args.from c.args.rules c.requires.1 (length c.args.res.now) c.requires.3

pub returns : goal.returns
returns c h e =
    let a = c.args in
    root_done h a.from a.rules e c.list_rule.result a.res.now c.list_rule.new.res c.list_rule.ensures

pub overflow_add-from : goal.overflow_add-from
overflow_add-from c = omega (arith, c.requires.2)
