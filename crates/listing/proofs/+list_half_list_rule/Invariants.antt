-- A left half that is handed on is an earlier rule, and `list_half` hands on its own rule. The loop's invariant: what is listed and what the rest lists are all of the rule.
use Prim.Native.Nat.{◌+◌, ◌*◌}
use Rattle.listing.proofs.Listing.{Remains}
use Rattle.listing.proofs.+list_half_list_rule.Given as goal

abbrev pub decreases-list_half : goal.decreases-list_half
decreases-list_half l = 2 * l.r + 1

abbrev pub decreases-list_rule : goal.decreases-list_rule
decreases-list_rule l = 2 * l.r

abbrev pub invariant-list_rule-loop-u : goal.invariant-list_rule-loop-u
invariant-list_rule-loop-u l = Remains l.work l.first l.r l.at l.written l.fn.res l.rest l.place l.n l.res

abbrev pub decreases-list_rule-loop-u : goal.decreases-list_rule-loop-u
decreases-list_rule-loop-u l = l.rest
