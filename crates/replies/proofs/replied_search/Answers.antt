-- `replied_search` replies as `replied` does, and adds the tests.
use mathlib.Core.Path.{◌≡◌, ap}
use Prim.Native.Nat.{ℕ}
use Rattle.definitions.specs.declared.Reply.{Reply}
use Rattle.definitions.specs.declared.SearchReply.{SearchReply}
use Rattle.replies.proofs.replied_search.Goals as goal

with : (tests : ℕ) {r s : Reply} → r ≡ s
    → ◌≡◌ {A = SearchReply} record { number = r.number; chair = r.chair; place = r.place; count = r.count; tests = tests }
    record { number = s.number; chair = s.chair; place = s.place; count = s.count; tests = tests }
with tests e = ap (λ (x : Reply). record { number = x.number; chair = x.chair; place = x.place; count = x.count; tests = tests }) e

pub returns : goal.returns
returns c = with _ c.replied-r.ensures
