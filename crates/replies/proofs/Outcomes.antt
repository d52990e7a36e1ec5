-- The reply of a search stands for the outcome that the search stands for.
use mathlib.Core.Path.{◌≡◌, refl, ◌∙◌, ap₂}
use Prim.Native.Nat.{ℕ}
use Rattle.definitions.specs.declared.Search.{Search}
use Rattle.definitions.specs.declared.SearchReply.{SearchReply}
use Rattle.definitions.specs.Services.{Outcome, done, refused, alone, tests_made, Searches}
use Rattle.definitions.specs.Replies.{reply_of, search_reply_of, SearchReplies}
use Rattle.replies.specs.Searches.{search_reply}

-- the reply of an outcome, with so many tests
abbrev made : Outcome → ℕ → SearchReply
made o n = let r = reply_of o in record { number = r.number; chair = r.chair; place = r.place; count = r.count; tests = n }

same_outcome : (o : Outcome) → made (alone o) (tests_made o) ≡ search_reply_of o
unfolding alone tests_made reply_of search_reply_of
same_outcome (done n tests) = refl
same_outcome (refused number place) = refl

pub search_replies : (s : Search) (r : SearchReply) → r ≡ search_reply s → (o : Outcome) → Searches s o → SearchReplies r o
search_replies s r h o e = h ∙ ap₂ {C = SearchReply} made e.answer e.tests ∙ same_outcome o
