-- The reply that each outcome has in the interface to C, which has no enums: its number is 0 on success alone; what a form says of a table there;
-- and the number of the interface.
use Rattle.std.specs.Prelude.{ℕ, ◌%◌, ◌≡◌, cond, eqb}
use Rattle.definitions.specs.declared.Content.{Content}
use Rattle.definitions.specs.declared.Content.TheVariants.{Samples, Steps}
use Rattle.definitions.specs.Services.{Outcome, done, refused}
use Rattle.definitions.specs.declared.Reply.{Reply}
use Rattle.definitions.specs.declared.SearchReply.{SearchReply}

unfoldable pub reply_of : Outcome → Reply
reply_of (done n chair) = record { number = 0; chair = chair; place = 0; count = n }
reply_of (refused number place) = record { number = number; chair = 0; place = place; count = 0 }

unfoldable pub search_reply_of : Outcome → SearchReply
search_reply_of (done n made) = record { number = 0; chair = 0; place = 0; count = n; tests = made }
search_reply_of (refused number place) = record { number = number; chair = 0; place = place; count = 0; tests = 0 }

abbrev pub Replies : Reply → Outcome → Type 0
Replies r o = r ≡ reply_of o

abbrev pub SearchReplies : SearchReply → Outcome → Type 0
SearchReplies r o = r ≡ search_reply_of o

-- bit 0 of a form: the table holds steps; no other bit is looked at
unfoldable pub content_of : ℕ → Content
content_of form = cond (eqb (form % 2) 1) Steps Samples

-- goes up with every change of a signature or a struct of the interface to C
abbrev pub interface_number : ℕ
interface_number = 3
