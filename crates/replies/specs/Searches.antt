-- The reply to C of a search, field by field: that of its answer, and its tests.
use Rattle.definitions.specs.declared.Search.{Search}
use Rattle.definitions.specs.declared.SearchReply.{SearchReply}
use Rattle.definitions.specs.Services.{outcome_of}
use Rattle.definitions.specs.Replies.{reply_of}

abbrev pub search_reply : Search → SearchReply
search_reply s =
    let r = reply_of (outcome_of s.answer) in
    record { number = r.number; chair = r.chair; place = r.place; count = r.count; tests = s.tests }
