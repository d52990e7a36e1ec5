-- The line of an answer that refuses.
use Rattle.std.specs.Prelude.{Ok, Err, List, [], ℕ}
use Rattle.definitions.specs.Programs.{named, refused_name}
use Rattle.definitions.specs.Services.{Answer, refusal_number}

-- the line that is printed of a refusal; nothing of a success
unfoldable pub refusal : Answer → List ℕ
refusal (Ok n) = []
refusal (Err r) = named refused_name (refusal_number r)
