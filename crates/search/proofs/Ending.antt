-- Where counting ends: the root's string is the marked text, so its number is that of the text (`counted_text`).
use mathlib.Core.Path.{◌≡◌, ◌∙◌, ap}
use mathlib.Core.List.{List, map}
use Prim.Native.Nat.{ℕ, suc, ◌-◌, ◌<◌}
use native.Mathlib.Omega.{arith}
use lib.ListN.{length, length-map}
use Rattle.definitions.specs.declared.Order.{Order}
use Rattle.definitions.specs.Table.{rank_of, table_of, spelled, rule_count}
use Rattle.definitions.specs.Occurrences.{occurrences}
use Rattle.lyndon.specs.Stored.{table_spelled}
use Rattle.lyndon.specs.Occurrences.{occurrences_marked}
use Rattle.layout.specs.Layout.{count_in}
use Rattle.state.specs.State.{Loaded}
use Rattle.rule_finds.specs.Found.{occurs_in}
use Rattle.rule_finds.specs.Searching.{Pattern, Counting, Searched}

pub root_occurs : (o : Order) (p text : List ℕ) (chair : ℕ) (w : List ℕ) → Loaded o text chair w → Pattern p
    → occurs_in o (table_of o text chair) (map (rank_of o) p) (rule_count (table_of o text chair) - 1) ≡ map suc (occurrences p text)
unfolding occurs_in spelled
root_occurs o p text chair w h q =
    ap (occurrences (map (rank_of o) p)) (table_spelled o text chair h.kept.stored)
    ∙ occurrences_marked o p text q.filled q.bytes h.kept.stored.bytes

pub counted_text : (o : Order) (p text : List ℕ) (chair rules : ℕ) (w : List ℕ) → 0 < rules → rules ≡ rule_count (table_of o text chair)
    → Searched o p text chair w → count_in w (rules - 1) ≡ length (occurrences p text)
counted_text o p text chair rules w s e h =
    (h.found (rules - 1) (omega arith)).number
    ∙ ap (λ (i : ℕ). length (occurs_in o (table_of o text chair) (map (rank_of o) p) (i - 1))) e
    ∙ ap length (root_occurs o p text chair w h.loaded h.pattern)
    ∙ length-map (occurrences p text) suc

pub counted_all : (o : Order) (p text : List ℕ) (chair m n rules : ℕ) (w : List ℕ) → rules ≡ rule_count (table_of o text chair) → Counting o p text chair m n rules w → Searched o p text chair w
counted_all o p text chair m n rules w e h = record { loaded = h.loaded; pattern = h.pattern; found = λ r l. h.found r (omega arith) }
