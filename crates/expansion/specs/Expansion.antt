-- The walk that expands a table's root: what is written, what the current rule spells and what the pending rules spell are together
-- what the table spells.
use Rattle.std.specs.Prelude.{◌≡◌, List, [], ◌++◌, ℕ, zero, suc, ◌+◌, ◌≤◌, ◌<◌, length, get_or, Option, Some, None}
use Rattle.definitions.specs.declared.Order.{Order}
use Rattle.definitions.specs.Table.{rule_string, spelled, rule_count}
use Rattle.lists.specs.Parts.{part}
use Rattle.lyndon.specs.Shapes.{Shaped}
use Rattle.layout.specs.Layout.{STACK, WORK}
use Rattle.expansion.specs.declared.Turn.{Turn}
use Rattle.expansion.specs.declared.Turn.TheVariants.{Next, Whole}

-- what the d pending rules spell, the top first; they stand from STACK on
unfoldable pub pending_in : Order → List ℕ → List ℕ → ℕ → List ℕ
pending_in o t w zero = []
pending_in o t w (suc d) = rule_string o t (get_or w (STACK + d) 0) ++ pending_in o t w d

-- the first symbols are written, `rule` comes next, and the pending rules behind it
pub record Expanding (o : Order) (t w : List ℕ) (rule written pending : ℕ) : Type 0 where
  pub low : rule < rule_count t
  pub rules : (k : ℕ) → k < pending → get_or w (STACK + k) 0 < rule_count t
  pub whole : spelled o t ≡ part 0 written w ++ (rule_string o t rule ++ pending_in o t w pending)

-- the walk can go on
pub record Expandable (o : Order) (t w : List ℕ) (rule written pending : ℕ) : Type 0 where
  pub shaped : Shaped t
  pub most : length t ≤ 4608
  pub long : WORK ≤ length w
  pub room : written + pending < 2048
  pub expanding : Expanding o t w rule written pending

-- the walk has gone on, one nearer to its end; or it is at its end
abbrev pub Stepped : Order → List ℕ → List ℕ → ℕ → ℕ → Turn → Type 0
Stepped o t w written pending (Next p) =
    Expanding o t w p.rule p.written p.pending × (p.written + p.written + p.pending ≡ suc (written + written + pending)) × (p.written + p.pending ≤ 2048)
Stepped o t w written pending (Whole n) = (0 < n) × (n ≤ 2048) × (part 0 n w ≡ spelled o t)

-- so many symbols are written and are all that the table spells; or it spells more than 2,048
abbrev pub Expanded : Order → List ℕ → List ℕ → Option ℕ → Type 0
Expanded o t w (Some n) = (0 < n) × (n ≤ 2048) × (part 0 n w ≡ spelled o t)
Expanded o t w None = 2048 < length (spelled o t)
