-- What opening a table answers and leaves: a refusal by one of its checks, with the work slice as that check leaves it; or the number of rules of the
-- table that is loaded in the first 16,384 words of the work slice. work is what the slice held before, held what it holds afterwards.
use Rattle.std.specs.Prelude.{◌≡◌, true, false, List, ℕ, ◌≤◌, length, take, drop}
use Rattle.definitions.specs.declared.Order.{Order}
use Rattle.definitions.specs.Table.{table_of, text_of, chair_of, is_table, rule_count}
use Rattle.definitions.specs.Services.{Answer, done, refused, outcome_of, Check, work_slice, cleared, table_checks, not_a_table}
use Rattle.lists.specs.Decisions.{First, Passed, checked}
use Rattle.layout.specs.Layout.{WORK}
use Rattle.state.specs.State.{Loaded}

-- the table is accepted and loaded in the first 16,384 words; the others are as they were
pub record Opened (o : Order) (t work held : List ℕ) : Type 0 where
  pub accepted : is_table o t ≡ true
  pub long : WORK ≤ length held
  pub loaded : Loaded o (text_of o t) (chair_of t) (take WORK held)
  pub rest : drop WORK held ≡ drop WORK work

-- how many rules that table has
abbrev pub rules_opened : Order → List ℕ → ℕ
rules_opened o t = rule_count (table_of o (text_of o t) (chair_of t))

-- how opening ends
pub data Admitted (o : Order) (t work held : List ℕ) (r : Answer) : Type 0 where
  -- the first check that is met refuses
  turned_down : (d : Check) → First d (table_checks o t (length work)) → held ≡ (work_slice work).if_refused d → outcome_of r ≡ refused d.number d.place → Admitted o t work held r
  -- none is met
  opened : Passed (table_checks o t (length work)) → Opened o t work held → outcome_of r ≡ done (rules_opened o t) 0 → Admitted o t work held r

-- how its last check ends
pub record Settled (o : Order) (t work held : List ℕ) (r : Answer) : Type 0 where
  pub answer : outcome_of r ≡ checked (not_a_table o t) (rule_count t)
  pub foreign : (not_a_table o t).met ≡ true → held ≡ cleared work
  pub accepted : (not_a_table o t).met ≡ false → Opened o t work held
