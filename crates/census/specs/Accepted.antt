-- What the checks that are passed tell: the drive of an accepted table has at most 2,047 samples, each a byte (`accepted`), and an accepted q is 1 to 8 (`window_range`).
use Rattle.std.specs.Prelude.{◌≡◌, false, List, ℕ, ◌≤◌, ◌<◌, length, ltb}
use Rattle.std.proofs.Common.{ltb-false}
use Rattle.std.proofs.lemmas.Bool.{not-false}
use Rattle.definitions.specs.declared.Order.{Order}
use Rattle.definitions.specs.Table.{text_of, is_table}
use Rattle.definitions.specs.Services.{odd_window, table_checks}
use Rattle.lists.specs.Bools.{contra, not_so, or_left, or_right}
use Rattle.lists.specs.Decisions.{Passed, more, none}
use Rattle.lyndon.specs.Ranks.{Bytes}
use Rattle.lyndon.specs.Stored.{accepted_stored}

pub accepted : (o : Order) (t : List ℕ) (n : ℕ) → Passed (table_checks o t n) → (length (text_of o t) ≤ 2047) × Bytes (text_of o t)
unfolding table_checks
accepted o t n (more _ a (more _ b (more _ c (more _ d none)))) = let s = accepted_stored o t (not-false (is_table o t) d) in (s.short, s.bytes)

pub window_range : (q : ℕ) → (odd_window q).met ≡ false → (0 < q) × (q ≤ 8)
window_range q e = (
  ltb-false q 1 (not_so (ltb q 1) (λ h. contra (or_left (ltb q 1) (ltb 8 q) h) e)),
  ltb-false 8 q (not_so (ltb 8 q) (λ h. contra (or_right (ltb q 1) (ltb 8 q) h) e)),
)
