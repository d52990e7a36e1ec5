-- Building a drive's table with chair number 0, where both lent slices suffice: it refuses by 1 alone, and else the table stands at the front of the result slice
-- (`build_suffices`).
use Rattle.std.specs.Prelude.{◌≡◌, refl, Bool, List, [], ◌∷◌, ℕ, ◌≤◌, get_or, ltb}
use Rattle.std.proofs.Common.{◌∙◌, ap}
use Rattle.std.proofs.Math.Bool.{true, false}
use native.Mathlib.Omega.{arith}
use Rattle.std.proofs.Math.ListN.{length}
use borrow.Author.Tests.{le-ltb, ltb-false}
use Rattle.definitions.specs.declared.Order.{Order}
use Rattle.definitions.specs.Table.{table_of}
use Rattle.definitions.specs.Services.{Answer, Service, done, result_slice, first_met, outcome, slices_after, Serves, Answers, text_too_long, build_service}
use Rattle.lists.specs.Serving.{by}
use Rattle.lyndon.specs.Ranks.{Bytes}
use Rattle.lyndon.specs.Stored.{Stored, table_size}

pub stored : (text : List ℕ) → length text ≤ 2047 → Bytes text → Stored text 0
stored text h b = record { short = h; bytes = b; chairs = omega arith }

abbrev pub drive_table : Order → List ℕ → List ℕ → Service
drive_table o text old = by (text_too_long text ∷ []) (done (length (table_of o text 0)) 0) (result_slice (table_of o text 0) old ∷ [])

module _ (o : Order) (text old work : List ℕ) (long : 16384 ≤ length work) (room : 4608 ≤ length old) (b : Bytes text) where
  built : (m : Bool) → ltb 2047 (length text) ≡ m
      → (outcome (build_service o text 0 work old) ≡ outcome (drive_table o text old))
      × (get_or (slices_after (build_service o text 0 work old)) 1 [] ∷ [] ≡ slices_after (drive_table o text old))
  unfolding outcome slices_after build_service first_met
  built true q = (rw q, rw q)
  built false q =
      let size = table_size o text 0 (stored text (ltb-false 2047 (length text) q) b) in
      let fits : length (table_of o text 0) ≤ length old = omega arith in
      (rw (q, le-ltb (length work) 16384 long, le-ltb (length old) (length (table_of o text 0)) fits), rw (q, le-ltb (length work) 16384 long, le-ltb (length old) (length (table_of o text 0)) fits))

  pub build_suffices : {work' new : List ℕ} (r : Answer) → Serves (build_service o text 0 work old) (Answers r) (work' ∷ new ∷ []) → Serves (drive_table o text old) (Answers r) (new ∷ [])
  build_suffices r v =
      let (answer, table) = built (ltb 2047 (length text)) refl in
      record { answer = v.answer ∙ answer; slices = ap (λ (l : List (List ℕ)). get_or l 1 [] ∷ []) v.slices ∙ table }
