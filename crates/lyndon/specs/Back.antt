-- What building writes, checking accepts (`built_checked`) and reading gives back, drive and chair number (`built_read`); checking accepts
-- nothing else (`checked_built`). All of the services' definitions alone. In every call of building that serves, this holds of what it wrote (`build_returned`).
use Rattle.std.specs.Prelude.{◌≡◌, refl, List, [], ◌∷◌, ◌++◌, ℕ, ◌≤◌, ◌<◌, length, take, get_or}
use Rattle.std.proofs.Common.{sym, ◌∙◌, ap, ap₂, subst, append-nil}
use borrow.Author.Tests.{le-ltb, ltb-false}
use Rattle.definitions.specs.declared.Order.{Order}
use Rattle.definitions.specs.Words.{placed}
use Rattle.definitions.specs.Table.{table_of, rule_count}
use Rattle.definitions.specs.Services.{Answer, done, outcome_of, Check, first_met, cleared, outcome, slices_after, Serves, Answers, text_too_long, table_checks, build_service, check_service, read_service}
use Rattle.lists.specs.Lists.{placed_front}
use Rattle.lists.specs.Decisions.{Passed, more}
use Rattle.lists.specs.Serving.{done_passed, done_served}
use Rattle.lyndon.specs.Ranks.{Bytes}
use Rattle.lyndon.specs.Stored.{Stored, Acceptable, passes, table_text, table_chair}

-- the work slice is long enough
module _ (o : Order) (text : List ℕ) (chair : ℕ) (work : List ℕ) (ok : Stored text chair) (long : 16384 ≤ length work) where
  table_passes : Acceptable o (table_of o text chair)
  table_passes = (passes o (table_of o text chair)).1 (text, chair, ok, refl)

  pub built_checked : outcome (check_service o (table_of o text chair) work) ≡ done (rule_count (table_of o text chair)) 0
  unfolding outcome check_service table_checks first_met
  built_checked = rw (le-ltb (length work) 16384 long, table_passes.0, table_passes.1, table_passes.2)

  -- and so is the result slice
  module _ (result : List ℕ) (room : length text ≤ length result) where
    pub built_read : outcome (read_service o (table_of o text chair) work result) ≡ done (length text) chair
    unfolding outcome read_service table_checks first_met
    built_read =
        rw (le-ltb (length work) 16384 long, table_passes.0, table_passes.1, table_passes.2, table_text o text chair ok, table_chair o text chair ok, le-ltb (length result) (length text) room)

    pub built_back : slices_after (read_service o (table_of o text chair) work result) ≡ cleared work ∷ placed text result ∷ []
    unfolding slices_after read_service table_checks first_met
    built_back =
        rw (le-ltb (length work) 16384 long, table_passes.0, table_passes.1, table_passes.2, table_text o text chair ok, le-ltb (length result) (length text) room)

-- where all checks of a call are passed, the table is acceptable, whatever was checked behind it
pub passed_acceptable : (o : Order) (t : List ℕ) (n : ℕ) (rest : List Check) → Passed (table_checks o t n ++ rest) → Acceptable o t
unfolding table_checks
passed_acceptable o t n rest (more _ _ (more _ x (more _ y (more _ z _)))) = (x, y, z)

-- a check that succeeds has met none of its conditions
pub checked_built : (o : Order) (t work : List ℕ) (k h : ℕ) → outcome (check_service o t work) ≡ done k h
    → (text : List ℕ) × (chair : ℕ) × Stored text chair × (t ≡ table_of o text chair)
unfolding check_service
checked_built o t work k h e = (passes o t).0 (passed_acceptable o t (length work) [] (subst Passed (sym (append-nil (table_checks o t (length work)))) (done_passed (check_service o t work) e)))

-- u is the table of a drive and a chair number: checking accepts it, and reading gives both back
pub record AsBuilt (o : Order) (text : List ℕ) (chair : ℕ) (u : List ℕ) : Type 0 where
  pub table : u ≡ table_of o text chair
  pub checked : (work : List ℕ) → 16384 ≤ length work → outcome (check_service o u work) ≡ done (rule_count u) 0
  pub read : (work : List ℕ) → 16384 ≤ length work → (result : List ℕ) → length text ≤ length result
      → (outcome (read_service o u work result) ≡ done (length text) chair) × (slices_after (read_service o u work result) ≡ cleared work ∷ placed text result ∷ [])

-- of every call that serves and answers k, of bytes and a chair number that has two
pub build_returned : (o : Order) (text : List ℕ) (chair : ℕ) (work result : List ℕ) (r : Answer) {work' result' : List ℕ} (k : ℕ) → Bytes text → chair < 65536
    → Serves (build_service o text chair work result) (Answers r) (work' ∷ result' ∷ []) → outcome_of r ≡ done k 0
    → (k ≡ length (table_of o text chair)) × AsBuilt o text chair (take k result')
unfolding build_service
build_returned o text chair work result r {work'} {result'} k b c v e =
    let u = table_of o text chair in
    let (passed, success, slices) = done_served r v e in
    let q : length u ≡ k = cc in
    let held : result' ≡ placed u result = ap (λ (l : List (List ℕ)). get_or l 1 []) slices in
    let front : take k result' ≡ u = ap₂ {C = List ℕ} take (sym q) held ∙ placed_front u result in
    (sym q, subst (AsBuilt o text chair) (sym front) (built (fits passed)))
  where
    fits : {rest : List Check} → Passed (text_too_long text ∷ rest) → length text ≤ 2047
    fits (more _ x _) = ltb-false 2047 (length text) x

    built : length text ≤ 2047 → AsBuilt o text chair (table_of o text chair)
    built short =
        let ok : Stored text chair = record { short = short; bytes = b; chairs = c } in
        record {
          table = refl;
          checked = λ w long. built_checked o text chair w ok long;
          read = λ w long l room. (built_read o text chair w ok long l room, built_back o text chair w ok long l room);
        }
