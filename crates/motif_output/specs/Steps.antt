-- The two steps of the program `motif`, as services: building the drive's table, and locating the motif. What either refuses is printed.
use Rattle.std.specs.Prelude.{List, [], ◌∷◌, ◌++◌, ◌≡◌, ℕ, ◌≤◌, length}
use Rattle.definitions.specs.declared.Order.{Order}
use Rattle.definitions.specs.Table.{table_of, rule_count}
use Rattle.definitions.specs.Occurrences.{occurrences}
use Rattle.definitions.specs.Services.{Service, done, result_slice, text_too_long, sample_order, pattern_checks}
use Rattle.definitions.specs.Programs.{named, printed, motif_of, drive_of, input_too_long, rules_name, found_lines}

unfoldable pub drive_step : Order → List ℕ → List ℕ → Service
drive_step o input table =
    let t = table_of o (drive_of input) 0 in
    record { checks = input_too_long input ∷ text_too_long (drive_of input) ∷ []; success = done (length t) 0; lent = result_slice t table ∷ [] }

unfoldable pub motif_step : List ℕ → List ℕ → Service
motif_step input positions =
    let finds = occurrences (motif_of input) (drive_of input) in
    record { checks = pattern_checks (motif_of input); success = done (length finds) 0; lent = result_slice finds positions ∷ [] }

-- what is printed once the table is built
unfoldable pub search_output : Order → List ℕ → List ℕ
search_output o input =
    printed (pattern_checks (motif_of input))
    (named rules_name (rule_count (table_of o (drive_of input) 0)) ++ found_lines (occurrences (motif_of input) (drive_of input)))

-- the table of the input's drive is built
pub record Built (input t : List ℕ) : Type 0 where
  pub short : length (drive_of input) ≤ 2047
  pub table : t ≡ table_of sample_order (drive_of input) 0
