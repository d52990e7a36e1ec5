-- The two steps of the program `census_report`, as services: building the drive's table, and the census of it. What either refuses is printed.
use Rattle.std.specs.Prelude.{◌≡◌, List, [], ◌∷◌, ◌++◌, ℕ, ◌≤◌, length}
use Rattle.definitions.specs.declared.Order.{Order}
use Rattle.definitions.specs.Table.{table_of}
use Rattle.definitions.specs.Census.{census_runs, census_counts, joined, total}
use Rattle.definitions.specs.Services.{Service, done, result_slice, text_too_long, odd_window, sample_order}
use Rattle.definitions.specs.Programs.{decimal, line, printed, window_of, census_drive, census_lines}

unfoldable pub drive_step : Order → List ℕ → List ℕ → Service
drive_step o input table =
    let t = table_of o (census_drive input) 0 in
    record { checks = text_too_long (census_drive input) ∷ []; success = done (length t) 0; lent = result_slice t table ∷ [] }

unfoldable pub window_step : Order → List ℕ → List ℕ → List ℕ → Service
window_step o input runs counts =
    let listed = census_runs o (window_of input) (census_drive input) in
    let often = census_counts o (window_of input) (census_drive input) in
    record { checks = odd_window (window_of input) ∷ []; success = done (length often) 0; lent = result_slice (joined listed) runs ∷ result_slice often counts ∷ [] }

-- what is printed once the table is built
unfoldable pub window_output : Order → List ℕ → List ℕ
window_output o input =
    let q = window_of input in
    let drive = census_drive input in
    printed (odd_window q ∷ []) (census_lines drive (census_runs o q drive) ++ line (decimal (total (census_counts o q drive))))

-- the table of the input's drive is built
pub record Built (input t : List ℕ) : Type 0 where
  pub short : length (census_drive input) ≤ 2047
  pub table : t ≡ table_of sample_order (census_drive input) 0
