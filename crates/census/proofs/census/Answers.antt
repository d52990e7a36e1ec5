-- `census` judges q, reads the drive by its single samples, by which the table is judged, and delivers the runs and counts of what it read.
use mathlib.Core.Path.{◌≡◌, ◌∙◌, ap}
use mathlib.Core.Bool.{false}
use Prim.Native.Nat.{ℕ, ◌-◌, ◌≤◌, ◌<◌}
use native.Mathlib.Omega.{arith}
use lib.ListN.{length, take}
use Rattle.definitions.specs.Table.{text_of}
use Rattle.definitions.specs.Services.{sample_order, cleared, table_checks, odd_window}
use Rattle.lists.specs.Decisions.{Passed}
use Rattle.census.specs.Samples.{tried_done}
use Rattle.census.specs.Accepted.{accepted}
use Rattle.census.proofs.Answering.{window_fits, window_refused, table_refused, census_served}
use Rattle.census.proofs.census.Goals.{In-Ok, In-Ok-b}
use Rattle.census.proofs.census.Goals as goal

pub returns-in_default : goal.returns-in_default
returns-in_default c =
    let a = c.args in
    window_refused a.q c.window_fits-a.ensures sample_order a.table.now a.work.now a.runs.now a.counts.now c.in_default.is

-- q is accepted
fit : (c : In-Ok) → let q = c.args.q in ((odd_window q).met ≡ false) × (0 < q) × (q ≤ 8)
fit c = window_fits c.args.q c.window_fits-a.ensures c.in-Ok.is

pub returns-in_default-b : goal.returns-in_default-b
returns-in_default-b c =
    let a = c.args in
    table_refused sample_order a.table.now a.work.now a.runs.now a.counts.now a.q (fit (goal.at.returns-in_default-b c).In-Ok).0 c.read_samples-b.ensures c.in_default-b.is

-- the drive is read
read : (c : In-Ok-b)
    → let a = c.args in
    let text = text_of sample_order a.table.now in
    Passed (table_checks sample_order a.table.now (length a.work.now)) × (c.in-Ok-b.n ≡ length text) × (c.read_samples-b.new.work ≡ cleared a.work.now) × (take (length text) c.read_samples-b.new.drive ≡ text)
read c = tried_done c.read_samples-b.ensures c.in-Ok-b.is

-- what is handed on is the drive
handed : (c : In-Ok-b)
    → let a = c.args in
    take (c.in-Ok-b.n - 0) c.read_samples-b.new.drive ≡ text_of sample_order a.table.now
handed c =
    let a = c.args in
    let size : c.in-Ok-b.n - 0 ≡ length (text_of sample_order a.table.now) = omega (arith, (read c).1) in
    ap (λ (n : ℕ). take n c.read_samples-b.new.drive) size ∙ (read c).3

-- and it has at most 2,047 samples
short : (c : In-Ok-b) → c.in-Ok-b.n ≤ 2047
short c =
    let a = c.args in
    omega (arith, (read c).1, (accepted sample_order a.table.now (length a.work.now) (read c).0).0)

pub slice_bounds-deliver-end : goal.slice_bounds-deliver-end
slice_bounds-deliver-end c =
    omega (arith, short (goal.at.slice_bounds-deliver-end c).In-Ok-b, c.read_samples-b.auto.drive)

pub deliver-requires : goal.deliver-requires
deliver-requires c =
    let f = fit (goal.at.deliver-requires c).In-Ok in
    (f.1, f.2, omega (arith, ap length (handed (goal.at.deliver-requires c).In-Ok-b), short (goal.at.deliver-requires c).In-Ok-b, (read (goal.at.deliver-requires c).In-Ok-b).1))

pub returns : goal.returns
returns c =
    let a = c.args in
    census_served sample_order a.table.now a.work.now a.runs.now a.counts.now a.q (fit (goal.at.returns c).In-Ok).0 (read (goal.at.returns c).In-Ok-b).0 (read (goal.at.returns c).In-Ok-b).2 (handed (goal.at.returns c).In-Ok-b) c.deliver.ensures
