-- `deliver_listed` judges both slices before it writes either.
use mathlib.Core.Path.{◌≡◌, sym}
use mathlib.Core.List.{List, map}
use Prim.Native.Nat.{ℕ, ◌*◌, ◌≤◌}
use native.Mathlib.Omega.{arith}
use native.Mathlib.Nat.{mul-le-mul}
use lib.ListN.{length}
use Rattle.std.specs.declared.result.Result.TheVariants.{Ok}
use Rattle.definitions.specs.Services.{sample_order}
use Rattle.definitions.specs.Census.{joined}
use Rattle.results.proofs.Writing.{both_refused, both_fits, both_written}
use Rattle.run_keys.specs.Keys.{run_with}
use Rattle.run_keys.proofs.Writing.{runs_length}
use Rattle.run_counts.proofs.deliver_listed.Goals.{After-both_fit-a}
use Rattle.run_counts.proofs.deliver_listed.Goals as goal

pub overflow_mul-q : goal.overflow_mul-q
overflow_mul-q c =
    omega (arith, mul-le-mul c.requires.0 c.requires.1)

-- what is written to the first slice
abbrev wanted : After-both_fit-a → List ℕ
wanted c = let a = c.args in joined (map (run_with sample_order a.q) a.listed.now)

size : (c : After-both_fit-a) → let a = c.args in a.q * length a.listed.now ≡ length (wanted c)
size c = let a = c.args in sym (runs_length a.q a.listed.now)

pub returns-in_default : goal.returns-in_default
returns-in_default c =
    let a = c.args in
    both_refused (wanted (goal.at.returns-in_default c).After-both_fit-a) a.numbers.now a.runs.now a.counts.now (a.q * length a.listed.now) (length a.listed.now) (size (goal.at.returns-in_default c).After-both_fit-a) (sym c.requires.2) c.both_fit-a.result c.both_fit-a.ensures c.in_default.is

-- both fit
room : (c : After-both_fit-a) {k : ℕ} → c.both_fit-a.result ≡ Ok k → let a = c.args in (length (wanted c) ≤ length a.runs.now) × (length a.numbers.now ≤ length a.counts.now)
room c e =
    let a = c.args in
    both_fits (wanted c) a.numbers.now a.runs.now a.counts.now (a.q * length a.listed.now) (length a.listed.now) (size c) (sym c.requires.2) c.both_fit-a.result c.both_fit-a.ensures e

pub write_runs-requires : goal.write_runs-requires
write_runs-requires c =
    (c.requires.0, c.requires.1, omega (arith, (room (goal.at.write_runs-requires c).After-both_fit-a c.in-Ok.is).0, size (goal.at.write_runs-requires c).After-both_fit-a))

pub copy-requires : goal.copy-requires
copy-requires c = (room (goal.at.copy-requires c).After-both_fit-a c.in-Ok.is).1

pub returns : goal.returns
returns c =
    let a = c.args in
    both_written (wanted (goal.at.returns c).After-both_fit-a) a.numbers.now a.runs.now a.counts.now (a.q * length a.listed.now) (length a.listed.now) (size (goal.at.returns c).After-both_fit-a) (sym c.requires.2) c.both_fit-a.result c.both_fit-a.ensures
    c.write_runs.new.runs c.copy.new.to c.in-Ok.is c.write_runs.ensures c.copy.ensures
