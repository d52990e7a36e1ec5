-- `answer_built` prints the refusal of the window, or the report of the census.
use mathlib.Core.Path.{◌∙◌, ap}
use mathlib.Core.List.{List}
use Prim.Native.Nat.{ℕ}
use native.Mathlib.Omega.{arith}
use native.Mathlib.Nat.{mul-le-mul_right}
use lib.ListN.{length}
use Rattle.definitions.specs.Words.{placed}
use Rattle.census_output.proofs.Stepping.{drive_bytes}
use Rattle.census_output.proofs.Printing.{Listed, census_refused, census_done}
use Rattle.census_output.proofs.answer_built.Goals.{After-window-q}
use Rattle.census_output.proofs.answer_built.Goals as goal

pub returns-in_default : goal.returns-in_default
returns-in_default c =
    let e = census_refused c.args.input.now _ _ c.count_runs-a.new.runs c.count_runs-a.new.counts c.count_runs-a.result c.count_runs-a.ensures c.in_default.is in
    record {
      value = c.put_refusal.ensures.value ∙ ap length e;
      out_after = c.put_refusal.ensures.out_after ∙ ap (λ (x : List ℕ). placed x c.args.out.now) e;
    }

-- what the census left, and is taken of it
listed : (w : After-window-q) → Listed w.args.input.now w.count_runs-a.new.runs w.count_runs-a.new.counts w.window-q.result w.in-Ok.n
listed w =
    let input = w.args.input.now in
    census_done input _ _ w.count_runs-a.new.runs w.count_runs-a.new.counts w.count_runs-a.result w.count_runs-a.ensures w.in-Ok.is (drive_bytes input (λ i h. omega (arith, w.shared_slice_known-1.given i))) w.requires.0.short w.window-q.result w.window-q.ensures

pub overflow_mul-end : goal.overflow_mul-end
overflow_mul-end c = let t = listed (goal.at.overflow_mul-end c).After-window-q in omega (arith, t.small.1, mul-le-mul_right c.in-Ok.n t.small.0)

pub slice_bounds-put_report-end : goal.slice_bounds-put_report-end
slice_bounds-put_report-end c = (listed (goal.at.slice_bounds-put_report-end c).After-window-q).runs_fit

pub slice_bounds-put_report-end-2 : goal.slice_bounds-put_report-end-2
slice_bounds-put_report-end-2 c = (listed (goal.at.slice_bounds-put_report-end-2 c).After-window-q).counts_fit

pub put_report-requires : goal.put_report-requires
put_report-requires c =
    ((listed (goal.at.put_report-requires c).After-window-q).tallied, omega (arith, (listed (goal.at.put_report-requires c).After-window-q).out_fits, c.requires.1))

pub returns : goal.returns
returns c =
    let e = (listed (goal.at.returns c).After-window-q).output in
    record {
      value = c.put_report.ensures.value ∙ ap length e;
      out_after = c.put_report.ensures.out_after ∙ ap (λ (x : List ℕ). placed x c.args.out.now) e;
    }
