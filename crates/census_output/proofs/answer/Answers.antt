-- `answer` prints the refusal of the drive, or what the census prints.
use mathlib.Core.Path.{◌∙◌, ap}
use mathlib.Core.List.{List}
use Prim.Native.Nat.{ℕ}
use native.Mathlib.Omega.{arith}
use lib.ListN.{length}
use Rattle.definitions.specs.Words.{placed}
use Rattle.census_output.proofs.Printing.{drive_refused, drive_done}
use Rattle.census_output.proofs.answer.Goals as goal

pub returns-in_default : goal.returns-in_default
returns-in_default c =
    let e = drive_refused c.args.input.now _ c.build_drive-built.new.table c.build_drive-built.result c.build_drive-built.ensures c.in_default.is in
    record {
      value = c.put_refusal.ensures.value ∙ ap length e;
      out_after = c.put_refusal.ensures.out_after ∙ ap (λ (x : List ℕ). placed x c.args.out.now) e;
    }

pub slice_bounds-answer_built-end : goal.slice_bounds-answer_built-end
slice_bounds-answer_built-end c =
    omega (arith, (drive_done c.args.input.now _ c.build_drive-built.new.table c.build_drive-built.result c.build_drive-built.ensures c.in-Ok.is).0)

pub answer_built-requires : goal.answer_built-requires
answer_built-requires c =
    ((drive_done c.args.input.now _ c.build_drive-built.new.table c.build_drive-built.result c.build_drive-built.ensures c.in-Ok.is).1, c.requires)

pub returns : goal.returns
returns c =
    let e = (drive_done c.args.input.now _ c.build_drive-built.new.table c.build_drive-built.result c.build_drive-built.ensures c.in-Ok.is).2 in
    record {
      value = c.answer_built.ensures.value ∙ ap length e;
      out_after = c.answer_built.ensures.out_after ∙ ap (λ (x : List ℕ). placed x c.args.out.now) e;
    }
