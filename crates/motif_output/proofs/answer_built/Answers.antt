-- `answer_built` prints the refusal of the motif, or the lines of success.
use mathlib.Core.Path.{◌∙◌, ap, ap₂}
use mathlib.Core.List.{List, ◌++◌}
use Prim.Native.Nat.{ℕ}
use native.Mathlib.Omega.{arith}
use lib.ListN.{length}
use Rattle.definitions.specs.Words.{placed}
use Rattle.definitions.specs.Programs.{motif_of, drive_of, named, rules_name, found_lines}
use Rattle.definitions.specs.Table.{rule_count}
use Rattle.lyndon.specs.Occurrences.{occurrences_most}
use Rattle.motif_output.proofs.Printing.{motif_refused, motif_done}
use Rattle.motif_output.proofs.answer_built.Goals as goal

pub returns-in_default : goal.returns-in_default
returns-in_default c =
    let e = motif_refused c.args.input.now c.locate_motif-a.result _ c.locate_motif-a.new.positions c.locate_motif-a.ensures c.in_default.is in
    record {
      value = c.put_refusal.ensures.value ∙ ap length e;
      out_after = c.put_refusal.ensures.out_after ∙ ap (λ (x : List ℕ). placed x c.args.out.now) e;
    }

pub slice_bounds-rules_and_found-end : goal.slice_bounds-rules_and_found-end
slice_bounds-rules_and_found-end c =
    omega (arith, (motif_done c.args.input.now c.locate_motif-a.result _ c.locate_motif-a.new.positions c.locate_motif-a.ensures _ c.in-Ok.is).0)

pub rules_and_found-requires : goal.rules_and_found-requires
rules_and_found-requires c =
    let input = c.args.input.now in
    let (fits, finds, output) = motif_done input c.locate_motif-a.result _ c.locate_motif-a.new.positions c.locate_motif-a.ensures _ c.in-Ok.is in
    let most = occurrences_most (motif_of input) (drive_of input) in
    let short = c.requires.0.short in
    omega (arith, ap length finds, most)

pub returns : goal.returns
returns c =
    let (fits, finds, output) = motif_done c.args.input.now c.locate_motif-a.result _ c.locate_motif-a.new.positions c.locate_motif-a.ensures _ c.in-Ok.is in
    let e = ap₂ {C = List ℕ} (λ t p. named rules_name (rule_count t) ++ found_lines p) c.requires.0.table finds ∙ output in
    record {
      value = c.rules_and_found.ensures.value ∙ ap length e;
      out_after = c.rules_and_found.ensures.out_after ∙ ap (λ (x : List ℕ). placed x c.args.out.now) e;
    }
