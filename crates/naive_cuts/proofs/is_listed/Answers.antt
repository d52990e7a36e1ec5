-- `is_listed` tries the stretches that end at a live cut.
use mathlib.Core.Path.{refl, sym, ◌∙◌, ap}
use mathlib.Core.Bool.{Bool, ◌&&◌}
use mathlib.Core.List.{map}
use Prim.Native.Nat.{◌-◌}
use borrow.Author.Tests.{tests}
use Rattle.std.proofs.Common.{rules}
use Rattle.std.proofs.lemmas.Iterator.{YieldsList-from_range}
use Rattle.std.proofs.lemmas.Iterator.Search.{all_from_yields_List}
use Rattle.std.specs.List.{list_all, range_with_len}
use Rattle.definitions.specs.Table.{rank_of}
use Rattle.definitions.specs.Services.{sample_order}
use Rattle.naive_cuts.proofs.Cutting.{none_again, listed_is}
use Rattle.naive_cuts.proofs.is_listed.Goals as goal

pub returns-then-is_live : goal.returns-then-is_live
returns-then-is_live c =
    let p = map (rank_of sample_order) c.args.pattern.now in
    all_from_yields_List (none_again p c.args.c) _ _ _ c.all.ensures.ran (YieldsList-from_range 1 c.args.c (c.args.c - 1) refl refl) (λ k b q r. search (rules, tests))
    ∙ ap (λ (b : Bool). b && list_all (none_again p c.args.c) (range_with_len 1 (c.args.c - 1))) (sym c.if-is_live.true ∙ c.is_live.ensures)
    ∙ listed_is p c.args.c

pub returns-else-is_live : goal.returns-else-is_live
returns-else-is_live c =
    let p = map (rank_of sample_order) c.args.pattern.now in
    c.if-is_live.false
    ∙ sym (ap (λ (b : Bool). b && list_all (none_again p c.args.c) (range_with_len 1 (c.args.c - 1))) (sym c.is_live.ensures ∙ c.if-is_live.false))
    ∙ listed_is p c.args.c
