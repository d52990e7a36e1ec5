-- `is_live` holds the tail beside the tail of cut after cut.
use mathlib.Core.Path.{refl, sym, ◌∙◌, ap}
use mathlib.Core.Bool.{Bool, ◌&&◌}
use Prim.Native.Nat.{◌-◌}
use lib.ListN.{length}
use borrow.Author.Tests.{tests, lt-ltb, le-ltb}
use Rattle.std.proofs.Common.{rules}
use Rattle.std.proofs.lemmas.Iterator.{YieldsList-from_range}
use Rattle.std.proofs.lemmas.Iterator.Search.{all_from_yields_List}
use Rattle.std.specs.List.{list_all, range_with_len}
use Rattle.definitions.specs.Table.{rank_of}
use Rattle.definitions.specs.Services.{sample_order}
use Rattle.naive_cuts.proofs.Cutting.{tail_passes, live_is}
use Rattle.naive_cuts.proofs.is_live.Goals as goal

pub returns-then-c-gt0 : goal.returns-then-c-gt0
returns-then-c-gt0 c =
    let a = c.args in
    let p = a.pattern.now in
    all_from_yields_List (tail_passes (rank_of sample_order) p a.c) _ _ _ c.all.ensures.ran (YieldsList-from_range 1 (length p) (length p - 1) refl refl) (λ k b q r. search (rules, tests))
    ∙ ap (λ (b : Bool). b && list_all (tail_passes (rank_of sample_order) p a.c) (range_with_len 1 (length p - 1))) (sym (lt-ltb 0 a.c c.if-c-gt0.true))
    ∙ live_is (rank_of sample_order) p a.c

pub returns-else-c-gt0 : goal.returns-else-c-gt0
returns-else-c-gt0 c =
    let a = c.args in
    let p = a.pattern.now in
    let e = le-ltb 0 a.c c.if-c-gt0.false in
    e ∙ sym (ap (λ (b : Bool). b && list_all (tail_passes (rank_of sample_order) p a.c) (range_with_len 1 (length p - 1))) e) ∙ live_is (rank_of sample_order) p a.c
