-- `is_lyndon` compares the word with suffix after suffix.
use mathlib.Core.Path.{refl, sym, ◌∙◌, ap}
use mathlib.Core.Bool.{Bool, ◌&&◌}
use Prim.Native.Nat.{◌-◌, ◌≤◌, ◌<◌}
use lib.ListN.{length}
use borrow.Author.Tests.{tests, lt-ltb, le-ltb}
use Rattle.std.proofs.Common.{rules}
use Rattle.std.proofs.lemmas.Iterator.{YieldsList-from_range}
use Rattle.std.proofs.lemmas.Iterator.Search.{all_from_yields_List}
use Rattle.std.specs.List.{list_all, range_with_len}
use Rattle.definitions.specs.Table.{rank_of}
use Rattle.definitions.specs.Services.{sample_order}
use Rattle.naive_words.proofs.Trying.{smaller_suffix, lyndon_is}
use Rattle.naive_words.proofs.is_lyndon.Goals as goal

pub returns-then-not-is_empty : goal.returns-then-not-is_empty
returns-then-not-is_empty c =
    let w = c.args.word.now in
    let h : 0 < length w = search (rules, tests) in
    all_from_yields_List (smaller_suffix (rank_of sample_order) w) _ _ _ c.all.ensures.ran (YieldsList-from_range 1 (length w) (length w - 1) refl refl) (λ k b q r. search (rules, tests))
    ∙ ap (λ (b : Bool). b && list_all (smaller_suffix (rank_of sample_order) w) (range_with_len 1 (length w - 1))) (sym (lt-ltb 0 (length w) h))
    ∙ lyndon_is (rank_of sample_order) w

pub returns-else-not-is_empty : goal.returns-else-not-is_empty
returns-else-not-is_empty c =
    let w = c.args.word.now in
    let h : length w ≤ 0 = search (rules, tests) in
    rw c.if-not-is_empty.false
    (ap (λ (b : Bool). b && list_all (smaller_suffix (rank_of sample_order) w) (range_with_len 1 (length w - 1))) (sym (le-ltb 0 (length w) h)) ∙ lyndon_is (rank_of sample_order) w)
