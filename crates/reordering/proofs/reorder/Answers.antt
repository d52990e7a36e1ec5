-- `reorder` turns ranks where they stand. The invariant: those passed are turned, the others stand as before.
use mathlib.Core.Path.{◌≡◌, sym, ◌∙◌, ap}
use mathlib.Core.List.{List, map}
use Prim.Native.Nat.{ℕ, ◌<◌}
use native.Mathlib.Omega.{arith}
use lib.ListN.{length, take, get_or, set}
use Rattle.definitions.specs.declared.Order.{Order}
use Rattle.definitions.specs.Words.{placed}
use Rattle.definitions.specs.Table.{rank_of}
use Rattle.definitions.specs.Services.{sample_order}
use Rattle.lists.specs.Lists.{placed_none, mapped_more, mapped_rest}
use Rattle.reordering.proofs.Reordering.{turned, turned_ended}
use Rattle.reordering.proofs.reorder.Goals as goal

-- the next rank stands as before
here : (from : Order) (old w : List ℕ) (i : ℕ) → i < length old → w ≡ placed (map (turned from sample_order) (take i old)) old → get_or w i 0 ≡ get_or old i 0
here from old w i h e = ap (λ (l : List ℕ). get_or l i 0) e ∙ mapped_rest (turned from sample_order) old i h

pub loop-rank-init : goal.loop-rank-init
loop-rank-init c = sym (placed_none c.args.ranks.now)

pub byte_of-requires : goal.byte_of-requires
byte_of-requires c =
    let a = c.args in
    rw (here a.from a.ranks.now c.loop-rank.ranks c.loop-rank.rank-index (omega arith) c.loop-rank.invariant) (c.requires c.loop-rank.rank-index (omega arith))

pub loop-rank-preserved : goal.loop-rank-preserved
unfolding turned
loop-rank-preserved c =
    let a = c.args in
    let old = a.ranks.now in
    let i = c.loop-rank.rank-index in
    let x = c.rank_of.ensures ∙ ap (rank_of sample_order) c.byte_of.ensures ∙ ap (turned a.from sample_order) (here a.from old c.loop-rank.ranks i (omega arith) c.loop-rank.invariant) in
    ap (λ (r : ℕ). set c.loop-rank.ranks i r) x ∙ mapped_more (turned a.from sample_order) old old c.loop-rank.ranks i (omega arith) (omega arith) c.loop-rank.invariant

pub returns : goal.returns
returns c =
    let a = c.args in
    turned_ended a.from sample_order a.ranks.now c.loop-rank.ranks c.loop-rank.rank-index (omega arith) c.loop-rank.invariant
