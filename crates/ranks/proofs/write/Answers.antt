-- `write` places the ranks of samples at the front of a slice. The invariant: those of the samples passed stand there.
use mathlib.Core.Path.{sym, ◌∙◌, ap}
use Prim.Native.Nat.{ℕ}
use native.Mathlib.Omega.{arith}
use lib.ListN.{set}
use Rattle.definitions.specs.Table.{rank_of}
use Rattle.lists.specs.Lists.{placed_none, mapped_more, mapped_all}
use Rattle.ranks.proofs.write.Goals as goal

pub loop-i-init : goal.loop-i-init
loop-i-init c = sym (placed_none c.args.ranks.now)

pub loop-i-preserved : goal.loop-i-preserved
loop-i-preserved c =
    let a = c.args in
    ap (λ (r : ℕ). set c.loop-i.ranks c.loop-i.i r) c.rank_of.ensures
    ∙ mapped_more (rank_of a.order) a.samples.now a.ranks.now c.loop-i.ranks c.loop-i.i (omega arith) (omega arith) c.loop-i.invariant

pub returns : goal.returns
returns c =
    let a = c.args in
    mapped_all (rank_of a.order) a.samples.now a.ranks.now c.loop-i.ranks c.loop-i.i (omega arith) c.loop-i.invariant
