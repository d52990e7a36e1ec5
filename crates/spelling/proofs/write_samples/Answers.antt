-- `write_samples` places the bytes of ranks at the front of a slice. The invariant: those of the ranks passed stand there.
use Rattle.std.proofs.Common.{ℕ, ◌∙◌, sym, ap, set, arith}
use Rattle.definitions.specs.Table.{byte_of}
use Rattle.definitions.specs.Services.{sample_order}
use Rattle.lists.specs.Lists.{placed_none, mapped_more}
use Rattle.spelling.proofs.write_samples.Goals as goal

pub loop-i-init : goal.loop-i-init
loop-i-init c = sym (placed_none c.args.res.now)

pub loop-i-preserved : goal.loop-i-preserved
loop-i-preserved c =
    let a = c.args in
    ap (λ (b : ℕ). set c.loop-i.res c.loop-i.i b) c.byte_of.ensures
    ∙ mapped_more (byte_of sample_order) a.ranks.now a.res.now c.loop-i.res c.loop-i.i (omega arith) (omega arith) c.loop-i.invariant
