-- `longest_at` tries lengths downwards. The invariant: no length above the one reached gives a Lyndon word, so those up to it decide.
use mathlib.Core.Path.{refl, sym, ◌∙◌}
use Prim.Native.Nat.{◌+◌, ◌-◌}
use native.Mathlib.Omega.{arith}
use lib.ListN.{length}
use Rattle.definitions.specs.Table.{rank_of}
use Rattle.definitions.specs.Services.{sample_order}
use Rattle.naive_words.proofs.Trying.{whole_rest, found, passed, none_left}
use Rattle.naive_words.proofs.longest_at.Goals as goal

pub loop-k-init : goal.loop-k-init
loop-k-init c = whole_rest (rank_of sample_order) c.args.text.now c.args.i (length c.args.text.now - c.args.i) refl

pub returns-then-is_lyndon : goal.returns-then-is_lyndon
returns-then-is_lyndon c =
    let a = c.args in
    sym (c.loop-k.invariant ∙ found (rank_of sample_order) a.text.now a.i c.loop-k.k (a.i + c.loop-k.k - a.i) (omega arith) (omega arith) (sym c.is_lyndon.ensures ∙ c.if-is_lyndon.true))

pub loop-k-preserved : goal.loop-k-preserved
loop-k-preserved c =
    let a = c.args in
    c.loop-k.invariant ∙ passed (rank_of sample_order) a.text.now a.i c.loop-k.k (a.i + c.loop-k.k - a.i) (omega arith) (omega arith) (sym c.is_lyndon.ensures ∙ c.if-is_lyndon.false)

pub returns : goal.returns
returns c =
    let a = c.args in
    sym (c.loop-k.invariant ∙ none_left (rank_of sample_order) a.text.now a.i c.loop-k.k (omega arith))
