-- `key_of` takes a sample a turn as the next digit. The invariant: the key so far is that of the samples passed.
use mathlib.Core.Path.{◌≡◌, refl, ◌∙◌, ap}
use Prim.Native.Nat.{ℕ, ◌+◌, ◌*◌, ◌-◌, ◌<◌}
use native.Mathlib.Omega.{arith}
use lib.ListN.{take, get_or}
use Rattle.definitions.specs.Table.{rank_of}
use Rattle.definitions.specs.Services.{sample_order}
use Rattle.run_keys.specs.Keys.{key_of}
use Rattle.run_keys.proofs.Writing.{key_none, key_step, key_all}
use Rattle.run_keys.proofs.key_of.Goals.{In-loop-sample}
use Rattle.run_keys.proofs.key_of.Goals as goal

pub loop-sample-init : goal.loop-sample-init
loop-sample-init c = key_none c.args.run.now

-- what a digit more makes of the key, for a rank r
abbrev Made : (c : In-loop-sample) → ℕ → Type 0
Made c r =
    let key = c.loop-sample.key in
    let run = c.args.run.now in
    (0 < r) × (r < 257) × (key * 256 + (r - 1) < 18446744073709551616) × (key * 256 + (r - 1) ≡ key_of sample_order (take (c.loop-sample.sample-index + 1) run))

made : (c : In-loop-sample) (r : ℕ) → r ≡ rank_of sample_order (get_or c.args.run.now c.loop-sample.sample-index 0) → Made c r
made c r e =
    key_step c.args.run.now (λ i h. omega (arith, c.type_inv.run i)) c.requires c.loop-sample.sample-index c.loop-sample.key r c.loop-sample-test.true e c.loop-sample.invariant

pub overflow_mul-key : goal.overflow_mul-key
overflow_mul-key c =
    let r = rank_of sample_order (get_or c.args.run.now c.loop-sample.sample-index 0) in
    omega (arith, (made (goal.at.overflow_mul-key c).In-loop-sample r refl).2)

pub returns : goal.returns
returns c = key_all c.args.run.now c.loop-sample.sample-index c.loop-sample.key (omega arith) c.loop-sample.invariant

pub overflow_sub-rank_of : goal.overflow_sub-rank_of
overflow_sub-rank_of c = omega (arith, (made (goal.at.overflow_sub-rank_of c).In-loop-sample c.rank_of.result c.rank_of.ensures).0)

pub overflow_add-key : goal.overflow_add-key
overflow_add-key c = omega (arith, (made (goal.at.overflow_add-key c).In-loop-sample c.rank_of.result c.rank_of.ensures).2, c.from.ensures)

pub loop-sample-preserved : goal.loop-sample-preserved
loop-sample-preserved c =
    ap (λ (d : ℕ). c.loop-sample.key * 256 + d) c.from.ensures ∙ (made (goal.at.loop-sample-preserved c).In-loop-sample c.rank_of.result c.rank_of.ensures).3
