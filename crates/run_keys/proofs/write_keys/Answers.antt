-- `write_keys` stores the key of the run at each position. The invariant: the keys of the positions passed stand at the front of the slice.
use mathlib.Core.Path.{◌≡◌, ◌∙◌, ap}
use Prim.Native.Nat.{ℕ, ◌+◌, ◌-◌}
use native.Mathlib.Omega.{arith}
use lib.ListN.{take, drop, length-take, length-drop}
use Rattle.definitions.specs.Services.{sample_order}
use Rattle.run_keys.specs.Keys.{key_of}
use Rattle.run_keys.proofs.Writing.{keys_none, keys_more, keys_all}
use Rattle.run_keys.proofs.write_keys.Goals as goal

pub loop-i-init : goal.loop-i-init
loop-i-init c = keys_none c.args.q c.args.text.now c.args.keys.now

pub key_of-requires : goal.key_of-requires
key_of-requires c = simp (length-take, length-drop) (omega arith)

pub loop-i-preserved : goal.loop-i-preserved
loop-i-preserved c =
    let a = c.args in
    let i = c.loop-i.i in
    let size : i + a.q - i ≡ a.q = omega arith in
    keys_more a.q a.text.now a.keys.now c.loop-i.keys i c.key_of.result (omega arith) (c.key_of.ensures ∙ ap (λ (n : ℕ). key_of sample_order (take n (drop i a.text.now))) size) c.loop-i.invariant

pub returns : goal.returns
returns c =
    let a = c.args in
    let (first, second) = keys_all a.q a.text.now a.keys.now c.loop-i.keys c.loop-i.i (omega arith) c.loop-i.invariant in
    let count : c.saturating_sub-count.result ≡ c.loop-i.i = omega arith in
    record { value = count ∙ first; keys_after = second }
