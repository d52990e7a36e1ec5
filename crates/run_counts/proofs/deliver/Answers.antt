-- `deliver` writes the keys of all runs to a local array. What is delivered of them are the runs and counts of the census.
use mathlib.Core.Path.{◌≡◌, sym, ◌∙◌, ap}
use mathlib.Core.List.{List, map}
use Prim.Native.Nat.{ℕ, ◌-◌}
use native.Mathlib.Omega.{arith}
use lib.ListN.{length, take, replicate, length-map}
use Rattle.definitions.specs.Services.{sample_order}
use Rattle.definitions.specs.Census.{runs_of, joined}
use Rattle.lyndon.specs.Ranks.{Bytes, slice_bytes}
use Rattle.run_keys.specs.Keys.{key_of, run_with}
use Rattle.key_counts.specs.Keys.{count_of, distinct_keys}
use Rattle.run_counts.specs.Runs.{runs_number}
use Rattle.run_counts.specs.Census.{census_runs_lem, census_counts_lem}
use Rattle.run_counts.proofs.Listed.{listed_front, listed_fits, listed_served}
use Rattle.run_counts.proofs.deliver.Goals.{After-write_keys-n}
use Rattle.run_counts.proofs.deliver.Goals as goal

abbrev zeros : List ℕ
zeros = replicate 2047 0

-- the keys of all runs of the text
abbrev keys_in : After-write_keys-n → List ℕ
keys_in c = let a = c.args in map (key_of sample_order) (runs_of a.q a.text.now)

size : (c : After-write_keys-n) → c.write_keys-n.result ≡ length (keys_in c)
size c = let a = c.args in c.write_keys-n.ensures.value ∙ sym (length-map (runs_of a.q a.text.now) (key_of sample_order))

keys : (c : After-write_keys-n) → take (c.write_keys-n.result - 0) c.write_keys-n.new.keys ≡ keys_in c
keys c = listed_front (keys_in c) zeros c.write_keys-n.new.keys c.write_keys-n.result (size c) c.write_keys-n.ensures.keys_after

bytes : (c : After-write_keys-n) → Bytes c.args.text.now
bytes c =
    slice_bytes c.args.text.now (λ i h. omega (arith, c.shared_slice_known-1.given i))

pub slice_bounds-deliver_keys-end : goal.slice_bounds-deliver_keys-end
slice_bounds-deliver_keys-end c =
    listed_fits (keys_in (goal.at.slice_bounds-deliver_keys-end c).After-write_keys-n) zeros c.write_keys-n.new.keys c.write_keys-n.result (size (goal.at.slice_bounds-deliver_keys-end c).After-write_keys-n) c.write_keys-n.ensures.keys_after

pub deliver_keys-requires : goal.deliver_keys-requires
deliver_keys-requires c =
    (c.requires.1, omega (arith, ap length (keys (goal.at.deliver_keys-requires c).After-write_keys-n), length-map (runs_of c.args.q c.args.text.now) (key_of sample_order), runs_number sample_order c.args.q c.args.text.now (bytes (goal.at.deliver_keys-requires c).After-write_keys-n), c.requires.0, c.requires.2))

pub returns : goal.returns
returns c =
    let q = c.args.q in
    let text = c.args.text.now in
    let k = keys (goal.at.returns c).After-write_keys-n in
    listed_served
    (ap (λ (x : List ℕ). joined (map (run_with sample_order q) (distinct_keys x))) k ∙ ap joined (census_runs_lem sample_order q text (bytes (goal.at.returns c).After-write_keys-n)))
    (ap (λ (x : List ℕ). map (count_of x) (distinct_keys x)) k ∙ census_counts_lem sample_order q text (bytes (goal.at.returns c).After-write_keys-n) c.requires.0)
    c.deliver_keys.ensures
