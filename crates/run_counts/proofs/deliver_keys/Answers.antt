-- `deliver_keys` lists the distinct keys and their counts in local arrays, which are then delivered.
use mathlib.Core.Path.{◌≡◌, sym, ◌∙◌, ap}
use mathlib.Core.List.{List, map}
use Prim.Native.Nat.{ℕ, ◌-◌}
use native.Mathlib.Omega.{arith}
use lib.ListN.{length, take, replicate, length-map}
use Rattle.definitions.specs.Services.{sample_order}
use Rattle.definitions.specs.Census.{joined}
use Rattle.run_keys.specs.Keys.{run_with}
use Rattle.key_counts.specs.Keys.{count_of, distinct_keys, distinct_length}
use Rattle.run_counts.proofs.Listed.{listed_front, listed_fits, listed_served}
use Rattle.run_counts.proofs.deliver_keys.Goals.{After-list_keys-n}
use Rattle.run_counts.proofs.deliver_keys.Goals as goal

abbrev zeros : List ℕ
zeros = replicate 2047 0

-- the distinct keys of those handed over, and their counts
abbrev keys_in : After-list_keys-n → List ℕ
keys_in c = distinct_keys c.args.keys.now

abbrev counts_in : After-list_keys-n → List ℕ
counts_in c = map (count_of c.args.keys.now) (keys_in c)

size : (c : After-list_keys-n) → c.list_keys-n.result ≡ length (counts_in c)
size c = let a = c.args in c.list_keys-n.ensures.value ∙ sym (length-map (keys_in c) (count_of a.keys.now))

keys : (c : After-list_keys-n) → take (c.list_keys-n.result - 0) c.list_keys-n.new.listed ≡ keys_in c
keys c = listed_front (keys_in c) zeros c.list_keys-n.new.listed c.list_keys-n.result c.list_keys-n.ensures.value c.list_keys-n.ensures.listed_after

numbers : (c : After-list_keys-n) → take (c.list_keys-n.result - 0) c.list_keys-n.new.counts ≡ counts_in c
numbers c = listed_front (counts_in c) zeros c.list_keys-n.new.counts c.list_keys-n.result (size c) c.list_keys-n.ensures.counts_after

pub slice_bounds-deliver_listed-end : goal.slice_bounds-deliver_listed-end
slice_bounds-deliver_listed-end c =
    listed_fits (keys_in (goal.at.slice_bounds-deliver_listed-end c).After-list_keys-n) zeros c.list_keys-n.new.listed c.list_keys-n.result c.list_keys-n.ensures.value c.list_keys-n.ensures.listed_after

pub slice_bounds-deliver_listed-end-2 : goal.slice_bounds-deliver_listed-end-2
slice_bounds-deliver_listed-end-2 c =
    listed_fits (counts_in (goal.at.slice_bounds-deliver_listed-end-2 c).After-list_keys-n) zeros c.list_keys-n.new.counts c.list_keys-n.result (size (goal.at.slice_bounds-deliver_listed-end-2 c).After-list_keys-n) c.list_keys-n.ensures.counts_after

pub deliver_listed-requires : goal.deliver_listed-requires
deliver_listed-requires c =
    let few = distinct_length c.args.keys.now in
    (c.requires.0, omega (arith, ap length (keys (goal.at.deliver_listed-requires c).After-list_keys-n), c.requires.1), omega (arith, ap length (keys (goal.at.deliver_listed-requires c).After-list_keys-n), ap length (numbers (goal.at.deliver_listed-requires c).After-list_keys-n), length-map (keys_in (goal.at.deliver_listed-requires c).After-list_keys-n) (count_of c.args.keys.now)))

pub returns : goal.returns
returns c =
    let a = c.args in
    listed_served (ap (λ (k : List ℕ). joined (map (run_with sample_order a.q) k)) (keys (goal.at.returns c).After-list_keys-n)) (numbers (goal.at.returns c).After-list_keys-n) c.deliver_listed.ensures
