-- `array_loaded` copies the array from where it was placed, if the result slice is long enough, and else refuses.
use mathlib.Core.Path.{◌≡◌, ◌∙◌, ap}
use mathlib.Core.List.{List, map}
use Prim.Native.Nat.{ℕ, ◌+◌, ◌-◌}
use native.Mathlib.Omega.{arith}
use lib.ListN.{take, drop, length-take, length-drop}
use Rattle.definitions.specs.Words.{placed, lyndon_array}
use Rattle.definitions.specs.Table.{rank_of}
use Rattle.lists.specs.Parts.{part, part_taken}
use Rattle.layout.specs.Layout.{LONGEST}
use Rattle.results.proofs.Writing.{list_refused, list_fits, list_written}
use Rattle.longest.proofs.Placing.{few, size}
use Rattle.longest.proofs.array_loaded.Goals as goal

-- what is copied is the array that stands there
copied : (n : ℕ) (v a : List ℕ) → part (LONGEST + 1) n v ≡ a → take (LONGEST + 1 + n - (LONGEST + 1)) (drop (LONGEST + 1) v) ≡ a
copied n v a e =
    let q : LONGEST + 1 + n - (LONGEST + 1) ≡ n = omega arith in
    part_taken (LONGEST + 1) (LONGEST + 1 + n - (LONGEST + 1)) n v q ∙ e

pub returns-in_default : goal.returns-in_default
returns-in_default c o h =
    let n = c.text_length-n.result in
    list_refused (lyndon_array (map (rank_of o) h.text)) c.args.res.now n (size h n (c.text_length-n.ensures o h)) c.result_fits-a.result c.result_fits-a.ensures c.in_default.is

pub place_array-requires : goal.place_array-requires
place_array-requires c =
    (c.requires.0, c.args.rules, c.requires.1, c.text_length-n.ensures c.requires.0 c.requires.1)

pub overflow_add-end : goal.overflow_add-end
overflow_add-end c =
    omega (arith, few c.requires.1 c.text_length-n.result (c.text_length-n.ensures c.requires.0 c.requires.1))

pub slice_bounds-copy-end : goal.slice_bounds-copy-end
slice_bounds-copy-end c =
    omega (arith, few c.requires.1 c.text_length-n.result (c.text_length-n.ensures c.requires.0 c.requires.1))

pub copy-requires : goal.copy-requires
copy-requires c =
    let (o, h) = c.requires in
    let n = c.text_length-n.result in
    let q = c.text_length-n.ensures o h in
    let a = lyndon_array (map (rank_of o) h.text) in
    simp (length-take, length-drop) (omega (arith, size h n q, list_fits a c.args.res.now n (size h n q) c.result_fits-a.result c.result_fits-a.ensures c.in-Ok.is))

pub returns : goal.returns
returns c o h =
    let n = c.text_length-n.result in
    let q = c.text_length-n.ensures o h in
    let a = lyndon_array (map (rank_of o) h.text) in
    let old = c.args.res.now in
    list_written a old n (size h n q) c.result_fits-a.result c.result_fits-a.ensures c.copy.new.to c.in-Ok.is
    (c.copy.ensures ∙ ap (λ (l : List ℕ). placed l old) (copied n c.place_array.new.work a (c.place_array.ensures o c.args.rules h q)))
