-- `put_at` writes the sample at a place a turn. The invariant: it is written at the places passed.
use mathlib.Core.Path.{◌≡◌, sym, ◌∙◌, ap}
use mathlib.Core.List.{List}
use Prim.Native.Nat.{ℕ, ◌+◌, ◌≤◌}
use native.Mathlib.Omega.{arith}
use native.Mathlib.Numerals.{add-one}
use lib.ListN.{length, take, get_or, set}
use lib.Seq.{take-suc, take-length}
use Rattle.lists.specs.Members.{at_in}
use Rattle.census.specs.Samples.{put_all, put_none, put_more}
use Rattle.census.proofs.put_at.Goals as goal

pub loop-place-init : goal.loop-place-init
loop-place-init c = put_none c.args.sample c.args.drive.now

more : (places : List ℕ) (b : ℕ) (old w : List ℕ) (i : ℕ) → i ≤ length places → (l : 1 + i ≤ length places) → w ≡ put_all (take i places) b old → set w (get_or places i 0) b ≡ put_all (take (i + 1) places) b old
more places b old w i h l e =
    ap (λ (x : List ℕ). set x (get_or places i 0) b) e
    ∙ sym (put_more (take i places) b old (get_or places i 0))
    ∙ ap (λ (x : List ℕ). put_all x b old) (sym (take-suc places i 0 (omega arith)) ∙ ap (λ (n : ℕ). take n places) (sym (add-one i)))

pub loop-place-preserved : goal.loop-place-preserved
loop-place-preserved c =
    let a = c.args in
    more a.places.now a.sample a.drive.now c.loop-place.drive c.loop-place.place-index (omega arith) (omega arith) c.loop-place.invariant

pub returns : goal.returns
returns c =
    let a = c.args in
    let all : c.loop-place.place-index ≡ length a.places.now = omega arith in
    c.loop-place.invariant ∙ ap (λ (x : List ℕ). put_all x a.sample a.drive.now) (ap (λ (n : ℕ). take n a.places.now) all ∙ take-length a.places.now)

pub bounds-drive-place : goal.bounds-drive-place
bounds-drive-place c =
    omega (arith, c.requires (get_or c.args.places.now c.loop-place.place-index 0) (at_in c.args.places.now c.loop-place.place-index (omega arith)))
