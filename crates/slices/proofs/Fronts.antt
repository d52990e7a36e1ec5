-- The front of a slice as a loop writes it, one entry more a turn.
use mathlib.Core.Path.{◌≡◌, sym, ◌∙◌, ap}
use mathlib.Core.List.{List}
use Prim.Native.Nat.{ℕ, ◌+◌, ◌≤◌, ◌<◌}
use native.Mathlib.Omega.{arith}
use native.Mathlib.Numerals.{add-one}
use lib.ListN.{length, take, get_or, set}
use lib.Seq.{take-length, take-suc, length-take-le}
use Rattle.definitions.specs.Words.{placed}
use Rattle.lists.specs.Lists.{placed_more}

pub copied_more : {A : Type 0} (from old s : List A) (d : A) (i : ℕ) → i < length from → length from ≤ length old → s ≡ placed (take i from) old
    → set s i (get_or from i d) ≡ placed (take (i + 1) from) old
copied_more {A} from old s d i h k e =
    let size = length-take-le i from (omega arith) in
    ap (λ (l : List A). set l i (get_or from i d)) e
    ∙ ap (λ (n : ℕ). set (placed (take i from) old) n (get_or from i d)) (sym size)
    ∙ sym (placed_more (take i from) old (get_or from i d) (omega arith))
    ∙ ap (λ (l : List A). placed l old) (sym (take-suc from i d h) ∙ ap (λ (n : ℕ). take n from) (sym (add-one i)))

pub taken_more : (from old s : List ℕ) (i : ℕ) → i < length from → length from ≤ length old → s ≡ placed (take i from) old
    → set s i (get_or from i 0) ≡ placed (take (i + 1) from) old
taken_more from old s i = copied_more from old s 0 i

pub taken_all : {A : Type 0} (from old s : List A) (i : ℕ) → i ≡ length from → s ≡ placed (take i from) old → s ≡ placed from old
taken_all {A} from old s i h e = e ∙ ap (λ (l : List A). placed l old) (ap (λ (n : ℕ). take n from) h ∙ take-length from)
