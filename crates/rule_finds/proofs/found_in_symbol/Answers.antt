-- `found_in_symbol` compares the one sample of a pattern with the rank that stands where the rule does.
use mathlib.Core.Path.{◌≡◌, refl, sym, ◌∙◌, ap}
use mathlib.Core.Bool.{true, false}
use mathlib.Core.List.{List}
use Prim.Native.Nat.{ℕ}
use native.Mathlib.Omega.{arith}
use lib.ListN.{get_or}
use borrow.Author.Tests.{eq-eqb, ne_eqb}
use Rattle.layout.specs.Layout.{PATTERN, PACK, place_in}
use Rattle.rule_finds.proofs.Counting.{turn_known, symbol_found, symbol_place}
use Rattle.rule_finds.proofs.found_in_symbol.Goals as goal

pub bounds-work-place_of : goal.bounds-work-place_of
bounds-work-place_of c =
    let h = c.requires in
    omega (arith, c.place_of.ensures, symbol_place h, (turn_known h.one.turn).long)

pub bounds-work-8960 : goal.bounds-work-8960
bounds-work-8960 c = omega (arith, (turn_known c.requires.one.turn).long)

-- the rank that is read
here : (w : List ℕ) (r x : ℕ) → x ≡ place_in w r → get_or w x 0 ≡ get_or w (place_in w r) 0
here w r x e = ap (λ (j : ℕ). get_or w j 0) e

pub returns-then-work-place_of : goal.returns-then-work-place_of
returns-then-work-place_of c h =
    let a = c.args in
    symbol_found h PACK true
    (eq-eqb (get_or a.work.now PATTERN 0) (get_or a.work.now (place_in a.work.now a.r) 0) (sym c.if-work-place_of.true ∙ here a.work.now a.r c.place_of.result c.place_of.ensures)) refl refl

pub returns-else-work-place_of : goal.returns-else-work-place_of
returns-else-work-place_of c h =
    let a = c.args in
    symbol_found h 0 false
    (ne_eqb (get_or a.work.now PATTERN 0) (get_or a.work.now (place_in a.work.now a.r) 0)
    (λ z. c.if-work-place_of.false (here a.work.now a.r c.place_of.result c.place_of.ensures ∙ sym z))) refl refl

pub place_of-requires : goal.place_of-requires
place_of-requires c = turn_known c.requires.one.turn

pub offset_bounds-work-place_of : goal.offset_bounds-work-place_of
offset_bounds-work-place_of c = omega (arith, c.place_of.ensures, symbol_place c.requires)
