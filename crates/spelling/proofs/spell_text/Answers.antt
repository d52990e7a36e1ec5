-- `spell_text` spells the root of the table that is loaded.
use mathlib.Core.Path.{◌∙◌, ap}
use mathlib.Core.List.{List}
use Prim.Native.Nat.{ℕ}
use native.Mathlib.Omega.{arith}
use lib.ListN.{length}
use Rattle.definitions.specs.Words.{placed}
use Rattle.state.proofs.Lengths.{rules_range}
use Rattle.spelling.proofs.Texts.{root_spelled}
use Rattle.spelling.proofs.spell_text.Goals as goal

pub overflow_sub-loaded : goal.overflow_sub-loaded
overflow_sub-loaded c = omega (arith, rules_range c.args.loaded.now.held)

pub spell-requires : goal.spell-requires
spell-requires c =
    let a = c.args in
    let (mark, bytes) = root_spelled a.loaded.now.held in
    (a.loaded.now.rules, a.loaded.now.held, mark, omega (arith, ap length bytes, c.requires))

pub returns : goal.returns
returns c =
    let a = c.args in
    let (mark, bytes) = root_spelled a.loaded.now.held in
    (c.spell.ensures a.loaded.now.rules a.loaded.now.held mark).front ∙ ap (λ (l : List ℕ). placed l a.res.now) bytes
