-- `motif_length` looks for byte 10.
use mathlib.Core.Path.{◌≡◌, sym, ◌∙◌}
use lib.ListN.{length}
use borrow.Author.Tests.{tests}
use Rattle.std.proofs.Common.{rules}
use Rattle.std.proofs.lemmas.Iterator.{YieldsList-from_slice, IsFirst-from_position, index_from_first}
use Rattle.definitions.specs.Programs.{motif_of}
use Rattle.motif_input.proofs.Splitting.{no_byte, ten_here, ten_later}
use Rattle.motif_input.proofs.motif_length.Goals as goal

pub returns : goal.returns
returns c =
    let s = c.args.input.now in
    c.unwrap_or.ensures
    ∙ sym (index_from_first (λ l. length (motif_of l)) (λ b. b ≡ 10) (λ b. b ≡ 10 → ⊥) no_byte ten_here ten_later s c.position.result
    (IsFirst-from_position _ _ c.position.result (λ b. b ≡ 10) (λ b. b ≡ 10 → ⊥) c.position.ensures.ran (YieldsList-from_slice s cc) (λ x q k. search (rules, tests)) (λ x q k. search (rules, tests))))
