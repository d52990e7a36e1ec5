-- `word_again` makes the three tests of its definition in turn.
use mathlib.Core.Path.{◌≡◌, ◌∙◌}
use mathlib.Core.Bool.{Bool, ◌&&◌}
use mathlib.Core.List.{List, map}
use Prim.Native.Nat.{ℕ, ◌-◌}
use lib.ListN.{length, take, drop}
use lib.Dec.{ltb}
use Rattle.definitions.specs.Words.{begins, lyndon}
use Rattle.definitions.specs.Table.{rank_of}
use Rattle.definitions.specs.Services.{sample_order}
use Rattle.naive_cuts.proofs.Cutting.{again, first_held, first_failed, third_decides, one_failed}
use Rattle.naive_cuts.proofs.word_again.Goals.{then-is_lyndon, else-is_lyndon}
use Rattle.naive_cuts.proofs.word_again.Goals as goal

-- the stretch, and the tail, as code takes them
abbrev stretch : List ℕ → ℕ → ℕ → List ℕ
stretch l d c = take (c - d) (drop d l)

abbrev tail : List ℕ → ℕ → List ℕ
tail l c = take (length l - c) (drop c l)

abbrev is_word : List ℕ → ℕ → ℕ → Bool
is_word l d c = lyndon (map (rank_of sample_order) (stretch l d c))

abbrev comes_again : List ℕ → ℕ → ℕ → Bool
comes_again l d c = begins (map (rank_of sample_order) (stretch l d c)) (map (rank_of sample_order) (tail l c))

pub returns-then-is_prefix : goal.returns-then-is_prefix
returns-then-is_prefix c =
    let a = c.args in
    let p = is_word a.pattern.now a.d a.c in
    let q = comes_again a.pattern.now a.d a.c in
    let v : c.if-is_lyndon.value ≡ p && q = elim c.if-is_lyndon.branch [
      | then-is_lyndon w ↦ first_held p q c.is_lyndon.ensures w.if-is_lyndon.true (w.value-is ∙ w.is_prefix.ensures)
      | else-is_lyndon w ↦ first_failed p q c.is_lyndon.ensures w.if-is_lyndon.false w.value-is
    ] in
    third_decides p q (ltb (length (stretch a.pattern.now a.d a.c)) (length (tail a.pattern.now a.c))) v c.if-is_prefix.true ∙ again (rank_of sample_order) a.pattern.now a.c a.d

pub returns-else-is_prefix : goal.returns-else-is_prefix
returns-else-is_prefix c =
    let a = c.args in
    let p = is_word a.pattern.now a.d a.c in
    let q = comes_again a.pattern.now a.d a.c in
    let v : c.if-is_lyndon.value ≡ p && q = elim c.if-is_lyndon.branch [
      | then-is_lyndon w ↦ first_held p q c.is_lyndon.ensures w.if-is_lyndon.true (w.value-is ∙ w.is_prefix.ensures)
      | else-is_lyndon w ↦ first_failed p q c.is_lyndon.ensures w.if-is_lyndon.false w.value-is
    ] in
    one_failed p q (ltb (length (stretch a.pattern.now a.d a.c)) (length (tail a.pattern.now a.c))) v c.if-is_prefix.false ∙ again (rank_of sample_order) a.pattern.now a.c a.d
