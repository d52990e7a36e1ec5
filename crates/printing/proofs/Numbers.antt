-- A number behind its name is the line that has both but for its end, and stands in whatever the line is placed in: `without_end`. Of a writer: the digits at the
-- front of what the line is placed in (`digits_taken`), and bytes written behind others that were written (`appended_both`).
use Rattle.std.proofs.Common.{◌≡◌, sym, ◌∙◌, ap, ℕ, ◌+◌, ◌-◌, ◌≤◌, List, [], ◌∷◌, ◌++◌, length, take, drop, length-append, append_assoc, Option, Some, None, Result, Ok, Err, OnOk, arith}
use lib.Seq.{take_at}
use Rattle.std.specs.Io.KnownBytes.{Appends}
use Rattle.definitions.specs.Words.{placed}
use Rattle.definitions.specs.Programs.{decimal, line, named}

pub without_end : (name : List ℕ) (n : ℕ) (old new : List ℕ) (k : ℕ) → k ≡ length (named name n) → new ≡ placed (named name n) old
    → (k ≡ length (name ++ decimal n) + 1) × (length name ≤ length (name ++ decimal n)) × (k ≤ length new)
unfolding placed named line
without_end name n old new k e f = (
  e ∙ ap length (sym (append_assoc name (decimal n) (10 ∷ []))) ∙ length-append (name ++ decimal n) (10 ∷ []),
  omega (arith, length-append name (decimal n)),
  omega (arith, e, ap length f, length-append (named name n) (drop (length (named name n)) old)),
)

pub digits_taken : (d old new : List ℕ) (b k : ℕ) → k ≡ length (d ++ (b ∷ [])) → new ≡ placed (d ++ (b ∷ [])) old → (k - 1 ≤ length new) × (take (k - 1) new ≡ d)
unfolding placed
digits_taken d old new b k e f =
    let rest = drop (length (d ++ (b ∷ []))) old in
    let size : k ≡ length d + 1 = e ∙ length-append d (b ∷ []) in (
      omega (arith, size, ap length f, length-append (d ++ (b ∷ [])) rest, length-append d (b ∷ [])),
      ap (take (k - 1)) (f ∙ append_assoc d (b ∷ []) rest) ∙ take_at d ((b ∷ []) ++ rest) (k - 1) (omega arith),
    )

appended : (x y z : Option (List ℕ)) (a b : List ℕ) → Appends x y a → Appends y z b → Appends x z (a ++ b)
appended None y z a b p q = tt
appended (Some l) None z a b p q = absurd p
appended (Some l) (Some m) None a b p q = absurd q
appended (Some l) (Some m) (Some n) a b p q = q ∙ ap (λ (x : List ℕ). x ++ b) p ∙ append_assoc l a b

pub appended_both : {E : Type 0} (r : Result Unit E) (x y z : Option (List ℕ)) (a b : List ℕ) → Appends x y a → OnOk r (Appends y z b) → OnOk r (Appends x z (a ++ b))
appended_both (Ok u) x y z a b p q = appended x y z a b p q
appended_both (Err e) x y z a b p q = q
