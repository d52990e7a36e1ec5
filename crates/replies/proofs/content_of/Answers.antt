-- `content_of` looks at bit 0.
use native.Mathlib.Omega.{arith}
use Prim.Native.Nat.{◌%◌}
use borrow.Author.Tests.{eq-eqb, ne_eqb}
use Rattle.definitions.specs.Replies.{content_of}
use Rattle.replies.proofs.content_of.Goals as goal

pub returns-then-form-eq1 : goal.returns-then-form-eq1
unfolding content_of
returns-then-form-eq1 c = simp (eq-eqb (c.args.form % 2) 1 (omega arith))

pub returns-else-form-eq1 : goal.returns-else-form-eq1
unfolding content_of
returns-else-form-eq1 c = simp (ne_eqb (c.args.form % 2) 1 (λ e. omega arith))
