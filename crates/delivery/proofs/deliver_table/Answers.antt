-- `deliver_table` delivers the words of the rules in the table area.
use mathlib.Core.Path.{subst}
use mathlib.Core.List.{List, [], ◌∷◌}
use Prim.Native.Nat.{ℕ, ◌+◌, ◌-◌, ◌*◌}
use native.Mathlib.Omega.{arith}
use Rattle.definitions.specs.Services.{writes, Serves, Answers}
use Rattle.lists.specs.Parts.{part_taken}
use Rattle.layout.specs.Layout.{TABLE}
use Rattle.delivery.proofs.deliver_table.Goals as goal

pub returns : goal.returns
returns c =
    let a = c.args in
    subst (λ (l : List ℕ). Serves (writes [] l 0 a.res.now) (Answers c.deliver.result) (c.deliver.new.res ∷ []))
    (part_taken TABLE (TABLE + 2 * a.rules - TABLE) (2 * a.rules) a.work.now (omega arith)) c.deliver.ensures
