-- A symbol has no halves (`no_half`), a pair no other halves than its own (`own_half`). A store between ranks and table changes nothing that is kept
-- (`kept_set`).
use mathlib.Core.Path.{◌≡◌, ◌∙◌}
use mathlib.Core.Logic.{◌⊎◌, inl, inr}
use mathlib.Core.List.{List}
use Prim.Native.Nat.{ℕ, suc, ◌≤◌, ◌<◌}
use native.Mathlib.Omega.{arith}
use lib.ListN.{length, set, length-set}
use Rattle.definitions.specs.Table.{table_of}
use Rattle.lists.specs.Parts.{part_set_before, part_set_behind}
use Rattle.layout.specs.Layout.{TABLE}
use Rattle.decoding.specs.declared.Rule.TheVariants.{Symbol, Pair}
use Rattle.decoding.specs.Decoding.{rule_at}
use Rattle.state.specs.State.{Kept}
use Rattle.places.specs.Passes.{Contents, Half, left, right}

-- ---- halves

pub no_half : (t : List ℕ) (r a b q : ℕ) → rule_at t r ≡ Symbol a b → Half t r q → ⊥
no_half t r a b q e (left v f) = let z : ◌≡◌ {A = ℕ} 0 1 = cc in omega arith
no_half t r a b q e (right u f) = let z : ◌≡◌ {A = ℕ} 0 1 = cc in omega arith

pub own_half : (t : List ℕ) (r u v q : ℕ) → rule_at t r ≡ Pair u v → Half t r q → (q ≡ u) ⊎ (q ≡ v)
own_half t r u v q e (left y f) = inl cc
own_half t r u v q e (right y f) = inr cc

-- ---- the table that is loaded

module _ (g : Contents) (w : List ℕ) (k : Kept g.order g.text g.chair w) where
  -- a store between ranks and table
  pub kept_set : (j x : ℕ) → 2048 ≤ j → j < TABLE → Kept g.order g.text g.chair (set w j x)
  kept_set j x a b = record {
    long = simp length-set k.long;
    stored = k.stored;
    ranks = part_set_behind 0 (suc (length g.text)) w j x (omega (arith, k.stored.short)) ∙ k.ranks;
    table = part_set_before TABLE (length (table_of g.order g.text g.chair)) w j x b ∙ k.table;
  }
