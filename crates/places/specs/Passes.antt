-- The two passes over the rules of a table that is made in the work slice (`Made`): lengths from the first rule up (`Sizing`), places from the root down
-- (`Placing`).
use Rattle.std.specs.Prelude.{◌≡◌, List, ℕ, ◌-◌, ◌≤◌, ◌<◌, length}
use Rattle.definitions.specs.declared.Order.{Order}
use Rattle.definitions.specs.Table.{marked, table_of, rule_string, rule_count}
use Rattle.lyndon.specs.Stored.{Stored}
use Rattle.lyndon.specs.Filling.{Stands as StandsAt}
use Rattle.layout.specs.Layout.{length_in, place_in}
use Rattle.grammar.specs.Built.{Built}
use Rattle.state.specs.State.{Kept}
use Rattle.decoding.specs.declared.Rule.TheVariants.{Pair}
use Rattle.decoding.specs.Decoding.{rule_at}

-- what the table is made of
pub record Contents : Type 0 where
  pub order : Order
  pub text : List ℕ
  pub chair : ℕ

abbrev pub table_in : Contents → List ℕ
table_in g = table_of g.order g.text g.chair

abbrev pub rules_in : Contents → ℕ
rules_in g = rule_count (table_of g.order g.text g.chair)

-- it is made, as building leaves it
pub record Made (g : Contents) (w : List ℕ) : Type 0 where
  pub stored : Stored g.text g.chair
  pub built : Built g.order g.text g.chair w

-- rule r is a half of rule k of the table t
pub data Half (t : List ℕ) (k r : ℕ) : Type 0 where
  left : (v : ℕ) → rule_at t k ≡ Pair r v → Half t k r
  right : (u : ℕ) → rule_at t k ≡ Pair u r → Half t k r

-- the string of rule r stands in the marked text at x, and at the place that is stored for it
abbrev pub StandsIn : Contents → ℕ → ℕ → Type 0
StandsIn g r x = StandsAt (marked g.order g.text) (rule_string g.order (table_in g) r) x

abbrev pub Stands : Contents → List ℕ → ℕ → Type 0
Stands g w r = StandsIn g r (place_in w r)

-- the rules before n have their lengths
pub record Sizing (g : Contents) (n : ℕ) (w : List ℕ) : Type 0 where
  pub most : rules_in g ≤ 2304
  pub kept : Kept g.order g.text g.chair w
  pub sizes : (r : ℕ) → r < n → length_in w r ≡ length (rule_string g.order (table_in g) r)

-- the root and the halves of the rules from n on have their places
pub record Placing (g : Contents) (n : ℕ) (w : List ℕ) : Type 0 where
  pub sizing : Sizing g (rules_in g) w
  pub root : Stands g w (rules_in g - 1)
  pub halves : (k r : ℕ) → n ≤ k → k < rules_in g → Half (table_in g) k r → Stands g w r
