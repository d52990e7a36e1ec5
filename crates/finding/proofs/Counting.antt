-- Searching the text that is loaded: where its finds begin (`finds_from`), and what is counted of them, by what is searched for (`loaded_count`).
use mathlib.Core.Path.{◌≡◌, refl, sym, ◌∙◌, ap, subst}
use mathlib.Core.List.{List, [], ◌∷◌}
use Prim.Native.Nat.{ℕ, ◌-◌, ◌≤◌, ◌<◌}
use native.Mathlib.Omega.{arith}
use lib.ListN.{length, take, drop}
use lib.Seq.{take_at}
use Rattle.definitions.specs.declared.Order.{Order}
use Rattle.definitions.specs.declared.Content.{Content}
use Rattle.definitions.specs.declared.Content.TheVariants.{Samples, Steps}
use Rattle.definitions.specs.Words.{placed}
use Rattle.definitions.specs.Table.{table_of}
use Rattle.definitions.specs.Occurrences.{occurrences, tests}
use Rattle.definitions.specs.Steps.{steps_of, to_steps, searched, finds}
use Rattle.definitions.specs.Services.{sample_order}
use Rattle.lyndon.specs.Steps.{start_of, finds_are, steps_length}
use Rattle.state.specs.State.{Held}
use Rattle.rule_finds.specs.Searching.{Searched}
use Rattle.search.specs.declared.Totals.{Totals}
use Rattle.listing.specs.Listing.{Finds}
use Rattle.finding.specs.Counted.{Counted}

unfoldable pub all_found : (o : Order) (p text w : List ℕ) (chair : ℕ) → Searched o p text chair w → Finds w
all_found o p text w chair s = record { order = o; pattern = p; text = text; chair = chair; searched = s }

-- finds are listed from the first place on, or from the second
pub start_low : (c : Content) → start_of c ≤ 1
start_low Samples = omega arith
start_low Steps = omega arith

module _ (c : Content) (p : List ℕ) {rules : ℕ} {w : List ℕ} (h : Held sample_order rules w) (filled : 0 < length (searched c p)) {from : ℕ} (e : from ≡ start_of c) where
  -- the finds, by what is searched for and from where
  pub finds_from : finds c p h.text ≡ occurrences (searched c p) (drop from h.text)
  finds_from = finds_are c p h.text filled h.loaded.kept.stored.bytes ∙ ap (λ (i : ℕ). occurrences (searched c p) (drop i h.text)) (sym e)

  -- a search for q, which is what is searched for, counts them
  pub loaded_count : (q v : List ℕ) (n : Totals) → q ≡ searched c p
      → (n.occurrences ≡ length (occurrences q (drop from h.text))) × (n.tests ≡ length (tests sample_order (table_of sample_order h.text h.chair) q)) × Searched sample_order q h.text h.chair v
      → Counted c p h n v
  loaded_count q v n f (number, made, all) =
      record {
        number = number ∙ ap (λ (x : List ℕ). length (occurrences x (drop from h.text))) f ∙ ap length (sym finds_from);
        made = made ∙ ap (λ (x : List ℕ). length (tests sample_order (table_of sample_order h.text h.chair) x)) f;
        all = subst (λ (x : List ℕ). Searched sample_order x h.text h.chair v) f all;
      }

-- the steps of a pattern stand behind its first sample, once it is rearranged
pub steps_behind : (p old : List ℕ) → take (length p - 1) (drop 1 (placed (to_steps p) old)) ≡ steps_of p
unfolding placed to_steps steps_of
steps_behind [] old = refl
steps_behind (a ∷ p) old = take_at (steps_of (a ∷ p)) _ (length (a ∷ p) - 1) (steps_length a p ∙ omega arith)
