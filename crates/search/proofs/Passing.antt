-- The occurrences before the second place of the text: one where the text begins with the pattern (`first_passed`), none where it is not longer (`none_passed`).
use mathlib.Core.Path.{◌≡◌, sym, ◌∙◌, ap, ap₂}
use mathlib.Core.Bool.{Bool, false, cond}
use mathlib.Core.List.{List, [], ◌∷◌, ◌++◌, map}
use Prim.Native.Nat.{ℕ, suc, ◌+◌, ◌-◌, ◌≤◌, ◌<◌}
use native.Mathlib.Omega.{arith}
use lib.ListN.{length, take, drop, get_or, length-append, length-drop, length-map}
use Rattle.definitions.specs.declared.Order.{Order}
use Rattle.definitions.specs.Words.{same, begins}
use Rattle.definitions.specs.Table.{rank_of, marked, table_of, rule_count}
use Rattle.definitions.specs.Occurrences.{occurrences}
use Rattle.lists.specs.Bools.{not_so}
use Rattle.lists.specs.Parts.{part, part_at, part_part}
use Rattle.lists.specs.Strings.{same_eq, front_begins}
use Rattle.lyndon.specs.Occurrences.{longer_nowhere, occurrences_first, begins_ranks}
use Rattle.layout.specs.Layout.{PATTERN, length_in}
use Rattle.rule_finds.specs.Searching.{Counting}
use Rattle.rule_finds.proofs.Short.{root_size}

-- the place at the start, or none
abbrev pub start : Bool → List ℕ
start b = cond b (0 ∷ []) []

module _ (o : Order) (p text : List ℕ) (chair m n rules : ℕ) (w : List ℕ) (h : Counting o p text chair m n 0 w) (e : rules ≡ rule_count (table_of o text chair)) where
  filled : 0 < length p
  filled = h.pattern.filled

  size : length_in w (rules - 1) ≡ length text + 1
  size = root_size o text chair w h.loaded rules e

  pub none_passed : length_in w (rules - 1) ≤ m → length (occurrences p (drop 1 text)) ≡ length (occurrences p text)
  none_passed l =
      ap length (longer_nowhere p (drop 1 text) (omega (arith, length-drop 1 text, size, h.size)) ∙ sym (longer_nowhere p text (omega (arith, size, h.size))))

  -- the pattern stands where it is placed, the text behind the mark
  starts : m < length_in w (rules - 1) → same (part 1 m w) (part PATTERN m w) ≡ begins p text
  unfolding marked part
  starts l =
      let short : m ≤ length text = omega (arith, size) in
      let ranks : part 1 m w ≡ take m (map (rank_of o) text) =
      sym (part_part 0 (suc (length text)) 1 m w (omega arith)) ∙ ap (part 1 m) h.loaded.kept.ranks in
      let count : m ≡ length (map (rank_of o) p) = h.size ∙ sym (length-map p (rank_of o)) in
      ap₂ {C = Bool} same (ranks ∙ ap (λ (k : ℕ). take k (map (rank_of o) text)) count) h.ranks
      ∙ front_begins (map (rank_of o) p) (map (rank_of o) text) (omega (arith, length-map text (rank_of o)))
      ∙ begins_ranks o p text h.pattern.bytes h.loaded.kept.stored.bytes

  -- parts whose first words differ do
  pub unlike : (get_or w 1 0 ≡ get_or w PATTERN 0 → ⊥) → same (part 1 m w) (part PATTERN m w) ≡ false
  unlike d =
      let inside : 0 < m = omega (arith, h.size, filled) in
      not_so (same (part 1 m w) (part PATTERN m w))
      (λ q. d (sym (part_at 1 m w 0 0 inside) ∙ ap (λ (l : List ℕ). get_or l 0 0) (same_eq (part 1 m w) (part PATTERN m w) q) ∙ part_at PATTERN m w 0 0 inside))

  -- all, by whether there is one at the start
  pub first_passed : m < length_in w (rules - 1) → (b : Bool) → same (part 1 m w) (part PATTERN m w) ≡ b
      → length (start b) + length (occurrences p (drop 1 text)) ≡ length (occurrences p text)
  first_passed l b f =
      let rest = occurrences p (drop 1 text) in
      let all : occurrences p text ≡ start b ++ map suc rest = occurrences_first p text filled ∙ ap (λ (x : Bool). start x ++ map suc rest) (sym (starts l) ∙ f) in
      omega (arith, ap length all, length-append (start b) (map suc rest), length-map rest suc)
