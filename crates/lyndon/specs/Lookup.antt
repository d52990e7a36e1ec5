-- A rule looked up among those before it: a pair is new if none has its two words (`pair_new`), and surely if
-- the rule before it is one of its halves (`half_new`). Where rule 0 is the mark, a dictionary of words serves for the other symbols too (`symbol_found`).
use Rattle.std.specs.Prelude.{◌≡◌, Bool, true, ◌&&◌, ◌⊎◌, List}
use Rattle.std.proofs.Common.{sym, ◌∙◌, ⊎_elim, arith, eqb-true, eq-eqb}
use Rattle.std.proofs.Math.Path.{ap}
use Prim.Native.Nat.{ℕ, zero, suc, ◌+◌, ◌*◌, ◌<◌}
use Rattle.std.proofs.Math.ListN.{get_or}
use Rattle.std.proofs.Math.Dec.{eqb}
use Rattle.definitions.specs.Table.{word_of, kind_of, number_of, chair_of, rule_count}
use Rattle.lists.specs.Bools.{bool_ext, and_left, and_intro, not_so}
use Rattle.lists.specs.Newest.{has_words, newest, newest_ext}
use Rattle.lyndon.specs.Encoding.{beside, beside_later}
use Rattle.lyndon.specs.Shapes.{Shaped}
use Rattle.lyndon.specs.Ruled.{Ruled, symbol, pair, SymbolOf, PairOf, ruled}
use Rattle.lyndon.specs.Twins.{twin, twin_symbol, twin_pair, words_twin, is_new, new_none}

-- a pair is new if no rule before it has its two words
pub pair_new : (t : List ℕ) (r : ℕ) → kind_of (get_or t (2 * r) 0) ≡ 1 → is_new t r ≡ eqb (newest (has_words t (get_or t (2 * r) 0) (get_or t (2 * r + 1) 0)) r) r
unfolding is_new
pair_new t r e =
    ap (λ (n : ℕ). eqb n r) (newest_ext (twin t r) (has_words t (get_or t (2 * r) 0) (get_or t (2 * r + 1) 0)) r (λ i l. twin_pair t r i e))

module _ (t : List ℕ) (s : Shaped t) where
  -- a pair of which the rule before it is a half is new: no earlier rule has that half
  pub half_new : {r u v : ℕ} → r < rule_count t → PairOf t r u v → (suc u ≡ r) ⊎ (suc v ≡ r) → is_new t r ≡ true
  half_new {r} {u} {v} h p e = new_none t r (λ i l. not_so (twin t r i) (λ f. go i l (words_twin t r i f) (ruled t s i (omega arith))))
    where
      go : (i : ℕ) → i < r → (get_or t (2 * i) 0 ≡ get_or t (2 * r) 0) × ((kind_of (get_or t (2 * r) 0) ≡ 0) ⊎ (get_or t (2 * i + 1) 0 ≡ get_or t (2 * r + 1) 0)) → Ruled t i → ⊥
      go i l (f, g) (symbol n _ q) = omega (arith, q.kind, p.kind, ap kind_of f)
      go i l (f, g) (pair x y q) =
          let left : x ≡ u = sym q.first_number ∙ ap number_of f ∙ p.first_number in
          let right : y ≡ v = ⊎_elim (λ k. absurd (omega (arith, p.kind))) (λ k. sym q.second_number ∙ ap number_of k ∙ p.second_number) g in
          ⊎_elim (λ k. omega (arith, q.left)) (λ k. omega (arith, q.right)) e

  -- where rule 0 is the mark and rule r another symbol, a dictionary of words finds the same: beside the symbols that may be its twins stands 0
  pub symbol_found : get_or t 0 0 ≡ 0 → {r a b : ℕ} → SymbolOf t r a b → r < rule_count t → (get_or t (2 * r) 0 ≡ 0 → ⊥)
      → is_new t r ≡ eqb (newest (has_words t (get_or t (2 * r) 0) (get_or t (2 * r + 1) 0)) r) r
  unfolding is_new has_words
  symbol_found mark {r} p h no_mark =
      ap (λ (m : ℕ). eqb m r) (newest_ext (twin t r) (has_words t x y) r (λ i l. twin_symbol t r i p.kind ∙ bool_ext (first_same i) (first_same i && second_same i) (to i l) (and_left (first_same i) (second_same i))))
    where
      x : ℕ
      x = get_or t (2 * r) 0

      y : ℕ
      y = get_or t (2 * r + 1) 0

      first_same : ℕ → Bool
      first_same i = eqb (get_or t (2 * i) 0) x

      second_same : ℕ → Bool
      second_same i = eqb (get_or t (2 * i + 1) 0) y

      -- a twin is not the first rule
      beside_same : (i : ℕ) → i < r → get_or t (2 * i) 0 ≡ x → beside (chair_of t) i ≡ beside (chair_of t) r
      beside_same zero l f = absurd (no_mark (sym f ∙ mark))
      beside_same (suc i) l f = beside_later (chair_of t) (suc i) (omega arith) ∙ sym (beside_later (chair_of t) r (omega arith))

      second : (i : ℕ) → i < r → get_or t (2 * i) 0 ≡ x → Ruled t i → get_or t (2 * i + 1) 0 ≡ y
      second i l f (symbol _ _ q) = q.second ∙ ap (word_of 3) (q.beside ∙ beside_same i l f ∙ sym p.beside) ∙ sym p.second
      second i l f (pair u v q) = absurd (omega (arith, p.kind, q.kind, ap kind_of f))

      to : (i : ℕ) → i < r → first_same i ≡ true → first_same i && second_same i ≡ true
      to i l e =
          let f = eqb-true (get_or t (2 * i) 0) x e in
          and_intro (first_same i) (second_same i) e (eq-eqb (get_or t (2 * i + 1) 0) y (second i l f (ruled t s i (omega arith))))
