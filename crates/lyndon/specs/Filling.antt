-- Rules written at their places, so that every word that is written is the one that the root spells there: a symbol is stored (`symbol_filled`), a pair is
-- written once its halves are (`pair_filled`); then they are compared there (`halves_compared`).
use Rattle.std.specs.Prelude.{◌≡◌, Bool, List, [], ◌∷◌, ◌++◌, ℕ, ◌+◌, ◌≤◌, ◌<◌, length, get_or, set}
use Rattle.std.proofs.Common.{sym, ◌∙◌, ap, ap₂, subst, arith, add-zero, length-append}
use Rattle.std.proofs.Math.Seq.{take-length}
use Rattle.definitions.specs.declared.Order.{Order}
use Rattle.definitions.specs.Words.{lexlt}
use Rattle.definitions.specs.Table.{rank_of_number, rule_string}
use Rattle.lists.specs.Lists.{split_same_left, split_same_right}
use Rattle.lists.specs.Parts.{part, part_length, part_at, part_append, Filled, filled_none, filled_both, filled_more}
use Rattle.lyndon.specs.Ruled.{SymbolOf, PairOf}

-- ---- places

-- the string y stands in s at x
pub record Stands (s y : List ℕ) (x : ℕ) : Type 0 where
  pub inside : x + length y ≤ length s
  pub same : part x (length y) s ≡ y

pub stands_whole : (s : List ℕ) → Stands s s 0
unfolding part
stands_whole s = record { inside = omega arith; same = take-length s }

-- where two strings stand one behind the other, each stands
pub stands_halves : (s u v : List ℕ) (x : ℕ) → Stands s (u ++ v) x → Stands s u x × Stands s v (x + length u)
stands_halves s u v x k =
    let size = length-append u v in
    let fits = k.inside in
    let front = part_length x (length u) s (omega arith) in
    let both : part x (length u) s ++ part (x + length u) (length v) s ≡ u ++ v =
    sym (part_append x (length u) (length v) s) ∙ ap (λ (n : ℕ). part x n s) (sym size) ∙ k.same in (
      record { inside = omega arith; same = split_same_left (part x (length u) s) (part (x + length u) (length v) s) u v both front },
      record { inside = omega arith; same = split_same_right (part x (length u) s) (part (x + length u) (length v) s) u v both front },
    )

-- ---- what is filled

-- a string that is filled in w where it stands in s stands there in w
pub filled_stands : (s w y : List ℕ) (x : ℕ) → length s ≤ length w → Stands s y x → Filled s w x (length y) → Stands w y x
filled_stands s w y x h k f = record { inside = omega (arith, k.inside); same = f ∙ k.same }

-- ---- a rule at its place

module _ (o : Order) {t : List ℕ} {r : ℕ} (s : List ℕ) (x : ℕ) (k : Stands s (rule_string o t r) x) where
  -- a symbol is the word that stands there, and is filled once it is stored
  module _ {a b : ℕ} (p : SymbolOf t r a b) where
    alone : Stands s (rank_of_number o a ∷ []) x
    alone = subst (λ (y : List ℕ). Stands s y x) (p.string o) k

    pub symbol_word : rank_of_number o a ≡ get_or s x 0
    symbol_word = ap (λ (y : List ℕ). get_or y 0 0) (sym alone.same) ∙ part_at x 1 s 0 0 (omega arith) ∙ ap (λ (i : ℕ). get_or s i 0) (add-zero x)

    pub symbol_filled : (w : List ℕ) → x < length w → Filled s (set w x (rank_of_number o a)) x (length (rule_string o t r))
    symbol_filled w h =
        rw (p.string o)
        (subst (λ (i : ℕ). Filled s (set w i (rank_of_number o a)) x 1) (add-zero x)
        (filled_more s w x 0 (rank_of_number o a) 0 (omega arith) (omega (arith, alone.inside)) (symbol_word ∙ ap (λ (i : ℕ). get_or s i 0) (sym (add-zero x))) (filled_none s w x)))

  -- the halves of a pair stand there one behind the other, and it is filled once they are
  module _ {u v : ℕ} (p : PairOf t r u v) where
    pub half_places : Stands s (rule_string o t u) x × Stands s (rule_string o t v) (x + length (rule_string o t u))
    half_places = stands_halves s (rule_string o t u) (rule_string o t v) x (subst (λ (y : List ℕ). Stands s y x) (p.string o) k)

    pub pair_filled : (w : List ℕ) → Filled s w x (length (rule_string o t u)) → Filled s w (x + length (rule_string o t u)) (length (rule_string o t v))
        → Filled s w x (length (rule_string o t r))
    pair_filled w f g =
        rw (p.string o, length-append (rule_string o t u) (rule_string o t v)) (filled_both s w x (length (rule_string o t u)) (length (rule_string o t v)) f g)

    -- comparing what stands there compares the halves, and where the left half is a pair, its right half and the rule's
    pub halves_compared :
        lexlt (part x (length (rule_string o t u)) s) (part (x + length (rule_string o t u)) (length (rule_string o t v)) s) ≡ lexlt (rule_string o t u) (rule_string o t v)
    halves_compared = ap₂ {C = Bool} (λ a b. lexlt a b) half_places.0.same half_places.1.same

pub right_halves_compared : (o : Order) {t : List ℕ} {r u v a b : ℕ} (s : List ℕ) (x : ℕ) → Stands s (rule_string o t r) x → PairOf t r u v → PairOf t u a b
    → lexlt (part (x + length (rule_string o t a)) (length (rule_string o t b)) s) (part (x + length (rule_string o t u)) (length (rule_string o t v)) s)
    ≡ lexlt (rule_string o t b) (rule_string o t v)
right_halves_compared o s x k p q =
    let (left, right) = half_places o s x k p in
    ap₂ {C = Bool} (λ c d. lexlt c d) (half_places o s x left q).1.same right.same
