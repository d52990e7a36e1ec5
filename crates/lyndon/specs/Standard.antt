-- Rules whose halves are in order: two comparisons a pair rule (`ordered`) make every rule's string a Lyndon word whose standard factorization
-- the halves are (`rule_lyndon`, `rule_standard`), by rule number; and no other tables have such rules (`standard_ordered`).
use Rattle.std.specs.Prelude.{◌≡◌, Bool, true, cond, not, ◌&&◌, List, ◌++◌, ℕ, zero, suc, ◌*◌, ◌<◌, get_or}
use Rattle.std.proofs.Common.{sym, ◌∙◌, arith}
use Rattle.std.proofs.Math.Bool.{and-true}
use Rattle.std.proofs.lemmas.Bool.{not-true}
use Rattle.definitions.specs.declared.Order.{Order}
use Rattle.definitions.specs.Words.{every, lexlt}
use Rattle.definitions.specs.Table.{rank_of_number, number_of, rule_string, rule_count, is_pair, left_half, right_half}
use Rattle.lists.specs.Bools.{contra, and_left, and_right, not_so}
use Rattle.lists.specs.Numbers.{every_at, every_all}
use Rattle.lyndon.specs.Lexical.{Lt, lexlt_lt, lt_lexlt, lexlt_not}
use Rattle.lyndon.specs.Words.{Lyndon, lyndon_one, lyndon_append}
use Rattle.lyndon.specs.Factorization.{Std, std_one, std_join, std_order, left_smaller}
use Rattle.lyndon.specs.Shapes.{Shaped, string_filled}
use Rattle.lyndon.specs.Ruled.{Ruled, symbol, pair, SymbolOf, PairOf, ruled}

-- of a pair rule, the left half is smaller than the right; and where the left half is itself a pair, its right half is not smaller than the rule's
unfoldable pub ordered : Order → List ℕ → ℕ → Bool
ordered o t r =
    let left = number_of (get_or t (2 * r) 0) in
    cond (is_pair t r) (lexlt (left_half o t r) (right_half o t r) && cond (is_pair t left) (not (lexlt (right_half o t left) (right_half o t r))) true) true

module _ (o : Order) {t : List ℕ} {r : ℕ} where
  pub ordered_symbol : {a b : ℕ} → SymbolOf t r a b → ordered o t r ≡ true
  unfolding ordered
  ordered_symbol s = rw s.no_pair

  module _ {u v : ℕ} (p : PairOf t r u v) where
    pub ordered_one : {a b : ℕ} → SymbolOf t u a b → ordered o t r ≡ lexlt (rule_string o t u) (rule_string o t v)
    unfolding ordered
    ordered_one s = rw (p.is_pair_lem, p.left_half_lem o, p.right_half_lem o, p.first_number, s.no_pair) (and-true (lexlt (rule_string o t u) (rule_string o t v)))

    pub ordered_two : {x y : ℕ} → PairOf t u x y
        → ordered o t r ≡ lexlt (rule_string o t u) (rule_string o t v) && not (lexlt (rule_string o t y) (rule_string o t v))
    unfolding ordered
    ordered_two q = rw (p.is_pair_lem, p.left_half_lem o, p.right_half_lem o, p.first_number, q.is_pair_lem, q.right_half_lem o)

-- ---- by rule number

module _ (o : Order) (t : List ℕ) (s : Shaped t) (e : every (ordered o t) (rule_count t) ≡ true) where
  -- the string of rule r is a Lyndon word, and the halves of a pair are its standard factorization
  abbrev Standard : ℕ → Type 0
  Standard r = Lyndon (rule_string o t r) × (is_pair t r ≡ true → Std (left_half o t r) (right_half o t r) × Lt (left_half o t r) (right_half o t r))

  standard_below : (b r : ℕ) → r < b → r < rule_count t → Standard r
  standard_below zero r l h = absurd (omega arith)
  standard_below (suc b) r l h = go (ruled t s r h) (λ q m. standard_below b q (omega arith) (omega arith))
    where
      holds : ordered o t r ≡ true
      holds = every_at (ordered o t) (rule_count t) e r h

      go : Ruled t r → ((q : ℕ) → q < r → Standard q) → Standard r
      go (symbol n _ k) ih = (rw (k.string o) (lyndon_one (rank_of_number o n)), λ f. contra f k.no_pair)
      go (pair u v k) ih = join (ruled t s u (omega (arith, k.left)))
        where
          small : Lyndon (rule_string o t v)
          small = (ih v k.right).0

          both : Std (rule_string o t u) (rule_string o t v) → Lt (rule_string o t u) (rule_string o t v) → Standard r
          both d m = (rw (k.string o) (lyndon_append (rule_string o t u) (rule_string o t v) (ih u k.left).0 small m), λ f. rw (k.left_half_lem o, k.right_half_lem o) (d, m))

          join : Ruled t u → Standard r
          join (symbol n _ q) =
              both (rw (q.string o) (std_one (rank_of_number o n) (rule_string o t v) small)) (lexlt_lt (rule_string o t u) (rule_string o t v) (sym (ordered_one o k q) ∙ holds))
          join (pair x y q) =
              let less = lexlt (rule_string o t u) (rule_string o t v) in
              let least = not (lexlt (rule_string o t y) (rule_string o t v)) in
              let f : less && least ≡ true = sym (ordered_two o k q) ∙ holds in
              let d : Std (rule_string o t x) (rule_string o t y) = rw (q.left_half_lem o, q.right_half_lem o) at ((ih u k.left).1 q.is_pair_lem).0 in
              both
              (rw (q.string o) (std_join (rule_string o t x) (rule_string o t y) (rule_string o t v) d small (lexlt_not (rule_string o t y) (rule_string o t v) (not-true (lexlt (rule_string o t y) (rule_string o t v)) (and_right less least f)))))
              (lexlt_lt (rule_string o t u) (rule_string o t v) (and_left less least f))

  pub rule_lyndon : (r : ℕ) → r < rule_count t → Lyndon (rule_string o t r)
  rule_lyndon r h = (standard_below (suc r) r (omega arith) h).0

  pub rule_standard : (r u v : ℕ) → r < rule_count t → PairOf t r u v → Std (rule_string o t u) (rule_string o t v) × Lt (rule_string o t u) (rule_string o t v)
  rule_standard r u v h k = rw (k.left_half_lem o, k.right_half_lem o) at ((standard_below (suc r) r (omega arith) h).1 k.is_pair_lem)

-- ---- and the other way

pub standard_ordered : (o : Order) (t : List ℕ) → Shaped t → ((q : ℕ) → q < rule_count t → Lyndon (rule_string o t q))
    → ((q : ℕ) → is_pair t q ≡ true → Std (left_half o t q) (right_half o t q)) → every (ordered o t) (rule_count t) ≡ true
standard_ordered o t s lyn std = every_all (ordered o t) (rule_count t) (λ r h. go r h (ruled t s r h))
  where
    go : (r : ℕ) → r < rule_count t → Ruled t r → ordered o t r ≡ true
    go r h (symbol n _ k) = ordered_symbol o k
    go r h (pair u v k) = left (ruled t s u (omega (arith, k.left)))
      where
        d : Std (rule_string o t u) (rule_string o t v)
        d = rw (k.left_half_lem o, k.right_half_lem o) at (std r k.is_pair_lem)

        less : lexlt (rule_string o t u) (rule_string o t v) ≡ true
        less = lt_lexlt (rule_string o t u) (rule_string o t v) (left_smaller (rule_string o t u) (rule_string o t v) (rw (k.string o) at (lyn r h)) d)

        left : Ruled t u → ordered o t r ≡ true
        left (symbol n _ q) = ordered_one o k q ∙ less
        left (pair x y q) =
            let a = string_filled o t s x (omega (arith, k.left, q.left)) in
            let b = string_filled o t s y (omega (arith, k.left, q.right)) in
            let f : Std (rule_string o t x ++ rule_string o t y) (rule_string o t v) = rw (q.string o) at d in
            let no_less = not_so (lexlt (rule_string o t y) (rule_string o t v)) (λ e. std_order (rule_string o t x) (rule_string o t y) (rule_string o t v) a b f (lexlt_lt (rule_string o t y) (rule_string o t v) e)) in
            ordered_two o k q ∙ rw (less, no_less)
