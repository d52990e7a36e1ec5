-- Numbering by pairs: a new rule is looked up by its symbol or by its pair of rule numbers, and gets the same number as its
-- string does (`number_tree`). So numbering the Lyndon tree of a word gives the rules of the definition (`number_rules`).
use Rattle.std.specs.Prelude.{◌≡◌, refl, Bool, true, false, cond, ◌&&◌, ℕ, ◌≤◌, ◌<◌, length, get_or, ltb, eqb}
use Rattle.std.proofs.Common.{sym, ◌∙◌, ap, ap₂, ⊎_elim, arith, length-append, lt-ltb, le-ltb, eqb-true, eq-eqb}
use Rattle.std.proofs.lemmas.Bool.{false≢true}
use mathlib.Core.List.Memᴰ.{cases_cons as in-cons}
use mathlib.Core.List.Memᴰ.{head as here}
use mathlib.Core.List.Memᴰ.{not-nil as in-nil}
use mathlib.Core.List.Memᴰ.{tail as there}
use mathlib.Core.List.{List, [], ◌∷◌, ◌++◌, map, map-append, Memᴰ as In}
use Rattle.std.proofs.lemmas.List.{length-map}
use Rattle.std.proofs.Math.ListN.{get_or-map}
use Rattle.definitions.specs.Words.{same}
use Rattle.definitions.specs.Grammar.{Tree, leaf, node, word, lyndon_tree, left_of, right_of, index_of, meet, visit, order, Rule, symbol, pair, rule_of, rules_of}
use Rattle.lists.specs.Bools.{either, contra, not_so, and_left, and_right, and_intro}
use Rattle.lists.specs.Lists.{Extends}
use Rattle.lists.specs.Numbers.{split_le}
use Rattle.lists.specs.Newest.{newest, newest_only, newest_none}
use Rattle.lists.specs.Strings.{eq_same}
use Rattle.lyndon.specs.Words.{Lyndon}
use Rattle.lyndon.specs.Factorization.{std_left, std_right, std_parts}
use Rattle.lyndon.specs.Trees.{LyndonTree, word_filled, tree_of}
use Rattle.lyndon.specs.Numbering.{Has, Numbered, Fits, index_found, index_later, index_le, index_at, meet_old, meet_new, meet_index, extends_has, extends_index, visit_extends, visit_has, visit_numbered, none_numbered, node_fits, parts_fit}

-- ---- the model: a list of rules, and where a rule stands in it

unfoldable pub same_rule : Rule → Rule → Bool
same_rule (symbol a) (symbol b) = eqb a b
same_rule (symbol a) (pair k l) = false
same_rule (pair i j) (symbol b) = false
same_rule (pair i j) (pair k l) = eqb i k && eqb j l

-- whether rule r of K is x
unfoldable pub is_rule : List Rule → Rule → ℕ → Bool
is_rule K x r = same_rule x (get_or K r (symbol 0))

-- the number of the rule x: the newest that it is; if none, the number of rules, which is its number once it is added
unfoldable pub find : Rule → List Rule → ℕ
find x K = newest (is_rule K x) (length K)

-- the rules, and x if it is new
unfoldable pub intern : List Rule → Rule → List Rule
intern K x = cond (ltb (find x K) (length K)) K (K ++ (x ∷ []))

-- the rules once a tree is numbered from K on, and the number of its root's rule
unfoldable pub number : List Rule → Tree → List Rule × ℕ
number K (leaf a) = (intern K (symbol a), find (symbol a) K)
number K (node l r) =
    let (K₁, i) = number K l in
    let (K₂, j) = number K₁ r in
    (intern K₂ (pair i j), find (pair i j) K₂)

-- ---- rules as values

rule_self : (x : Rule) → same_rule x x ≡ true
unfolding same_rule
rule_self (symbol a) = eq-eqb a a refl
rule_self (pair i j) = and_intro (eqb i i) (eqb j j) (eq-eqb i i refl) (eq-eqb j j refl)

pub rule_same : (x y : Rule) → x ≡ y → same_rule x y ≡ true
rule_same x y e = rw e (rule_self y)

pub same_rule_lem : (x y : Rule) → same_rule x y ≡ true → x ≡ y
unfolding same_rule
same_rule_lem (symbol a) (symbol b) e = ap symbol (eqb-true a b e)
same_rule_lem (symbol a) (pair k l) e = absurd (false≢true e)
same_rule_lem (pair i j) (symbol b) e = absurd (false≢true e)
same_rule_lem (pair i j) (pair k l) e =
    ap₂ {C = Rule} (λ x y. pair x y) (eqb-true i k (and_left (eqb i k) (eqb j l) e)) (eqb-true j l (and_right (eqb i k) (eqb j l) e))

-- ---- the rule of a string

pub rule_symbol : (S : List (List ℕ)) (x : List ℕ) → length x < 2 → rule_of S x ≡ symbol (get_or x 0 0)
unfolding rule_of
rule_symbol S x h = rw (lt-ltb (length x) 2 h)

pub rule_pair : (S : List (List ℕ)) (x : List ℕ) → 2 ≤ length x → rule_of S x ≡ pair (index_of (left_of x) S) (index_of (right_of x) S)
unfolding rule_of
rule_pair S x h = rw (le-ltb (length x) 2 h)

-- more strings do not change the rule of a string whose parts are there
rule_extends : (S T : List (List ℕ)) (x : List ℕ) → Extends S T → Fits S x → rule_of T x ≡ rule_of S x
rule_extends S T x e f = split_le 2 (length x)
    (λ h.
    let (p, q) = f h in
    rule_pair T x h
    ∙ ap₂ {C = Rule} (λ i j. pair i j) (extends_index S T (left_of x) e p) (extends_index S T (right_of x) e q)
    ∙ sym (rule_pair S x h))
    (λ h. rule_symbol T x h ∙ sym (rule_symbol S x h))

one_symbol : (x y : List ℕ) → 0 < length x → 0 < length y → length x < 2 → length y < 2 → symbol (get_or x 0 0) ≡ symbol (get_or y 0 0) → x ≡ y
one_symbol [] y p q h k e = absurd (omega arith)
one_symbol (a ∷ []) [] p q h k e = absurd (omega arith)
one_symbol (a ∷ []) (b ∷ []) p q h k e = ap {B = List ℕ} (λ c. c ∷ []) (cc)
one_symbol (a ∷ []) (b ∷ c ∷ y) p q h k e = absurd (omega arith)
one_symbol (a ∷ b ∷ x) y p q h k e = absurd (omega arith)

never : (a i j : ℕ) → symbol a ≡ pair i j → ⊥
never a i j e = let z : ◌≡◌ {A = ℕ} 0 1 = cc in omega arith

left_number : (i j k l : ℕ) → pair i j ≡ pair k l → i ≡ k
left_number i j k l e = cc

right_number : (i j k l : ℕ) → pair i j ≡ pair k l → j ≡ l
right_number i j k l e = cc

index_injective : (S : List (List ℕ)) (x y : List ℕ) → Has S x → Has S y → index_of x S ≡ index_of y S → x ≡ y
index_injective S x y h k e = sym (index_at x S h) ∙ ap (λ (i : ℕ). get_or S i []) e ∙ index_at y S k

-- two strings with one rule are one string
rule_injective : (S : List (List ℕ)) (x y : List ℕ) → 0 < length x → 0 < length y → Fits S x → Fits S y → rule_of S x ≡ rule_of S y → x ≡ y
rule_injective S x y hx hy fx fy e = split_le 2 (length x)
    (λ h. split_le 2 (length y) (λ k. both h k) (λ k. absurd (never (get_or y 0 0) (index_of (left_of x) S) (index_of (right_of x) S) (sym (rule_symbol S y k) ∙ sym e ∙ rule_pair S x h))))
    (λ h. split_le 2 (length y) (λ k. absurd (never (get_or x 0 0) (index_of (left_of y) S) (index_of (right_of y) S) (sym (rule_symbol S x h) ∙ e ∙ rule_pair S y k)))
    (λ k. one_symbol x y hx hy h k (sym (rule_symbol S x h) ∙ e ∙ rule_symbol S y k)))
  where
    both : 2 ≤ length x → 2 ≤ length y → x ≡ y
    both h k =
        let (p, q) = fx h in
        let (r, s) = fy k in
        let same-pair = sym (rule_pair S x h) ∙ e ∙ rule_pair S y k in
        (std_parts x h).0
        ∙ ap₂ {C = List ℕ} (λ u v. u ++ v)
        (index_injective S (left_of x) (left_of y) p r (left_number (index_of (left_of x) S) (index_of (right_of x) S) (index_of (left_of y) S) (index_of (right_of y) S) same-pair))
        (index_injective S (right_of x) (right_of y) q s (right_number (index_of (left_of x) S) (index_of (right_of x) S) (index_of (left_of y) S) (index_of (right_of y) S) same-pair))
        ∙ sym (std_parts y k).0

-- ---- the rules of the strings met so far

unfoldable pub rules_for : List (List ℕ) → List Rule
rules_for S = map (rule_of S) S

map_same : (f g : List ℕ → Rule) (S : List (List ℕ)) → ((x : List ℕ) → In x S → f x ≡ g x) → map f S ≡ map g S
map_same f g [] h = refl
map_same f g (x ∷ S) h = ap₂ {C = List Rule} (λ y K. y ∷ K) (h x (here refl)) (map_same f g S (λ y i. h y (there i)))

has_in : (x : List ℕ) (S : List (List ℕ)) → In x S → Has S x
has_in x [] i = absurd (in-nil i)
has_in x (y ∷ S) i = ⊎_elim
    (λ e. omega (arith, index_found x y S e))
    (λ e. ⊎_elim (λ q. contra (eq_same x y q) e) (λ m. omega (arith, index_later x y S e, has_in x S m)) (in-cons i))
    (either (same x y))

rules_append : (S : List (List ℕ)) (x : List ℕ) → Numbered S → Fits S x → rules_for (S ++ (x ∷ [])) ≡ rules_for S ++ (rule_of S x ∷ [])
unfolding rules_for
rules_append S x n f =
    map-append (rule_of (S ++ (x ∷ []))) S (x ∷ [])
    ∙ ap₂ {C = List Rule} (λ K y. K ++ (y ∷ []))
    (map_same (rule_of (S ++ (x ∷ []))) (rule_of S) S (λ y i. rule_extends S (S ++ (x ∷ [])) y (x ∷ [], refl) (parts_fit S n y (has_in y S i))))
    (rule_extends S (S ++ (x ∷ [])) x (x ∷ [], refl) f)

pub rules_length : (S : List (List ℕ)) → length (rules_for S) ≡ length S
unfolding rules_for
rules_length S = length-map S (rule_of S)

pub rule_at_lem : (S : List (List ℕ)) (r : ℕ) → get_or (rules_for S) r (symbol 0) ≡ rule_of S (get_or S r [])
unfolding rules_for
rule_at_lem S r =
    ap (λ (d : Rule). get_or (map (rule_of S) S) r d) (sym (rule_symbol S [] (omega arith))) ∙ get_or-map (rule_of S) S r []

-- a rule's number is its string's
pub find_rule : (S : List (List ℕ)) (x : List ℕ) → Numbered S → 0 < length x → Fits S x → find (rule_of S x) (rules_for S) ≡ index_of x S
unfolding find is_rule
find_rule S x n hx f = ap (newest test) (rules_length S) ∙ split_le (length S) (index_of x S) new old
  where
    test : ℕ → Bool
    test r = same_rule (rule_of S x) (get_or (rules_for S) r (symbol 0))

    -- only the number of x passes
    only : (r : ℕ) → r < length S → test r ≡ true → x ≡ get_or S r []
    only r l e =
        let has : Has S (get_or S r []) = omega (arith, n.once r l) in
        rule_injective S x (get_or S r []) hx (n.filled (get_or S r []) has) f (parts_fit S n (get_or S r []) has)
        (same_rule_lem (rule_of S x) (get_or (rules_for S) r (symbol 0)) e ∙ rule_at_lem S r)

    old : Has S x → newest test (length S) ≡ index_of x S
    old h =
        newest_only test (length S) (index_of x S) h
        (rule_same (rule_of S x) (get_or (rules_for S) (index_of x S) (symbol 0)) (sym (rule_at_lem S (index_of x S) ∙ ap (rule_of S) (index_at x S h))))
        (λ r l e. sym (n.once r l) ∙ ap (λ (y : List ℕ). index_of y S) (sym (only r l e)))

    new : length S ≤ index_of x S → newest test (length S) ≡ index_of x S
    new h =
        newest_none test (length S)
        (λ r l. not_so (test r) (λ e. omega (arith, n.once r l, ap (λ (y : List ℕ). index_of y S) (only r l e))))
        ∙ omega (arith, index_le x S)

pub intern_old : (K : List Rule) (x : Rule) → find x K < length K → intern K x ≡ K
unfolding intern
intern_old K x h = rw (lt-ltb (find x K) (length K) h)

pub intern_new : (K : List Rule) (x : Rule) → length K ≤ find x K → intern K x ≡ K ++ (x ∷ [])
unfolding intern
intern_new K x h = rw (le-ltb (find x K) (length K) h)

-- adding the rule of a string is meeting the string
intern_meet : (S : List (List ℕ)) (x : List ℕ) → Numbered S → 0 < length x → Fits S x
    → intern (rules_for S) (rule_of S x) ≡ rules_for (meet S x)
intern_meet S x n hx f = split_le (length S) (index_of x S)
    (λ h.
    intern_new (rules_for S) (rule_of S x) (omega (arith, find_rule S x n hx f, rules_length S))
    ∙ sym (one_more h))
    (λ h.
    intern_old (rules_for S) (rule_of S x) (omega (arith, find_rule S x n hx f, rules_length S))
    ∙ ap rules_for (sym (meet_old S x h)))
  where
    T : List (List ℕ)
    T = S ++ (x ∷ [])

    one_more : length S ≤ index_of x S → rules_for (meet S x) ≡ rules_for S ++ (rule_of S x ∷ [])
    one_more h = rw (meet_new S x h) (rules_append S x n f)

-- ---- numbering a tree

-- the rules once x is added to those of S, and its number
add_string : (S : List (List ℕ)) (x : List ℕ) (y : Rule) → Numbered S → 0 < length x → Fits S x → y ≡ rule_of S x
    → ◌≡◌ {A = List Rule × ℕ} (intern (rules_for S) y, find y (rules_for S)) (rules_for (meet S x), index_of x (meet S x))
add_string S x y n hx f e =
    rw (e, intern_meet S x n hx f, find_rule S x n hx f, meet_index S x)

-- numbering a tree from the rules of S on gives the rules of the strings that visiting it gives, and its word's number
pub number_tree : (S : List (List ℕ)) (t : Tree) → LyndonTree t → Numbered S
    → number (rules_for S) t ≡ (rules_for (visit S t), index_of (word t) (visit S t))
unfolding number visit word
number_tree S (leaf a) h n =
    add_string S (a ∷ []) (symbol a) n (omega arith) (λ k. absurd (omega arith)) (sym (rule_symbol S (a ∷ []) (omega arith)))
number_tree S (node l r) h n =
    let T = visit (visit S l) r in
    let n₁ = visit_numbered S l h.0 n in
    let fits = node_fits T l r h.2 (extends_has (visit S l) T (word l) (visit_extends (visit S l) r) (visit_has S l)) (visit_has (visit S l) r) in
    let two : 2 ≤ length (word l ++ word r) = simp length-append (omega (arith, word_filled l, word_filled r)) in
    rw (number_tree S l h.0 n, number_tree (visit S l) r h.1 n₁)
    (add_string T (word l ++ word r) (pair (index_of (word l) (visit S l)) (index_of (word r) T))
    (visit_numbered (visit S l) r h.1 n₁) (omega arith) fits
    (rw (rule_pair T (word l ++ word r) two, std_left (word l) (word r) h.2, std_right (word l) (word r) h.2)
    (ap (λ (i : ℕ). pair i (index_of (word r) T)) (sym (extends_index (visit S l) T (word l) (visit_extends (visit S l) r) (visit_has S l))))))

pub number_rules : (w : List ℕ) → Lyndon w → (number [] (lyndon_tree w)).0 ≡ rules_of w
unfolding rules_of rules_for order
number_rules w h = ap (λ (p : List Rule × ℕ). p.0) (number_tree [] (lyndon_tree w) (tree_of w h).0 none_numbered)
