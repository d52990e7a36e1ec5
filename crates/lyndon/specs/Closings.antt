-- One number a symbol says the tree: how many joins close right behind it. The right-to-left pass adds one at the last symbol of
-- the right part at each join (`merge_closings`); the left-to-right pass pushes a symbol's rule and then joins the two top rules
-- that many times, and so gives the rules of the definition (`run_rules`).
use Rattle.std.specs.Prelude.{◌≡◌, refl, List, [], ◌∷◌, ◌++◌, ℕ, zero, suc, ◌+◌, ◌-◌, ◌≤◌, ◌<◌, length}
use Rattle.std.proofs.Common.{sym, ◌∙◌, ap, ap₂, subst, append_assoc, append-nil, arith, length-append}
use Rattle.definitions.specs.Grammar.{Tree, leaf, node, word, lyndon_tree, Rule, symbol, pair, rules_of}
use Rattle.lists.specs.Lists.{Extends, extends_self, extends_trans}
use Rattle.lists.specs.Numbers.{split_le}
use Rattle.lyndon.specs.Words.{Lyndon}
use Rattle.lyndon.specs.Trees.{word_filled, tree_of}
use Rattle.lyndon.specs.Forest.{forest, forest_one, spells}
use Rattle.lyndon.specs.Rules.{find, intern, intern_old, intern_new, number, number_rules}

-- the joins that close behind each symbol of a tree, and k more behind its last
unfoldable pub closings : ℕ → Tree → List ℕ
closings k (leaf a) = k ∷ []
closings k (node l r) = closings 0 l ++ closings (suc k) r

-- those of a forest
unfoldable pub closings_of : List Tree → List ℕ
closings_of [] = []
closings_of (t ∷ f) = closings 0 t ++ closings_of f

unfoldable pub sum : List ℕ → ℕ
sum [] = 0
sum (n ∷ l) = n + sum l

sum_append : (l m : List ℕ) → sum (l ++ m) ≡ sum l + sum m
unfolding sum
sum_append [] m = omega arith
sum_append (n ∷ l) m = omega (arith, sum_append l m)

pub closings_length : (k : ℕ) (t : Tree) → length (closings k t) ≡ length (word t)
unfolding closings word
closings_length k (leaf a) = refl
closings_length k (node l r) = simp length-append (ap₂ {C = ℕ} (λ m n. m + n) (closings_length 0 l) (closings_length (suc k) r))

-- a tree has one join less than symbols
closings_sum : (k : ℕ) (t : Tree) → suc (sum (closings k t)) ≡ length (word t) + k
unfolding closings word sum
closings_sum k (leaf a) = omega arith
closings_sum k (node l r) =
    let il = closings_sum 0 l in
    let ir = closings_sum (suc k) r in
    simp (length-append, sum_append) (omega arith)

-- closings and trees of a forest are together as many as its symbols
pub forest_sum : (f : List Tree) → sum (closings_of f) + length f ≡ length (spells f)
unfolding closings_of sum spells
forest_sum [] = omega arith
forest_sum (t ∷ f) =
    let ih = forest_sum f in
    let it = closings_sum 0 t in
    simp (length-append, sum_append) (omega arith)

-- with d on the stack, each symbol is pushed and has its joins: there are always two to join
abbrev pub Enough : ℕ → List ℕ → Type 0
Enough d [] = Unit {0}
Enough d (k ∷ c) = (k ≤ d) × Enough (suc d - k) c

tree_enough : (d k : ℕ) (t : Tree) (c : List ℕ) → k ≤ d → Enough (suc d - k) c → Enough d (closings k t ++ c)
unfolding closings
tree_enough d k (leaf a) c h e = (h, e)
tree_enough d k (node l r) c h e =
    rw append_assoc
    (tree_enough d 0 l (closings (suc k) r ++ c) (omega arith)
    (tree_enough (suc d - 0) (suc k) r c (omega arith) (subst (λ (m : ℕ). Enough m c) same e)))
  where
    same : suc d - k ≡ suc (suc d - 0) - suc k
    same = omega arith

pub forest_enough : (d : ℕ) (f : List Tree) → Enough d (closings_of f)
unfolding closings_of
forest_enough d [] = tt
forest_enough d (t ∷ f) = tree_enough d 0 t (closings_of f) (omega arith) (forest_enough (suc d - 0) f)

-- one more behind the last symbol
unfoldable pub bump : List ℕ → List ℕ
bump [] = []
bump (n ∷ []) = suc n ∷ []
bump (n ∷ m ∷ l) = n ∷ bump (m ∷ l)

bump_append : (l m : List ℕ) → 0 < length m → bump (l ++ m) ≡ l ++ bump m
unfolding bump
bump_append [] m h = refl
bump_append (n ∷ []) [] h = absurd (omega arith)
bump_append (n ∷ []) (a ∷ m) h = refl
bump_append (n ∷ k ∷ l) m h = ap {B = List ℕ} (λ x. n ∷ x) (bump_append (k ∷ l) m h)

closings_bump : (k : ℕ) (t : Tree) → closings (suc k) t ≡ bump (closings k t)
unfolding closings bump
closings_bump k (leaf a) = refl
closings_bump k (node l r) =
    ap (λ (x : List ℕ). closings 0 l ++ x) (closings_bump (suc k) r)
    ∙ sym (bump_append (closings 0 l) (closings (suc k) r) (omega (arith, closings_length (suc k) r, word_filled r)))

-- at a join the right part gets one more behind its last symbol
pub merge_closings : (l r : Tree) → closings 0 (node l r) ≡ closings 0 l ++ bump (closings 0 r)
unfolding closings
merge_closings l r = ap (λ (x : List ℕ). closings 0 l ++ x) (closings_bump 0 r)

-- ---- the pass from left to right: rules so far, and a stack of rule numbers, the top first

pub record State : Type 0 where
  pub rules : List Rule
  pub stack : List ℕ

abbrev pub start : State
start = record { rules = []; stack = [] }

-- add a rule and push its number
unfoldable pub push : List Rule → Rule → List ℕ → State
push K x stack = record { rules = intern K x; stack = find x K ∷ stack }

-- join the two rules on top
unfoldable pub join_top : List Rule → List ℕ → State
join_top K [] = record { rules = K; stack = [] }
join_top K (j ∷ []) = record { rules = K; stack = j ∷ [] }
join_top K (j ∷ i ∷ stack) = push K (pair i j) stack

unfoldable pub joins : ℕ → State → State
joins zero s = s
joins (suc k) s = joins k (join_top s.rules s.stack)

-- symbol after symbol, with its closings
unfoldable pub run : State → List ℕ → List ℕ → State
run s [] c = s
run s (a ∷ w) [] = s
run s (a ∷ w) (k ∷ c) = run (joins k (push s.rules (symbol a) s.stack)) w c

-- the rules only grow
intern_extends : (K : List Rule) (x : Rule) → Extends K (intern K x)
intern_extends K x = split_le (length K) (find x K)
    (λ h. (x ∷ [], intern_new K x h))
    (λ h. rw (intern_old K x h) (extends_self K))

join_extends : (K : List Rule) (stack : List ℕ) → Extends K (join_top K stack).rules
unfolding join_top push
join_extends K [] = extends_self K
join_extends K (j ∷ []) = extends_self K
join_extends K (j ∷ i ∷ stack) = intern_extends K (pair i j)

pub joins_extends : (k : ℕ) (s : State) → Extends s.rules (joins k s).rules
unfolding joins
joins_extends zero s = extends_self s.rules
joins_extends (suc k) s =
    extends_trans s.rules (join_top s.rules s.stack).rules (joins k (join_top s.rules s.stack)).rules
    (join_extends s.rules s.stack) (joins_extends k (join_top s.rules s.stack))

pub run_extends : (s : State) (w c : List ℕ) → Extends s.rules (run s w c).rules
unfolding run push
run_extends s [] c = extends_self s.rules
run_extends s (a ∷ w) [] = extends_self s.rules
run_extends s (a ∷ w) (k ∷ c) =
    let t = push s.rules (symbol a) s.stack in
    extends_trans s.rules (joins k t).rules (run (joins k t) w c).rules
    (extends_trans s.rules t.rules (joins k t).rules (intern_extends s.rules (symbol a)) (joins_extends k t))
    (run_extends (joins k t) w c)

-- each join leaves one less on the stack
join_depth : (K : List Rule) (stack : List ℕ) → 2 ≤ length stack → suc (length (join_top K stack).stack) ≡ length stack
unfolding join_top push
join_depth K [] h = absurd (omega arith)
join_depth K (j ∷ []) h = absurd (omega arith)
join_depth K (j ∷ i ∷ stack) h = refl

pub joins_depth : (k : ℕ) (s : State) → k < length s.stack → length (joins k s).stack + k ≡ length s.stack
unfolding joins
joins_depth zero s h = omega arith
joins_depth (suc k) s h =
    let one = join_depth s.rules s.stack (omega arith) in
    let rest = joins_depth k (join_top s.rules s.stack) (omega arith) in
    omega arith

-- the state once a tree is numbered and its root's rule is pushed
unfoldable pushed : State → Tree → State
pushed s t = record { rules = (number s.rules t).0; stack = (number s.rules t).1 ∷ s.stack }

run_tree : (s : State) (k : ℕ) (t : Tree) (w c : List ℕ) → run s (word t ++ w) (closings k t ++ c) ≡ run (joins k (pushed s t)) w c
unfolding run closings word pushed number push join_top joins
run_tree s k (leaf a) w c = refl
run_tree s k (node l r) w c =
    rw (append_assoc (word l) (word r) w, append_assoc (closings 0 l) (closings (suc k) r) c)
    (run_tree s 0 l (word r ++ w) (closings (suc k) r ++ c) ∙ run_tree (pushed s l) (suc k) r w c)

-- running over a Lyndon word with its forest's closings numbers its rules
pub run_rules : (w : List ℕ) → Lyndon w → (run start w (closings_of (forest w))).rules ≡ rules_of w
unfolding closings_of run joins pushed
run_rules w h =
    let t = lyndon_tree w in
    let e : run start w (closings_of (forest w)) ≡ pushed start t
    = ap₂ {C = State} (λ x f. run start x (closings_of f)) (sym (tree_of w h).1 ∙ sym (append-nil (word t))) (forest_one w h)
    ∙ run_tree start 0 t [] [] in
    ap (λ (s : State). s.rules) e ∙ number_rules w h
