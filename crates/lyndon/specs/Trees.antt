-- The Lyndon tree: `lyndon_tree` of a Lyndon word is a tree of standard factorizations that spells the word (`tree_of`),
-- and it is the only one (`tree_unique`): that of one symbol is a leaf, that of a standard factorization the node of its parts' trees (`tree_leaf`, `tree_node`).
use Rattle.std.specs.Prelude.{◌≡◌, refl, List, [], ◌∷◌, ◌++◌, ℕ, zero, suc, ◌≤◌, ◌<◌, length, get_or}
use Rattle.std.proofs.Common.{sym, ◌∙◌, ap, ap₂, subst, arith, le_refl, length-append, lt-ltb, le-ltb}
use Rattle.definitions.specs.Grammar.{Tree, leaf, node, word, split, lyndon_tree, left_of, right_of}
use Rattle.lists.specs.Numbers.{split_le}
use Rattle.lyndon.specs.Lexical.{Lt}
use Rattle.lyndon.specs.Words.{Lyndon, lyndon_one, lyndon_append}
use Rattle.lyndon.specs.Factorization.{Std, std_lyndon, std_left, std_right, std_parts, left_lyndon, left_smaller}

-- every node is a standard factorization, its left part smaller than its right part
abbrev pub LyndonTree : Tree → Type 0
LyndonTree (leaf a) = Unit {0}
LyndonTree (node l r) = LyndonTree l × LyndonTree r × Std (word l) (word r) × Lt (word l) (word r)

pub word_filled : (t : Tree) → 0 < length (word t)
unfolding word
word_filled (leaf a) = omega arith
word_filled (node l r) = simp length-append (omega (arith, word_filled l))

pub tree_lyndon : (t : Tree) → LyndonTree t → Lyndon (word t)
unfolding word
tree_lyndon (leaf a) h = lyndon_one a
tree_lyndon (node l r) h = lyndon_append (word l) (word r) (tree_lyndon l h.0) (tree_lyndon r h.1) h.3

-- ---- the two outcomes of the split

split_leaf : (d : ℕ) (w : List ℕ) → length w < 2 → split (suc d) w ≡ leaf (get_or w 0 0)
unfolding split
split_leaf d w h = rw (lt-ltb (length w) 2 h, split)

split_node : (d : ℕ) (w : List ℕ) → 2 ≤ length w → split (suc d) w ≡ node (split d (left_of w)) (split d (right_of w))
unfolding split
split_node d w h = rw (le-ltb (length w) 2 h, split)

-- ---- the definition's tree is one

-- t is a tree of standard factorizations that spells w
abbrev pub TreeOf : List ℕ → Tree → Type 0
TreeOf w t = LyndonTree t × (word t ≡ w)

leaf_of : (w : List ℕ) → 0 < length w → length w < 2 → TreeOf w (leaf (get_or w 0 0))
unfolding word
leaf_of [] h k = absurd (omega arith)
leaf_of (a ∷ []) h k = (tt, refl)
leaf_of (a ∷ b ∷ w) h k = absurd (omega arith)

node_of : (u v : List ℕ) (l r : Tree) → TreeOf u l → TreeOf v r → Std u v → Lt u v → TreeOf (u ++ v) (node l r)
unfolding word
node_of u v l r (hl, el) (hr, er) d h = ((hl, hr, rw (el, er) d, rw (el, er) h), ap₂ {C = List ℕ} (λ x y. x ++ y) el er)

split_tree : (d : ℕ) (w : List ℕ) → Lyndon w → length w ≤ d → TreeOf w (split d w)
split_tree zero w l h = absurd (omega (arith, l.filled))
split_tree (suc d) w l h = split_le 2 (length w)
    (λ z.
    let (e, s) = std_parts w z in
    let l' : Lyndon (left_of w ++ right_of w) = subst Lyndon e l in
    let size = simp length-append at (ap length e) in
    rw (split_node d w z)
    (subst (λ (x : List ℕ). TreeOf x (node (split d (left_of w)) (split d (right_of w)))) (sym e)
    (node_of (left_of w) (right_of w) (split d (left_of w)) (split d (right_of w))
    (split_tree d (left_of w) (left_lyndon (left_of w) (right_of w) l' s) (omega (arith, s.right)))
    (split_tree d (right_of w) (std_lyndon (left_of w) (right_of w) s) (omega (arith, s.left)))
    s
    (left_smaller (left_of w) (right_of w) l' s))))
    (λ z. rw (split_leaf d w z) (leaf_of w l.filled z))

-- the Lyndon tree of a Lyndon word
pub tree_of : (w : List ℕ) → Lyndon w → TreeOf w (lyndon_tree w)
unfolding lyndon_tree
tree_of w l = split_tree (length w) w l (le_refl (length w))

-- ---- and it is the only one

tree_split : (d : ℕ) (t : Tree) → LyndonTree t → length (word t) ≤ d → split d (word t) ≡ t
unfolding word
tree_split zero t h k = absurd (omega (arith, word_filled t))
tree_split (suc d) (leaf a) h k = split_leaf d (a ∷ []) (omega arith)
tree_split (suc d) (node l r) h k =
    let size = length-append (word l) (word r) in
    let pl = word_filled l in
    let pr = word_filled r in
    split_node d (word l ++ word r) (omega arith)
    ∙ ap₂ {C = Tree} (λ x y. node x y)
    (ap (split d) (std_left (word l) (word r) h.2) ∙ tree_split d l h.0 (omega arith))
    (ap (split d) (std_right (word l) (word r) h.2) ∙ tree_split d r h.1 (omega arith))

pub tree_unique : (t : Tree) → LyndonTree t → lyndon_tree (word t) ≡ t
unfolding lyndon_tree
tree_unique t h = tree_split (length (word t)) t h (le_refl (length (word t)))

pub tree_leaf : (a : ℕ) → lyndon_tree (a ∷ []) ≡ leaf a
unfolding word
tree_leaf a = tree_unique (leaf a) tt

pub tree_node : (u v : List ℕ) → Lyndon u → Lyndon v → Std u v → Lt u v → lyndon_tree (u ++ v) ≡ node (lyndon_tree u) (lyndon_tree v)
tree_node u v hu hv d l =
    let (t, e) = node_of u v (lyndon_tree u) (lyndon_tree v) (tree_of u hu) (tree_of v hv) d l in
    ap lyndon_tree (sym e) ∙ tree_unique (node (lyndon_tree u) (lyndon_tree v)) t
