-- The strings of a word's grammar, by number: each is a Lyndon word (`order_lyndon`), the word's first symbol is the first (`order_first`), the root's string the last
-- (`order_root`), every other is a half of a later one (`order_half`), and there are at most as many as symbols of the alphabet and joins (`order_size`).
use Rattle.std.specs.Prelude.{◌≡◌, refl, ◌⊎◌, ℕ, suc, ◌+◌, ◌-◌, ◌≤◌, ◌<◌, length, take, get_or, ltb}
use Rattle.std.proofs.Common.{sym, ◌∙◌, ap, subst, inl, inr, ⊎_elim, arith, length-append, ltb-true, lt-ltb, le-ltb}
use mathlib.Core.List.Memᴰ.{append_left as in_left}
use mathlib.Core.List.Memᴰ.{append_right as in_right}
use mathlib.Core.List.Memᴰ.{head as here}
use mathlib.Core.List.{List, [], ◌∷◌, ◌++◌, Memᴰ as In}
use Rattle.std.proofs.Math.Seq.{get_or-append_seam}
use Rattle.std.proofs.lemmas.List.{take-append-le}
use Rattle.definitions.specs.Words.{below}
use Rattle.definitions.specs.Grammar.{Tree, leaf, node, word, lyndon_tree, left_of, right_of, index_of, meet, visit, order}
use Rattle.lists.specs.Lists.{Extends, extends_trans}
use Rattle.lists.specs.Numbers.{split_le, below_length, count_le, count_lt}
use Rattle.lyndon.specs.Words.{Lyndon, lyndon_one}
use Rattle.lyndon.specs.Factorization.{std_left, std_right}
use Rattle.lyndon.specs.Trees.{LyndonTree, word_filled, tree_lyndon, tree_of}
use Rattle.lyndon.specs.Numbering.{Has, Numbered, index_at, index_cases, meet_old, meet_new, meet_has, meet_extends, extends_has, visit_extends, order_numbered}

-- what was met after x stood there, or is x
meet_cases : (S : List (List ℕ)) (x y : List ℕ) → Has (meet S x) y → Has S y ⊎ (y ≡ x)
meet_cases S x y h = split_le (length S) (index_of x S)
    (λ k. index_cases y x S (rw (meet_new S x k) at h))
    (λ k. inl (rw (meet_old S x k) at h))

-- what holds of a tree's word and of the two halves of whatever it holds of holds of every string that visiting adds
visit_all_lem : (P : List ℕ → Type 0) → ((u v : List ℕ) → P (u ++ v) → P u × P v) → (S : List (List ℕ)) (t : Tree)
    → ((x : List ℕ) → Has S x → P x) → P (word t) → (x : List ℕ) → Has (visit S t) x → P x
unfolding visit word
visit_all_lem P halves S (leaf a) s h x k = ⊎_elim (λ l. s x l) (λ e. subst P (sym e) h) (meet_cases S (a ∷ []) x k)
visit_all_lem P halves S (node l r) s h x k = ⊎_elim
    (λ m. visit_all_lem P halves (visit S l) r (visit_all_lem P halves S l s (halves (word l) (word r) h).0) (halves (word l) (word r) h).1 x m)
    (λ e. subst P (sym e) h)
    (meet_cases (visit (visit S l) r) (word l ++ word r) x k)

pub order_all : (P : List ℕ → Type 0) → ((u v : List ℕ) → P (u ++ v) → P u × P v) → (w : List ℕ) → Lyndon w → P w
    → (x : List ℕ) → Has (order w) x → P x
unfolding order
order_all P halves w h p x k =
    visit_all_lem P halves [] (lyndon_tree w) (λ y m. absurd (omega arith)) (subst P (sym (tree_of w h).1) p) x k

-- every string is a Lyndon word
visit_lyndon : (S : List (List ℕ)) (t : Tree) → LyndonTree t → ((x : List ℕ) → Has S x → Lyndon x) → (x : List ℕ) → Has (visit S t) x → Lyndon x
unfolding visit word
visit_lyndon S (leaf a) h s x k = ⊎_elim (λ l. s x l) (λ e. rw e (lyndon_one a)) (meet_cases S (a ∷ []) x k)
visit_lyndon S (node l r) h s x k = ⊎_elim
    (λ m. visit_lyndon (visit S l) r h.1 (visit_lyndon S l h.0 s) x m)
    (λ e. rw e (tree_lyndon (node l r) h))
    (meet_cases (visit (visit S l) r) (word l ++ word r) x k)

pub order_lyndon : (w : List ℕ) → Lyndon w → (x : List ℕ) → Has (order w) x → Lyndon x
unfolding order
order_lyndon w h = visit_lyndon [] (lyndon_tree w) (tree_of w h).0 (λ y m. absurd (omega arith))

-- ---- the root's string is the last

-- a whole tree's strings: those of its parts, and its word as the last
visit_last : (t : Tree) → (S : List (List ℕ)) × (visit [] t ≡ S ++ (word t ∷ []))
unfolding visit word
visit_last (leaf a) = ([], meet_new [] (a ∷ []) (omega arith))
visit_last (node l r) = (
  visit (visit [] l) r,
  meet_new (visit (visit [] l) r) (word l ++ word r)
      (split_le (length (visit (visit [] l) r)) (index_of (word l ++ word r) (visit (visit [] l) r)) (λ h. h) (λ h. old h (length (word l) + length (word r) - 1) (omega (arith, word_filled l, word_filled r)))),
)
  where
    old : Has (visit (visit [] l) r) (word l ++ word r) → (n : ℕ) → suc n ≡ length (word l) + length (word r)
        → length (visit (visit [] l) r) ≤ index_of (word l ++ word r) (visit (visit [] l) r)
    old h n e =
        let pl = word_filled l in
        let pr = word_filled r in
        let short = visit_all_lem (λ x. length x ≤ n) halves (visit [] l) r (visit_all_lem (λ x. length x ≤ n) halves [] l (λ x k. absurd (omega arith)) (omega arith)) (omega arith) (word l ++ word r) h in
        absurd (omega (arith, simp length-append at short))
      where
        halves : (u v : List ℕ) → length (u ++ v) ≤ n → (length u ≤ n) × (length v ≤ n)
        halves u v k = let sum = length-append u v in (omega arith, omega arith)

order_last : (w : List ℕ) → Lyndon w → (S : List (List ℕ)) × (order w ≡ S ++ (w ∷ []))
unfolding order
order_last w h =
    let (S, e) = visit_last (lyndon_tree w) in
    (S, e ∙ ap (λ (x : List ℕ). S ++ (x ∷ [])) (tree_of w h).1)

pub order_filled : (w : List ℕ) → Lyndon w → 0 < length (order w)
order_filled w h = let (S, e) = order_last w h in omega (arith, simp length-append at (ap length e))

pub order_root : (w : List ℕ) → Lyndon w → get_or (order w) (length (order w) - 1) [] ≡ w
order_root w h = go (order_last w h)
  where
    go : (S : List (List ℕ)) × (order w ≡ S ++ (w ∷ [])) → get_or (order w) (length (order w) - 1) [] ≡ w
    go (S, e) =
        let k : length (order w) - 1 ≡ length S = omega (arith, simp length-append at (ap length e)) in
        rw (k, e) (get_or-append_seam S w [] [])

-- ---- the first is the word's first symbol

visit_first : (t : Tree) → (S : List (List ℕ)) × (visit [] t ≡ take 1 (word t) ∷ S)
unfolding visit word
visit_first (leaf a) = ([], meet_new [] (a ∷ []) (omega arith))
visit_first (node l r) =
    let (S, e) = visit_first l in
    let (M, f) = extends_trans (visit [] l) (visit (visit [] l) r) (visit [] (node l r)) (visit_extends (visit [] l) r) (meet_extends (visit (visit [] l) r) (word l ++ word r)) in
    (S ++ M, f ∙ ap (λ (x : List (List ℕ)). x ++ M) e ∙ ap (λ (x : List ℕ). x ∷ (S ++ M)) (sym (take-append-le 1 (word l) (word r) (omega (arith, word_filled l)))))

pub order_first : (w : List ℕ) → Lyndon w → get_or (order w) 0 [] ≡ take 1 w
unfolding order
order_first w h = let (S, e) = visit_first (lyndon_tree w) in ap (λ (x : List (List ℕ)). get_or x 0 []) e ∙ ap (take 1) (tree_of w h).1

-- ---- every other string is a half of a later one

-- y is a half of some string of S
abbrev pub Half : List (List ℕ) → List ℕ → Type 0
Half S y = (z : List ℕ) × Has S z × (2 ≤ length z) × ((left_of z ≡ y) ⊎ (right_of z ≡ y))

extends_half : (S T : List (List ℕ)) (y : List ℕ) → Extends S T → Half S y → Half T y
extends_half S T y e (z, h, k, p) = (z, extends_has S T z e h, k, p)

visit_half : (S : List (List ℕ)) (t : Tree) → LyndonTree t → (y : List ℕ) → Has (visit S t) y
    → Has S y ⊎ ((y ≡ word t) ⊎ Half (visit S t) y)
unfolding visit word
visit_half S (leaf a) h y k = ⊎_elim (λ l. inl l) (λ e. inr (inl e)) (meet_cases S (a ∷ []) y k)
visit_half S (node l r) h y k =
    top (meet_cases T x y k) (λ m. visit_half (visit S l) r h.1 y m) (λ m. visit_half S l h.0 y m)
  where
    T : List (List ℕ)
    T = visit (visit S l) r

    x : List ℕ
    x = word l ++ word r

    Answer : Type 0
    Answer = Has S y ⊎ ((y ≡ x) ⊎ Half (meet T x) y)

    two : 2 ≤ length x
    two = simp length-append (omega (arith, word_filled l, word_filled r))

    in_left_part : Has S y ⊎ ((y ≡ word l) ⊎ Half (visit S l) y) → Answer
    in_left_part (inl m) = inl m
    in_left_part (inr (inl e)) = inr (inr (x, meet_has T x, two, inl (std_left (word l) (word r) h.2 ∙ sym e)))
    in_left_part (inr (inr m)) =
        inr (inr (extends_half T (meet T x) y (meet_extends T x) (extends_half (visit S l) T y (visit_extends (visit S l) r) m)))

    in_right_part : Has (visit S l) y ⊎ ((y ≡ word r) ⊎ Half T y) → (Has (visit S l) y → Has S y ⊎ ((y ≡ word l) ⊎ Half (visit S l) y)) → Answer
    in_right_part (inl m) il = in_left_part (il m)
    in_right_part (inr (inl e)) il = inr (inr (x, meet_has T x, two, inr (std_right (word l) (word r) h.2 ∙ sym e)))
    in_right_part (inr (inr m)) il = inr (inr (extends_half T (meet T x) y (meet_extends T x) m))

    top : Has T y ⊎ (y ≡ x) → (Has T y → Has (visit S l) y ⊎ ((y ≡ word r) ⊎ Half T y))
        → (Has (visit S l) y → Has S y ⊎ ((y ≡ word l) ⊎ Half (visit S l) y)) → Answer
    top (inl m) ir il = in_right_part (ir m) il
    top (inr e) ir il = inr (inl e)

-- string i, but for the last, is a half of a later string k
pub order_half : (w : List ℕ) → Lyndon w → (i : ℕ) → suc i < length (order w)
    → (k : ℕ) × (i < k) × (k < length (order w)) × (2 ≤ length (get_or (order w) k []))
    × ((left_of (get_or (order w) k []) ≡ get_or (order w) i []) ⊎ (right_of (get_or (order w) k []) ≡ get_or (order w) i []))
unfolding order
order_half w h i l = go (visit_half [] (lyndon_tree w) (tree_of w h).0 y has)
  where
    S : List (List ℕ)
    S = order w

    n : Numbered S
    n = order_numbered w h

    y : List ℕ
    y = get_or S i []

    at : index_of y S ≡ i
    at = n.once i (omega arith)

    has : Has S y
    has = omega (arith, at)

    go : Has [] y ⊎ ((y ≡ word (lyndon_tree w)) ⊎ Half S y)
        → (k : ℕ) × (i < k) × (k < length S) × (2 ≤ length (get_or S k [])) × ((left_of (get_or S k []) ≡ y) ⊎ (right_of (get_or S k []) ≡ y))
    go (inl m) = absurd (omega arith)
    go (inr (inl e)) =
        let root : get_or S (length S - 1) [] ≡ y = order_root w h ∙ sym (tree_of w h).1 ∙ sym e in
        let last : index_of y S ≡ length S - 1 = ap (λ (z : List ℕ). index_of z S) (sym root) ∙ n.once (length S - 1) (omega arith) in
        absurd (omega (arith, at))
    go (inr (inr (z, hz, two, half))) =
        let (p, q) = n.parts z hz two in
        let e = index_at z S hz in
        let before : index_of y S < index_of z S = ⊎_elim
        (λ x. subst (λ (v : List ℕ). index_of v S < index_of z S) x p)
        (λ x. subst (λ (v : List ℕ). index_of v S < index_of z S) x q) half in
        (index_of z S, omega (arith, at), hz, rw e two, rw e half)

-- ---- how many there are

-- how many symbols below n stand alone among the strings
pub ones : ℕ → List (List ℕ) → ℕ
ones n S = length (below (λ a. ltb (index_of (a ∷ []) S) (length S)) n)

ones_extend : (n : ℕ) (S T : List (List ℕ)) → Extends S T → ones n S ≤ ones n T
unfolding ones
ones_extend n S T e =
    count_le (λ a. ltb (index_of (a ∷ []) S) (length S)) (λ a. ltb (index_of (a ∷ []) T) (length T)) n
    (λ a l h. lt-ltb (index_of (a ∷ []) T) (length T) (extends_has S T (a ∷ []) e (ltb-true (index_of (a ∷ []) S) (length S) h)))

ones_more : (n : ℕ) (S T : List (List ℕ)) (a : ℕ) → a < n → Extends S T → length S ≤ index_of (a ∷ []) S → Has T (a ∷ []) → ones n S < ones n T
unfolding ones
ones_more n S T a l e new has =
    count_lt (λ c. ltb (index_of (c ∷ []) S) (length S)) (λ c. ltb (index_of (c ∷ []) T) (length T)) n a l
    (le-ltb (index_of (a ∷ []) S) (length S) new) (lt-ltb (index_of (a ∷ []) T) (length T) has)
    (λ c m h. lt-ltb (index_of (c ∷ []) T) (length T) (extends_has S T (c ∷ []) e (ltb-true (index_of (c ∷ []) S) (length S) h)))

meet_size : (S : List (List ℕ)) (x : List ℕ) → length (meet S x) ≤ suc (length S)
meet_size S x = split_le (length S) (index_of x S)
    (λ h. rw (meet_new S x h) (simp length-append (omega arith)))
    (λ h. rw (meet_old S x h) (omega arith))

-- a leaf adds a symbol that was not there, a node at most one string
visit_size : (n : ℕ) (S : List (List ℕ)) (t : Tree) → ((a : ℕ) → In a (word t) → a < n)
    → suc (length (visit S t) + ones n S) ≤ length S + ones n (visit S t) + length (word t)
unfolding visit word
visit_size n S (leaf a) s = split_le (length S) (index_of (a ∷ []) S)
    (λ h.
    let more = ones_more n S (meet S (a ∷ [])) a (s a (here refl)) (meet_extends S (a ∷ [])) h (meet_has S (a ∷ [])) in
    let size = meet_size S (a ∷ []) in
    omega arith)
    (λ h. rw (meet_old S (a ∷ []) h) (omega arith))
visit_size n S (node l r) s =
    let il = visit_size n S l (λ a i. s a (in_left (word r) i)) in
    let ir = visit_size n (visit S l) r (λ a i. s a (in_right (word l) i)) in
    let more = ones_extend n (visit (visit S l) r) (meet (visit (visit S l) r) (word l ++ word r)) (meet_extends (visit (visit S l) r) (word l ++ word r)) in
    let size = meet_size (visit (visit S l) r) (word l ++ word r) in
    let sum = length-append (word l) (word r) in
    omega arith

-- of the strings of a word over n symbols at most n are one symbol, and fewer than its length are not
pub order_apart : (n : ℕ) (w : List ℕ) → Lyndon w → ((a : ℕ) → In a w → a < n) → (ones n (order w) ≤ n) × (length (order w) < ones n (order w) + length w)
unfolding order ones
order_apart n w h s =
    let e = (tree_of w h).1 in
    let size = visit_size n [] (lyndon_tree w) (rw e s) in
    let most = below_length (λ a. ltb (index_of (a ∷ []) (order w)) (length (order w))) n in
    (omega (arith, most), omega (arith, size, ap length e))

-- together fewer than n and its length
pub order_size : (n : ℕ) (w : List ℕ) → Lyndon w → ((a : ℕ) → In a w → a < n) → length (order w) < n + length w
order_size n w h s = omega (arith, order_apart n w h s)
