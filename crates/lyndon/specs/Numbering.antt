-- The strings of a Lyndon tree in the order in which they are first met: no string twice, none empty, each behind its parts
-- (`order_numbered`). That x stands among the strings S is `Has S x`: the index of x is below the length.
use Rattle.std.specs.Prelude.{◌≡◌, refl, true, false, ◌⊎◌, List, [], ◌∷◌, ◌++◌, ℕ, zero, suc, ◌≤◌, ◌<◌, length, get_or}
use Rattle.std.proofs.Common.{sym, ◌∙◌, ap, subst, inl, inr, ⊎_elim, arith, length-append, lt-ltb, le-ltb}
use Rattle.std.proofs.Math.ListN.{get_or-append}
use Rattle.std.proofs.Math.Seq.{get_or-append_seam}
use Rattle.definitions.specs.Words.{same}
use Rattle.definitions.specs.Grammar.{Tree, leaf, node, word, lyndon_tree, left_of, right_of, index_of, meet, visit, order}
use Rattle.lists.specs.Bools.{either}
use Rattle.lists.specs.Lists.{Extends, extends_self, extends_trans}
use Rattle.lists.specs.Numbers.{split_le, split_lt}
use Rattle.lists.specs.Strings.{same_eq, same_self, eq_same}
use Rattle.lyndon.specs.Words.{Lyndon}
use Rattle.lyndon.specs.Factorization.{Std, std_left, std_right}
use Rattle.lyndon.specs.Trees.{LyndonTree, word_filled, tree_of}

abbrev pub Has : List (List ℕ) → List ℕ → Type 0
Has S x = index_of x S < length S

-- ---- the index of a string

pub index_found : (x y : List ℕ) (S : List (List ℕ)) → same x y ≡ true → index_of x (y ∷ S) ≡ 0
unfolding index_of
index_found x y S e = rw (e, index_of)

pub index_later : (x y : List ℕ) (S : List (List ℕ)) → same x y ≡ false → index_of x (y ∷ S) ≡ suc (index_of x S)
unfolding index_of
index_later x y S e = rw (e, index_of)

pub index_le : (x : List ℕ) (S : List (List ℕ)) → index_of x S ≤ length S
unfolding index_of
index_le x [] = omega arith
index_le x (y ∷ S) = let ih = index_le x S in
    ⊎_elim (λ e. omega (arith, index_found x y S e)) (λ e. omega (arith, index_later x y S e)) (either (same x y))

-- at its index stands the string
pub index_at : (x : List ℕ) (S : List (List ℕ)) → Has S x → get_or S (index_of x S) [] ≡ x
unfolding index_of
index_at x [] h = absurd (omega arith)
index_at x (y ∷ S) h = ⊎_elim
    (λ e. rw (index_found x y S e) (sym (same_eq x y e)))
    (λ e. rw (index_later x y S e) (index_at x S (omega (arith, index_later x y S e))))
    (either (same x y))

-- and nowhere before
pub index_first : (x : List ℕ) (S : List (List ℕ)) (i : ℕ) → i < length S → get_or S i [] ≡ x → index_of x S ≤ i
index_first x [] i h e = absurd (omega arith)
index_first x (y ∷ S) zero h e = omega (arith, index_found x y S (eq_same x y (sym e)))
index_first x (y ∷ S) (suc i) h e = let ih = index_first x S i (omega arith) e in
    ⊎_elim (λ q. omega (arith, index_found x y S q)) (λ q. omega (arith, index_later x y S q)) (either (same x y))

-- more strings behind change no index
index_append : (x : List ℕ) (S M : List (List ℕ)) → Has S x → index_of x (S ++ M) ≡ index_of x S
unfolding index_of
index_append x [] M h = absurd (omega arith)
index_append x (y ∷ S) M h = ⊎_elim
    (λ e. index_found x y (S ++ M) e ∙ sym (index_found x y S e))
    (λ e. index_later x y (S ++ M) e ∙ ap suc (index_append x S M (omega (arith, index_later x y S e))) ∙ sym (index_later x y S e))
    (either (same x y))

index_new : (x : List ℕ) (S : List (List ℕ)) → length S ≤ index_of x S → index_of x (S ++ (x ∷ [])) ≡ length S
unfolding index_of
index_new x [] h = index_found x x [] (same_self x)
index_new x (y ∷ S) h = ⊎_elim
    (λ e. absurd (omega (arith, index_found x y S e)))
    (λ e. index_later x y (S ++ (x ∷ [])) e ∙ ap suc (index_new x S (omega (arith, index_later x y S e))))
    (either (same x y))

-- what stands among S and x stands in S, or is x
pub index_cases : (y x : List ℕ) (S : List (List ℕ)) → Has (S ++ (x ∷ [])) y → Has S y ⊎ (y ≡ x)
index_cases y x S h = split_le (length S) (index_of y S) new (λ l. inl l)
  where
    new : length S ≤ index_of y S → Has S y ⊎ (y ≡ x)
    new l = inr (sym (index_at y (S ++ (x ∷ [])) h) ∙ at (index_of y (S ++ (x ∷ []))) refl)
      where
        at : (i : ℕ) → i ≡ index_of y (S ++ (x ∷ [])) → get_or (S ++ (x ∷ [])) i [] ≡ x
        at i e = split_lt i (length S)
            (λ k.
            let low = index_first y S i k (sym (get_or-append S (x ∷ []) [] i k) ∙ ap (λ (j : ℕ). get_or (S ++ (x ∷ [])) j []) e ∙ index_at y (S ++ (x ∷ [])) h) in
            absurd (omega arith))
            (λ k. rw k (get_or-append_seam S x [] []))
            (λ k. absurd (omega (arith, simp length-append at h)))

has_append : (x : List ℕ) (S M : List (List ℕ)) → Has S x → Has (S ++ M) x
has_append x S M h = rw (index_append x S M h) (simp length-append (omega arith))

-- ---- one string more

pub meet_old : (S : List (List ℕ)) (x : List ℕ) → Has S x → meet S x ≡ S
unfolding meet
meet_old S x h = rw (lt-ltb (index_of x S) (length S) h)

pub meet_new : (S : List (List ℕ)) (x : List ℕ) → length S ≤ index_of x S → meet S x ≡ S ++ (x ∷ [])
unfolding meet
meet_new S x h = rw (le-ltb (index_of x S) (length S) h)

pub meet_has : (S : List (List ℕ)) (x : List ℕ) → Has (meet S x) x
meet_has S x = split_le (length S) (index_of x S)
    (λ h. rw (meet_new S x h, index_new x S h) (simp length-append (omega arith)))
    (λ h. rw (meet_old S x h) h)

pub meet_index : (S : List (List ℕ)) (x : List ℕ) → index_of x (meet S x) ≡ index_of x S
meet_index S x = split_le (length S) (index_of x S)
    (λ h. rw (meet_new S x h, index_new x S h) (omega (arith, index_le x S)))
    (λ h. rw (meet_old S x h))

pub extends_has : (S T : List (List ℕ)) (x : List ℕ) → Extends S T → Has S x → Has T x
extends_has S T x (M, e) h = rw e (has_append x S M h)

pub extends_index : (S T : List (List ℕ)) (x : List ℕ) → Extends S T → Has S x → index_of x T ≡ index_of x S
extends_index S T x (M, e) h = rw e (index_append x S M h)

pub meet_extends : (S : List (List ℕ)) (x : List ℕ) → Extends S (meet S x)
meet_extends S x = split_le (length S) (index_of x S)
    (λ h. (x ∷ [], meet_new S x h))
    (λ h. rw (meet_old S x h) (extends_self S))

pub visit_extends : (S : List (List ℕ)) (t : Tree) → Extends S (visit S t)
unfolding visit
visit_extends S (leaf a) = meet_extends S (a ∷ [])
visit_extends S (node l r) =
    extends_trans S (visit S l) (meet (visit (visit S l) r) (word l ++ word r)) (visit_extends S l)
    (extends_trans (visit S l) (visit (visit S l) r) (meet (visit (visit S l) r) (word l ++ word r)) (visit_extends (visit S l) r)
    (meet_extends (visit (visit S l) r) (word l ++ word r)))

-- ---- strings that are numbered: each once, not empty, behind its parts

pub record Numbered (S : List (List ℕ)) : Type 0 where
  pub once : (i : ℕ) → i < length S → index_of (get_or S i []) S ≡ i
  pub filled : (x : List ℕ) → Has S x → 0 < length x
  pub parts : (x : List ℕ) → Has S x → 2 ≤ length x → (index_of (left_of x) S < index_of x S) × (index_of (right_of x) S < index_of x S)

pub none_numbered : Numbered []
none_numbered =
    record {
      once = λ i h. absurd (omega arith);
      filled = λ x h. absurd (omega arith);
      parts = λ x h. absurd (omega arith);
    }

-- both parts of x stand in S, if it has parts
abbrev pub Fits : List (List ℕ) → List ℕ → Type 0
Fits S x = 2 ≤ length x → Has S (left_of x) × Has S (right_of x)

pub parts_fit : (S : List (List ℕ)) → Numbered S → (x : List ℕ) → Has S x → Fits S x
parts_fit S n x h k = let (p, q) = n.parts x h k in (omega arith, omega arith)

meet_numbered : (S : List (List ℕ)) (x : List ℕ) → Numbered S → 0 < length x → Fits S x → Numbered (meet S x)
meet_numbered S x n hx fit = split_le (length S) (index_of x S)
    (λ h. rw (meet_new S x h) (record { once = once h; filled = filled h; parts = parts h }))
    (λ h. rw (meet_old S x h) n)
  where
    T : List (List ℕ)
    T = S ++ (x ∷ [])

    once : length S ≤ index_of x S → (i : ℕ) → i < length T → index_of (get_or T i []) T ≡ i
    once h i k = split_lt i (length S)
        (λ l.
        let e = get_or-append S (x ∷ []) [] i l in
        let here : Has S (get_or S i []) = omega (arith, n.once i l) in
        rw (e, index_append (get_or S i []) S (x ∷ []) here) (n.once i l))
        (λ l. rw (l, get_or-append_seam S x [] []) (index_new x S h))
        (λ l. absurd (omega (arith, simp length-append at k)))

    filled : length S ≤ index_of x S → (y : List ℕ) → Has T y → 0 < length y
    filled h y k = ⊎_elim (λ l. n.filled y l) (λ e. rw e hx) (index_cases y x S k)

    parts : length S ≤ index_of x S → (y : List ℕ) → Has T y → 2 ≤ length y → (index_of (left_of y) T < index_of y T) × (index_of (right_of y) T < index_of y T)
    parts h y k two = ⊎_elim old new (index_cases y x S k)
      where
        old : Has S y → (index_of (left_of y) T < index_of y T) × (index_of (right_of y) T < index_of y T)
        old l =
            let (p, q) = parts_fit S n y l two in
            rw (index_append y S (x ∷ []) l, index_append (left_of y) S (x ∷ []) p, index_append (right_of y) S (x ∷ []) q) (n.parts y l two)

        new : y ≡ x → (index_of (left_of y) T < index_of y T) × (index_of (right_of y) T < index_of y T)
        new e =
            let (p, q) = fit (subst (λ (z : List ℕ). 2 ≤ length z) e two) in
            rw (e, index_new x S h, index_append (left_of x) S (x ∷ []) p, index_append (right_of x) S (x ∷ []) q) (p, q)

-- the parts of a node's word stand among the strings once both subtrees are visited
pub node_fits : (S : List (List ℕ)) (l r : Tree) → Std (word l) (word r) → Has S (word l) → Has S (word r) → Fits S (word l ++ word r)
node_fits S l r d hl hr k = rw (std_left (word l) (word r) d, std_right (word l) (word r) d) (hl, hr)

pub visit_has : (S : List (List ℕ)) (t : Tree) → Has (visit S t) (word t)
unfolding visit word
visit_has S (leaf a) = meet_has S (a ∷ [])
visit_has S (node l r) = meet_has (visit (visit S l) r) (word l ++ word r)

pub visit_numbered : (S : List (List ℕ)) (t : Tree) → LyndonTree t → Numbered S → Numbered (visit S t)
unfolding visit
visit_numbered S (leaf a) h n = meet_numbered S (a ∷ []) n (omega arith) (λ k. absurd (omega arith))
visit_numbered S (node l r) h n =
    meet_numbered T (word l ++ word r) (visit_numbered (visit S l) r h.1 (visit_numbered S l h.0 n))
    (simp length-append (omega (arith, word_filled l)))
    (node_fits T l r h.2
    (extends_has (visit S l) T (word l) (visit_extends (visit S l) r) (visit_has S l))
    (visit_has (visit S l) r))
  where
    T : List (List ℕ)
    T = visit (visit S l) r

pub order_numbered : (w : List ℕ) → Lyndon w → Numbered (order w)
unfolding order
order_numbered w h = visit_numbered [] (lyndon_tree w) (tree_of w h).0 none_numbered
