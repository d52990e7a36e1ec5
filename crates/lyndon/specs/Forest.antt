-- The forest of a string, from right to left: a leaf, and while it is smaller than the next tree, their join.
-- Its trees are Lyndon trees whose words do not rise (`forest_good`); the first word is the longest Lyndon word that begins the
-- string (`longest_is`, `longest_fits`, `longest_most`); what follows the first tree is the forest of what follows its word (`forest_rest`); and the forest
-- of a Lyndon word is its Lyndon tree alone (`forest_one`).
use Rattle.std.specs.Prelude.{◌≡◌, refl, Bool, true, false, List, [], ◌∷◌, ◌++◌, ℕ, ◌≤◌, ◌<◌, length, take, drop}
use Rattle.std.proofs.Common.{sym, ◌∙◌, ap, subst, ⊎_elim, append_assoc, append-nil, arith, length-append}
use Rattle.std.proofs.Math.Seq.{take-append_seam, drop-append_seam}
use Rattle.definitions.specs.Words.{lexlt}
use Rattle.definitions.specs.Grammar.{Tree, leaf, node, word, lyndon_tree}
use Rattle.lists.specs.Numbers.{split_le}
use Rattle.lists.specs.Lists.{empty, Overlap, within, across, overlap}
use Rattle.lyndon.specs.Lexical.{Lt, lexlt_lt, lexlt_not, lt_trans, lt_prefix, not_lt}
use Rattle.lyndon.specs.Words.{Lyndon}
use Rattle.lyndon.specs.Factorization.{std_one, std_join}
use Rattle.lyndon.specs.Trees.{LyndonTree, word_filled, tree_lyndon, tree_unique}

-- a tree before a forest is joined with its trees while it is smaller than the next
unfoldable pub merge : Tree → List Tree → List Tree
merge t [] = t ∷ []
merge t (r ∷ f) = elim (lexlt (word t) (word r)) [ true ↦ merge (node t r) f | false ↦ t ∷ r ∷ f ]

unfoldable pub forest : List ℕ → List Tree
forest [] = []
forest (a ∷ s) = merge (leaf a) (forest s)

pub merge_true : (t r : Tree) (f : List Tree) → lexlt (word t) (word r) ≡ true → merge t (r ∷ f) ≡ merge (node t r) f
unfolding merge
merge_true t r f e = rw (e, merge)

pub merge_false : (t r : Tree) (f : List Tree) → lexlt (word t) (word r) ≡ false → merge t (r ∷ f) ≡ t ∷ r ∷ f
unfolding merge
merge_false t r f e = rw (e, merge)

-- ---- what a forest spells

unfoldable pub spells : List Tree → List ℕ
spells [] = []
spells (t ∷ f) = word t ++ spells f

merge_spells : (t : Tree) (f : List Tree) → spells (merge t f) ≡ word t ++ spells f
unfolding merge spells word
merge_spells t [] = refl
merge_spells t (r ∷ f) = go (lexlt (word t) (word r)) refl (merge_spells (node t r) f)
  where
    go : (b : Bool) → lexlt (word t) (word r) ≡ b → spells (merge (node t r) f) ≡ word (node t r) ++ spells f
        → spells (merge t (r ∷ f)) ≡ word t ++ (word r ++ spells f)
    go true e ih = rw (merge_true t r f e, ih, word, append_assoc)
    go false e ih = rw (merge_false t r f e)

pub forest_spells : (s : List ℕ) → spells (forest s) ≡ s
unfolding forest spells word
forest_spells [] = refl
forest_spells (a ∷ s) = merge_spells (leaf a) (forest s) ∙ ap (λ (x : List ℕ). a ∷ x) (forest_spells s)

-- ---- Lyndon trees that do not rise

-- the first word of f is not greater than t's
abbrev pub Above : Tree → List Tree → Type 0
Above t [] = Unit {0}
Above t (r ∷ f) = Lt (word t) (word r) → ⊥

abbrev pub Good : List Tree → Type 0
Good [] = Unit {0}
Good (t ∷ f) = LyndonTree t × Above t f × Good f

-- t may be joined with the first tree of f: its right part is not smaller
abbrev Ready : Tree → List Tree → Type 0
Ready (leaf a) f = Unit {0}
Ready (node x y) f = Above y f

joined : (t r : Tree) (f : List Tree) → LyndonTree t → LyndonTree r → Ready t (r ∷ f) → Lt (word t) (word r) → LyndonTree (node t r)
unfolding word
joined (leaf a) r f ht hr k l = (ht, hr, std_one a (word r) (tree_lyndon r hr), l)
joined (node x y) r f ht hr k l = (ht, hr, std_join (word x) (word y) (word r) ht.2 (tree_lyndon r hr) k, l)

merge_good : (t : Tree) (f : List Tree) → LyndonTree t → Good f → Ready t f → Good (merge t f)
unfolding merge
merge_good t [] ht g k = (ht, tt, tt)
merge_good t (r ∷ f) ht g k =
    go (lexlt (word t) (word r)) refl (λ l. merge_good (node t r) f (joined t r f ht g.0 k l) g.2 g.1)
  where
    go : (b : Bool) → lexlt (word t) (word r) ≡ b → (Lt (word t) (word r) → Good (merge (node t r) f)) → Good (merge t (r ∷ f))
    go true e ih = rw (merge_true t r f e) (ih (lexlt_lt (word t) (word r) e))
    go false e ih = rw (merge_false t r f e) (ht, lexlt_not (word t) (word r) e, g)

pub forest_good : (s : List ℕ) → Good (forest s)
unfolding forest
forest_good [] = tt
forest_good (a ∷ s) = merge_good (leaf a) (forest s) tt (forest_good s) tt

-- ---- the first word is the longest Lyndon word

-- t's word is not smaller than r's, and r's not smaller than y: t's is not smaller than y
not_rising : (t r y : List ℕ) → (Lt t r → ⊥) → (Lt r y → ⊥) → Lt t y → ⊥
not_rising t r y h k l = ⊎_elim (λ e. k (rw (← e) l)) (λ m. k (lt_trans r t y m l)) (not_lt t r h)

-- what begins the forest behind t ends in something that t's word is not smaller than
behind : (t : Tree) (f : List Tree) (x q : List ℕ) → Above t f → Good f → spells f ≡ x ++ q → 0 < length x
    → (z : List ℕ) × (y : List ℕ) × (x ≡ z ++ y) × (0 < length y) × (Lt (word t) y → ⊥)
unfolding spells
behind t [] x q a g e h = absurd (omega (arith, simp length-append at (ap length e)))
behind t (r ∷ f) x q a g e h =
    go (overlap x q (word r) (spells f) (sym e)) (λ k e' h'. behind r f k q g.1 g.2 e' h')
  where
    Part : Tree → List ℕ → Type 0
    Part s x = (z : List ℕ) × (y : List ℕ) × (x ≡ z ++ y) × (0 < length y) × (Lt (word s) y → ⊥)

    more : (k : List ℕ) → x ≡ word r ++ k → Part r k → Part t x
    more k p (z, y, e', n, l) = (word r ++ z, y, p ∙ ap (λ (s : List ℕ). word r ++ s) e' ∙ sym (append_assoc (word r) z y), n, not_rising (word t) (word r) y a l)

    go : Overlap x q (word r) (spells f) → ((k : List ℕ) → spells f ≡ k ++ q → 0 < length k → Part r k) → Part t x
    go (within k p s) ih =
        split_le (length k) 0
        (λ n. ([], word r, p ∙ ap (λ (s : List ℕ). word r ++ s) (empty k (omega arith)) ∙ append-nil (word r), word_filled r, a))
        (λ n. more k p (ih k s n))
    go (across k n p s) ih = ([], x, refl, h, λ l. a (lt_trans (word t) x (word r) l (rw p (lt_prefix x k n))))

first_longest : (t : Tree) (f : List Tree) (p q : List ℕ) → Good (t ∷ f) → spells (t ∷ f) ≡ p ++ q → Lyndon p
    → length p ≤ length (word t)
unfolding spells
first_longest t f p q g e l = go (overlap p q (word t) (spells f) (sym e))
  where
    go : Overlap p q (word t) (spells f) → length p ≤ length (word t)
    go (across k n u s) = omega (arith, simp length-append at (ap length u))
    go (within k u s) =
        split_le (length k) 0
        (λ n. omega (arith, simp length-append at (ap length u)))
        (λ n. absurd (no_longer n (behind t f k q g.1 g.2 s n)))
      where
        no_longer : 0 < length k → (z : List ℕ) × (y : List ℕ) × (k ≡ z ++ y) × (0 < length y) × (Lt (word t) y → ⊥) → ⊥
        no_longer n (z, y, e', m, no_less) =
            no_less
            (lt_trans (word t) p y
            (rw u (lt_prefix (word t) k n))
            (l.least (word t ++ z) y (simp length-append (omega (arith, word_filled t))) m
            (u ∙ ap (λ (s : List ℕ). word t ++ s) e' ∙ sym (append_assoc (word t) z y))))

-- the length of the first word of a forest
unfoldable pub first_length : List Tree → ℕ
first_length [] = 0
first_length (t ∷ f) = length (word t)

-- the length of the longest Lyndon word that begins s
unfoldable pub longest : List ℕ → ℕ
longest s = first_length (forest s)

-- so many symbols of s are one, s has so many, and no longer prefix of s is one
pub longest_is : (s : List ℕ) → 0 < length s → Lyndon (take (longest s) s)
unfolding longest first_length spells
longest_is s h = go (forest s) (forest_spells s) (forest_good s)
  where
    go : (f : List Tree) → spells f ≡ s → Good f → Lyndon (take (first_length f) s)
    go [] e g = absurd (omega (arith, ap length e))
    go (t ∷ f) e g = subst (λ (x : List ℕ). Lyndon (take (length (word t)) x)) e (rw take-append_seam (tree_lyndon t g.0))

pub longest_fits : (s : List ℕ) → longest s ≤ length s
unfolding longest first_length spells
longest_fits s = go (forest s) (forest_spells s)
  where
    go : (f : List Tree) → spells f ≡ s → first_length f ≤ length s
    go [] e = omega arith
    go (t ∷ f) e = omega (arith, simp length-append at (ap length e))

pub longest_most : (s p q : List ℕ) → s ≡ p ++ q → Lyndon p → length p ≤ longest s
unfolding longest first_length spells
longest_most s p q e l = go (forest s) (forest_spells s) (forest_good s)
  where
    go : (f : List Tree) → spells f ≡ s → Good f → length p ≤ first_length f
    go [] x g = absurd (omega (arith, l.filled, simp length-append at (ap length (x ∙ e))))
    go (t ∷ f) x g = first_longest t f p q g (x ∙ e) l

-- that length at each place of s
unfoldable pub longests : List ℕ → List ℕ
longests [] = []
longests (a ∷ s) = longest (a ∷ s) ∷ longests s

-- the forest of a Lyndon word is its Lyndon tree
pub forest_one : (w : List ℕ) → Lyndon w → forest w ≡ lyndon_tree w ∷ []
unfolding spells
forest_one w l = go (forest w) (forest_spells w) (forest_good w)
  where
    go : (f : List Tree) → spells f ≡ w → Good f → f ≡ lyndon_tree w ∷ []
    go [] e g = absurd (omega (arith, l.filled, ap length e))
    go (t ∷ []) e g =
        ap {B = List Tree} (λ x. x ∷ []) (sym (tree_unique t g.0) ∙ ap lyndon_tree (sym (append-nil (word t)) ∙ e))
    go (t ∷ r ∷ f) e g =
        let long = first_longest t (r ∷ f) w [] g (e ∙ sym (append-nil w)) l in
        absurd (omega (arith, simp length-append at (ap length e), word_filled r))

-- ---- what follows a tree of the forest

-- behind each tree stands the forest of what it spells
abbrev Closed : List Tree → Type 0
Closed [] = Unit {0}
Closed (t ∷ f) = (forest (spells f) ≡ f) × Closed f

merge_closed : (t : Tree) (f : List Tree) → forest (spells f) ≡ f → Closed f → Closed (merge t f)
unfolding merge
merge_closed t [] e c = (e, tt)
merge_closed t (r ∷ f) e c = go (lexlt (word t) (word r)) refl (merge_closed (node t r) f c.0 c.1)
  where
    go : (b : Bool) → lexlt (word t) (word r) ≡ b → Closed (merge (node t r) f) → Closed (merge t (r ∷ f))
    go true q ih = rw (merge_true t r f q) ih
    go false q ih = rw (merge_false t r f q) (e, c)

forest_closed : (s : List ℕ) → Closed (forest s)
unfolding forest
forest_closed [] = tt
forest_closed (a ∷ s) = merge_closed (leaf a) (forest s) (ap forest (forest_spells s)) (forest_closed s)

pub forest_rest : (s : List ℕ) (t : Tree) (f : List Tree) → forest s ≡ t ∷ f → forest (drop (length (word t)) s) ≡ f
unfolding spells
forest_rest s t f e =
    ap forest (ap (drop (length (word t))) (sym (forest_spells s) ∙ ap spells e) ∙ drop-append_seam (word t) (spells f))
    ∙ (subst Closed e (forest_closed s)).0
