-- The Lyndon tree of a word and the rules of its grammar (document 01, "Words on which the grammar stands").
use Rattle.std.specs.Prelude.{ℕ, zero, suc, true, false, cond, List, [], ◌∷◌, ◌++◌, map, length, take, drop, get_or, ltb}
use Rattle.definitions.specs.Words.{same, cut_of}

-- the standard factorization (u, v) of a Lyndon word of two or more symbols: v is the longest proper suffix that is a Lyndon word
unfoldable pub left_of : List ℕ → List ℕ
left_of w = take (cut_of w) w

unfoldable pub right_of : List ℕ → List ℕ
right_of w = drop (cut_of w) w

pub data Tree : Type 0 where
  leaf : ℕ → Tree
  node : Tree → Tree → Tree

-- the string of a tree's root
unfoldable pub word : Tree → List ℕ
word (leaf a) = a ∷ []
word (node l r) = word l ++ word r

-- the Lyndon tree: the word is split into u and v, and each again, down to single symbols. At most `depth` levels are made.
unfoldable pub split : ℕ → List ℕ → Tree
split zero w = leaf 0
split (suc depth) w =
    elim (ltb (length w) 2) [ true ↦ leaf (get_or w 0 0) | false ↦ node (split depth (left_of w)) (split depth (right_of w)) ]

unfoldable pub lyndon_tree : List ℕ → Tree
lyndon_tree w = split (length w) w

-- ---- numbering

-- where x first stands in a list of strings; the list's length if nowhere
unfoldable pub index_of : List ℕ → List (List ℕ) → ℕ
index_of x [] = zero
index_of x (y ∷ l) = cond (same x y) zero (suc (index_of x l))

-- the strings met so far, and x if it is new
unfoldable pub meet : List (List ℕ) → List ℕ → List (List ℕ)
meet met x = cond (ltb (index_of x met) (length met)) met (met ++ (x ∷ []))

-- a node is met after its left part and then its right part
unfoldable pub visit : List (List ℕ) → Tree → List (List ℕ)
visit met (leaf a) = meet met (a ∷ [])
visit met (node l r) = meet (visit (visit met l) r) (word l ++ word r)

-- the distinct strings of the Lyndon tree in the order in which they are first met: string number r has rule r
unfoldable pub order : List ℕ → List (List ℕ)
order w = visit [] (lyndon_tree w)

pub data Rule : Type 0 where
  symbol : ℕ → Rule
  pair : ℕ → ℕ → Rule

-- the rule of the string x: its one symbol, or the numbers of the rules of u and v
unfoldable pub rule_of : List (List ℕ) → List ℕ → Rule
rule_of met x =
    cond (ltb (length x) 2) (symbol (get_or x 0 0)) (pair (index_of (left_of x) met) (index_of (right_of x) met))

-- the rules of a word's grammar, by number
unfoldable pub rules_of : List ℕ → List Rule
rules_of w = map (rule_of (order w)) (order w)
