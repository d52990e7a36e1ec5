-- Live cuts of a pattern, its occurrences, and those at the join of a pair rule (document 01, "Live cuts" and "Finds and joins"); which live cuts
-- are listed, and the tests of a search (document 02, S-3 and S-4). A pattern is document 01's motif, an occurrence its find; `live cut` is document 01's own term.
use Rattle.std.specs.Prelude.{ℕ, zero, suc, ◌+◌, ◌-◌, Bool, false, cond, not, ◌&&◌, ◌||◌, List, [], ◌∷◌, ◌++◌, map, length, take, drop, ltb, leb, eqb}
use Rattle.definitions.specs.declared.Order.{Order}
use Rattle.definitions.specs.Words.{every, below, begins, lexlt, lyndon}
use Rattle.definitions.specs.Table.{rank_of, rule_count, is_pair, left_half, right_half}

-- ---- live cuts

-- the tails x and y agree as far as the shorter one goes, or x is the smaller where they first differ
unfoldable pub not_greater_at_difference : List ℕ → List ℕ → Bool
not_greater_at_difference x y = begins x y || (begins y x || lexlt x y)

-- the cut c is live: its tail is so beside the tail of every cut d, from 1 on (its own tail passes too)
unfoldable pub is_live : List ℕ → ℕ → Bool
is_live p c = ltb 0 c && every (λ d. eqb d 0 || not_greater_at_difference (drop c p) (drop d p)) (length p)

-- the live cuts of a string, from 1 to its length less 1, rising, each once
unfoldable pub live_cuts : List ℕ → List ℕ
live_cuts p = below (is_live p) (length p)

-- ---- the live cuts that are listed

-- the stretch of p from d to c is a Lyndon word, the tail from c on begins with it, and the tail is longer than it
unfoldable pub word_again : List ℕ → ℕ → ℕ → Bool
word_again p d c =
    let w = take (c - d) (drop d p) in
    lyndon w && (begins w (drop c p) && ltb (length w) (length (drop c p)))

-- the cut c is listed: it is live, and this is so of no earlier cut d, from 1 on
unfoldable pub is_listed : List ℕ → ℕ → Bool
is_listed p c = is_live p c && every (λ d. eqb d 0 || not (word_again p d c)) c

-- the listed cuts of a string, rising, each once
unfoldable pub listed_cuts : List ℕ → List ℕ
listed_cuts p = below (is_listed p) (length p)

-- the listed cuts of a pattern of samples
unfoldable pub pattern_cuts : Order → List ℕ → List ℕ
pattern_cuts o p = listed_cuts (map (rank_of o) p)

-- ---- occurrences

-- the places of s at which p begins, rising, each once; they may overlap
unfoldable pub occurrences : List ℕ → List ℕ → List ℕ
occurrences p s = below (λ i. begins p (drop i s)) (suc (length s))

-- ---- joins: u and v are the halves of a pair rule

-- an occurrence of p at i has symbols in both halves
unfoldable pub straddles : List ℕ → List ℕ → ℕ → Bool
straddles p u i = ltb i (length u) && ltb (length u) (i + length p)

-- the occurrences that straddle the join
unfoldable pub straddling : List ℕ → List ℕ → List ℕ → List ℕ
straddling p u v = below (λ i. begins p (drop i (u ++ v)) && straddles p u i) (suc (length (u ++ v)))

-- place i is the length of u less c, for some c of the list
unfoldable pub cut_in : List ℕ → List ℕ → ℕ → Bool
cut_in [] u i = false
cut_in (c ∷ cuts) u i = eqb (i + c) (length u) || cut_in cuts u i

-- the occurrences that are cut at the join at one of these cuts
unfoldable pub cut_at : List ℕ → List ℕ → List ℕ → List ℕ → List ℕ
cut_at p cuts u v = below (λ i. begins p (drop i (u ++ v)) && cut_in cuts u i) (suc (length (u ++ v)))

-- ---- tests: t is a table, p a pattern of samples

-- the cut c of m samples fits a join with so many symbols on its left and on its right; the mark is a symbol
unfoldable pub fits_join : ℕ → ℕ → ℕ → ℕ → Bool
fits_join m left right c = leb c left && leb (m - c) right

-- rule r is tested at the cut c of m samples: it is a pair rule, and the cut fits its join
unfoldable pub is_tested : Order → List ℕ → ℕ → ℕ → ℕ → Bool
is_tested o t m r c = is_pair t r && fits_join m (length (left_half o t r)) (length (right_half o t r)) c

-- a test: a pair rule and a cut
pub record Test : Type 0 where
  pub rule : ℕ
  pub cut : ℕ

-- the tests of rule r at those of these cuts that fit
unfoldable pub tests_of : Order → List ℕ → ℕ → List ℕ → ℕ → List Test
tests_of o t m [] r = []
tests_of o t m (c ∷ cuts) r = cond (is_tested o t m r c) (record { rule = r; cut = c } ∷ []) [] ++ tests_of o t m cuts r

-- the tests of the first n rules
unfoldable pub tests_below : Order → List ℕ → ℕ → List ℕ → ℕ → List Test
tests_below o t m cuts zero = []
tests_below o t m cuts (suc n) = tests_below o t m cuts n ++ tests_of o t m cuts n

-- the tests of a search: every rule of the table, every listed cut of the pattern
unfoldable pub tests : Order → List ℕ → List ℕ → List Test
tests o t p = tests_below o t (length p) (pattern_cuts o p) (rule_count t)
