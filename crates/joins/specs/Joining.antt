-- What is said of a join: the cut at which an occurrence straddles it (`JoinCut`, with `cut_place`; as one word `Packed`), the cuts that are tried (`Tried`), and those whose tails fit (`FitsFrom`, `longest_tail`). w is the work slice, where the ranks
-- of the pattern stand from PATTERN on and its cuts from CUTS on.
use Rattle.std.specs.Prelude.{◌≡◌, cond, List, [], ◌∷◌, ℕ, zero, suc, ◌+◌, ◌-◌, ◌/◌, ◌%◌, ◌≤◌, ◌<◌, min, length, get_or, eqb}
use Rattle.definitions.specs.Occurrences.{listed_cuts, straddling}
use Rattle.lists.specs.Parts.{part}
use Rattle.lyndon.specs.Factorization.{Std}
use Rattle.layout.specs.Layout.{PATTERN, CUTS, NO_CUT, PACK}

-- the pattern has m symbols, and the n cuts that are tried are its own; NO_CUT stands behind them
pub record Tried (m n : ℕ) (w : List ℕ) : Type 0 where
  pub filled : 0 < m
  pub short : m ≤ 2047
  pub few : n ≤ 11
  pub cuts : part CUTS n w ≡ listed_cuts (part PATTERN m w)
  pub end : get_or w (CUTS + n) 0 ≡ NO_CUT

-- where a join stands at `join`, the cut c of m symbols has room on both sides of it
pub record Fitting (m c join : ℕ) : Type 0 where
  pub some : 0 < c
  pub inside : c < m
  pub short : m ≤ 2047
  pub front : c ≤ join
  pub tail : join + (m - c) ≤ 2048

-- the longest tail of these cuts: that of the first, 0 where there is none
unfoldable pub longest_tail : ℕ → ℕ → List ℕ → ℕ
longest_tail m n w = cond (eqb n 0) 0 (m - get_or w CUTS 0)

-- the cuts from number i on are those whose tails have at most `right` samples
pub record FitsFrom (i m n right : ℕ) (w : List ℕ) : Type 0 where
  pub most : i ≤ n
  pub before : (j : ℕ) → j < i → right < m - get_or w (CUTS + j) 0
  pub behind : (j : ℕ) → i ≤ j → j < n → m - get_or w (CUTS + j) 0 ≤ right

-- the place of an occurrence cut at c at a join behind n symbols; none where c is 0
unfoldable pub cut_place : ℕ → ℕ → List ℕ
cut_place n zero = []
cut_place n (suc c) = (n - suc c) ∷ []

-- where u and v are a standard factorization, c is the cut at which an occurrence straddles their join, 0 if none does
pub record JoinCut (p u v : List ℕ) (c : ℕ) : Type 0 where
  pub small : c < length p
  pub inside : c ≤ length u
  pub place : Std u v → straddling p u v ≡ cut_place (length u) c

-- x is PACK and that cut; 0 if no occurrence straddles
pub record Packed (p u v : List ℕ) (x : ℕ) : Type 0 where
  pub cut : JoinCut p u v (x % PACK)
  pub number : x / PACK ≡ min 1 (x % PACK)
