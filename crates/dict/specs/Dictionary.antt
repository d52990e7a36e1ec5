-- A dictionary of rules by their two words. The rules stand in t, two words each; the links hold 1,024 buckets and then a link for
-- each rule. A bucket holds one more than its newest rule, 0 if it has none; a rule's link the same among the rules before it.
use Rattle.std.specs.Prelude.{◌≡◌, Bool, List, ℕ, suc, Option, MatchOption, ◌+◌, ◌*◌, ◌/◌, ◌%◌, ◌<◌, get_or, eqb}
use Rattle.lists.specs.Newest.{latest}

-- the bucket of the words x and y
unfoldable pub bucket_of : ℕ → ℕ → ℕ
bucket_of x y = (x * 1640531527 + y * 374761392) / 2097152 % 1024

-- rule r is in the bucket b
unfoldable pub in_bucket : List ℕ → ℕ → ℕ → Bool
in_bucket t b r = eqb (bucket_of (get_or t (2 * r) 0) (get_or t (2 * r + 1) 0)) b

-- the links are those of the first n rules
pub record Dict (t links : List ℕ) (n : ℕ) : Type 0 where
  pub heads : (b : ℕ) → b < 1024 → get_or links b 0 ≡ latest (in_bucket t b) n
  pub nexts : (r : ℕ) → r < n → get_or links (1024 + r) 0 ≡ latest (in_bucket t (bucket_of (get_or t (2 * r) 0) (get_or t (2 * r + 1) 0))) r

-- the greatest number below n of which f holds
abbrev pub IsLatest : (ℕ → Bool) → ℕ → Option ℕ → Type 0
IsLatest f n r = MatchOption r (latest f n ≡ 0) (λ k. latest f n ≡ suc k)
