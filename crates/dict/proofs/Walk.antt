-- The walk over a bucket: at each turn no rule from r on has the words that are looked for, so the newest such rule is among the first r.
use mathlib.Core.Path.{◌≡◌, refl, sym, ◌∙◌, ap, ap₂, subst}
use mathlib.Core.Bool.{true, false}
use mathlib.Core.List.{List}
use Prim.Native.Nat.{ℕ, suc, ◌+◌, ◌-◌, ◌*◌, ◌≤◌, ◌<◌}
use native.Mathlib.Omega.{arith}
use lib.ListN.{get_or}
use lib.Dec.{eqb}
use borrow.Author.Tests.{eqb-true, eq-eqb}
use Rattle.lists.specs.Bools.{and_left, and_right}
use Rattle.lists.specs.Newest.{latest, has_words, latest_true, latest_false, latest_le, latest_holds, latest_skip}
use Rattle.dict.specs.Dictionary.{bucket_of, in_bucket, Dict}

-- ---- rules and their buckets

rule_bucket : (t : List ℕ) (x y k : ℕ) → has_words t x y k ≡ true → in_bucket t (bucket_of x y) k ≡ true
unfolding has_words in_bucket
rule_bucket t x y k e =
    eq-eqb (bucket_of (get_or t (2 * k) 0) (get_or t (2 * k + 1) 0)) (bucket_of x y)
    (ap₂ {C = ℕ} (λ a b. bucket_of a b)
    (eqb-true (get_or t (2 * k) 0) x (and_left (eqb (get_or t (2 * k) 0) x) (eqb (get_or t (2 * k + 1) 0) y) e))
    (eqb-true (get_or t (2 * k + 1) 0) y (and_right (eqb (get_or t (2 * k) 0) x) (eqb (get_or t (2 * k + 1) 0) y) e)))

-- ---- the walk

-- r is one more than a rule of the bucket, or 0; it is at most n; and no rule from r on has the words x and y
pub record Walk (t : List ℕ) (n x y r : ℕ) : Type 0 where
  pub most : r ≤ n
  pub bucket : (q : ℕ) → r ≡ suc q → in_bucket t (bucket_of x y) q ≡ true
  pub rest : latest (has_words t x y) n ≡ latest (has_words t x y) r

skip : (t : List ℕ) (n m x y : ℕ) → m ≤ n → latest (has_words t x y) n ≡ latest (has_words t x y) m
    → Walk t n x y (latest (in_bucket t (bucket_of x y)) m)
skip t n m x y h e =
    record {
      most = omega (arith, latest_le (in_bucket t (bucket_of x y)) m);
      bucket = λ q p. latest_holds (in_bucket t (bucket_of x y)) m q p;
      rest = e ∙ latest_skip (has_words t x y) (in_bucket t (bucket_of x y)) m (rule_bucket t x y);
    }

pub walk_start : (t links : List ℕ) (n x y r : ℕ) → Dict t links n → bucket_of x y < 1024 → r ≡ get_or links (bucket_of x y) 0 → Walk t n x y r
walk_start t links n x y r d h e = subst (Walk t n x y) (sym (e ∙ d.heads (bucket_of x y) h)) (skip t n n x y (omega arith) refl)

-- rule r - 1 has other words
pub walk_next : (t links : List ℕ) (n x y r s : ℕ) → Dict t links n → Walk t n x y r → 0 < r → has_words t x y (r - 1) ≡ false → s ≡ get_or links (1024 + (r - 1)) 0
    → Walk t n x y s × (s < r)
unfolding in_bucket
walk_next t links n x y r s d w h f e = (
  subst (Walk t n x y) (sym next) (skip t n q x y (omega (arith, w.most)) (w.rest ∙ ap (latest (has_words t x y)) back ∙ latest_false (has_words t x y) q f)),
  omega (arith, next, latest_le (in_bucket t (bucket_of x y)) q),
)
  where
    q : ℕ
    q = r - 1

    back : r ≡ suc q
    back = omega arith

    next : s ≡ latest (in_bucket t (bucket_of x y)) q
    next =
        e
        ∙ d.nexts q (omega (arith, w.most))
        ∙ ap (λ (b : ℕ). latest (in_bucket t b) q) (eqb-true (bucket_of (get_or t (2 * q) 0) (get_or t (2 * q + 1) 0)) (bucket_of x y) (w.bucket q back))

-- rule r - 1 has the words
pub walk_found : (t : List ℕ) (n x y r : ℕ) → Walk t n x y r → 0 < r → has_words t x y (r - 1) ≡ true → latest (has_words t x y) n ≡ suc (r - 1)
walk_found t n x y r w h f = w.rest ∙ ap (latest (has_words t x y)) back ∙ latest_true (has_words t x y) (r - 1) f
  where
    back : r ≡ suc (r - 1)
    back = omega arith

-- nothing is left
pub walk_ended : (t : List ℕ) (n x y r : ℕ) → Walk t n x y r → r ≡ 0 → latest (has_words t x y) n ≡ 0
unfolding latest
walk_ended t n x y r w z = w.rest ∙ ap (latest (has_words t x y)) z
