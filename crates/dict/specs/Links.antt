-- The links of a dictionary: cleared buckets are those of no rule (`dict_none`), and a rule that is stored and linked is one rule more
-- (`dict_more`).
use Rattle.std.specs.Prelude.{◌≡◌, Bool, List, ℕ, suc, ◌+◌, ◌*◌, ◌≤◌, ◌<◌, length, set}
use Rattle.std.proofs.Math.Path.{sym, ap, ap₂}
use Rattle.std.proofs.Common.{◌∙◌, arith}
use Rattle.std.proofs.Math.Numerals.{add-one}
use Rattle.std.proofs.Math.ListN.{get_or, length-set}
use Rattle.std.proofs.Math.Seq.{get_or-set_same, get_or-set_other}
use Rattle.std.proofs.Math.Dec.{eqb}
use borrow.Author.Tests.{eq-eqb, ne_eqb}
use Rattle.lists.specs.Numbers.{split_lt}
use Rattle.lists.specs.Newest.{latest, latest_true, latest_false, latest_ext}
use Rattle.dict.specs.Dictionary.{bucket_of, in_bucket, Dict}

pub bucket_small : (x y : ℕ) → bucket_of x y < 1024
unfolding bucket_of
bucket_small x y = omega arith

pub dict_none : (t links : List ℕ) → ((b : ℕ) → b < 1024 → get_or links b 0 ≡ 0) → Dict t links 0
unfolding latest
dict_none t links h = record { heads = h; nexts = λ r l. absurd (omega arith) }

-- the links once rule n with the words x and y is linked
unfoldable pub linked : List ℕ → ℕ → ℕ → ℕ → List ℕ
linked links n x y = set (set links (1024 + n) (get_or links (bucket_of x y) 0)) (bucket_of x y) (n + 1)

module _ (t u links : List ℕ) (n x y : ℕ) (d : Dict t links n) (long : 1024 + n < length links)
    (old : (k : ℕ) → k < 2 * n → get_or u k 0 ≡ get_or t k 0) (first : get_or u (2 * n) 0 ≡ x) (second : get_or u (2 * n + 1) 0 ≡ y) where
  same_bucket : (b r : ℕ) → r < n → in_bucket u b r ≡ in_bucket t b r
  unfolding in_bucket
  same_bucket b r h = ap₂ {C = Bool} (λ p q. eqb (bucket_of p q) b) (old (2 * r) (omega arith)) (old (2 * r + 1) (omega arith))

  same_latest : (b m : ℕ) → m ≤ n → latest (in_bucket u b) m ≡ latest (in_bucket t b) m
  same_latest b m h = latest_ext (in_bucket u b) (in_bucket t b) m (λ r l. same_bucket b r (omega arith))

  new_bucket : (b : ℕ) → in_bucket u b n ≡ eqb (bucket_of x y) b
  unfolding in_bucket
  new_bucket b = ap₂ {C = Bool} (λ p q. eqb (bucket_of p q) b) first second

  small : bucket_of x y < 1024
  small = bucket_small x y

  inner : List ℕ
  inner = set links (1024 + n) (get_or links (bucket_of x y) 0)

  heads : (b : ℕ) → b < 1024 → get_or (linked links n x y) b 0 ≡ latest (in_bucket u b) (suc n)
  unfolding linked inner
  heads b h = split_lt b (bucket_of x y) (λ l. other (λ e. omega arith)) (λ e. here e) (λ l. other (λ e. omega arith))
    where
      here : b ≡ bucket_of x y → get_or (linked links n x y) b 0 ≡ latest (in_bucket u b) (suc n)
      here e =
          ap (λ (k : ℕ). get_or (linked links n x y) k 0) e
          ∙ get_or-set_same inner (bucket_of x y) (n + 1) 0 (simp length-set (omega (arith, small)))
          ∙ add-one n
          ∙ sym (latest_true (in_bucket u b) n (new_bucket b ∙ eq-eqb (bucket_of x y) b (sym e)))

      other : (b ≡ bucket_of x y → ⊥) → get_or (linked links n x y) b 0 ≡ latest (in_bucket u b) (suc n)
      other ne =
          get_or-set_other inner (bucket_of x y) b (n + 1) 0 ne
          ∙ get_or-set_other links (1024 + n) b (get_or links (bucket_of x y) 0) 0 (λ e. omega arith)
          ∙ d.heads b h
          ∙ sym (same_latest b n (omega arith))
          ∙ sym (latest_false (in_bucket u b) n (new_bucket b ∙ ne_eqb (bucket_of x y) b (λ e. ne (sym e))))

  nexts : (r : ℕ) → r < suc n → get_or (linked links n x y) (1024 + r) 0 ≡ latest (in_bucket u (bucket_of (get_or u (2 * r) 0) (get_or u (2 * r + 1) 0))) r
  unfolding linked inner
  nexts r h = split_lt r n before (λ e. here e) (λ l. absurd (omega arith))
    where
      outer : get_or (linked links n x y) (1024 + r) 0 ≡ get_or inner (1024 + r) 0
      outer = get_or-set_other inner (bucket_of x y) (1024 + r) (n + 1) 0 (λ e. omega (arith, small))

      before : r < n → get_or (linked links n x y) (1024 + r) 0 ≡ latest (in_bucket u (bucket_of (get_or u (2 * r) 0) (get_or u (2 * r + 1) 0))) r
      before l =
          outer
          ∙ get_or-set_other links (1024 + n) (1024 + r) (get_or links (bucket_of x y) 0) 0 (λ e. omega arith)
          ∙ d.nexts r l
          ∙ ap₂ {C = ℕ} (λ p q. latest (in_bucket t (bucket_of p q)) r) (sym (old (2 * r) (omega arith))) (sym (old (2 * r + 1) (omega arith)))
          ∙ sym (same_latest (bucket_of (get_or u (2 * r) 0) (get_or u (2 * r + 1) 0)) r (omega arith))

      here : r ≡ n → get_or (linked links n x y) (1024 + r) 0 ≡ latest (in_bucket u (bucket_of (get_or u (2 * r) 0) (get_or u (2 * r + 1) 0))) r
      here e =
          outer
          ∙ ap (λ (k : ℕ). get_or inner (1024 + k) 0) e
          ∙ get_or-set_same links (1024 + n) (get_or links (bucket_of x y) 0) 0 long
          ∙ d.heads (bucket_of x y) small
          ∙ sym (same_latest (bucket_of x y) n (omega arith))
          ∙ ap₂ {C = ℕ} (λ p q. latest (in_bucket u (bucket_of p q)) n) (sym first) (sym second)
          ∙ ap (λ (k : ℕ). latest (in_bucket u (bucket_of (get_or u (2 * k) 0) (get_or u (2 * k + 1) 0))) k) (sym e)

  pub dict_more : Dict u (linked links n x y) (suc n)
  dict_more = record { heads = heads; nexts = nexts }
