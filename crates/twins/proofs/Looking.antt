-- A rule looked up among those before it: it is a second mark (`second_mark`), or surely new (`first_new`, `left_before`, `right_before`), or the dictionary
-- decides (`looked_up`). Then it is linked (`linked_more`). The buckets begin cleared (`linked_none`); in the end no rule but rule 0 is the mark (`only_mark`).
use mathlib.Core.Path.{◌≡◌, refl, sym, ◌∙◌, ap, subst}
use mathlib.Core.Bool.{true, false}
use mathlib.Core.Logic.{inl, inr}
use mathlib.Core.List.{List, ◌++◌}
use Prim.Native.Nat.{ℕ, ◌+◌, ◌*◌, ◌<◌}
use native.Mathlib.Omega.{arith}
use native.Mathlib.Nat.{zero-add}
use native.Mathlib.Numerals.{add-one}
use lib.ListN.{length, take, drop, get_or, set, replicate, length-set, length-append, length-drop, length-replicate, get_or-replicate, get_or-append}
use lib.Seq.{length-take-le}
use lib.Dec.{eqb}
use borrow.Author.Tests.{eq-eqb, ne_eqb}
use Rattle.definitions.specs.declared.Order.{Order}
use Rattle.definitions.specs.Words.{every}
use Rattle.definitions.specs.Table.{word_of, kind_of, rule_count, is_table}
use Rattle.lists.specs.Bools.{contra, not_so, and_intro}
use Rattle.lists.specs.Numbers.{every_at}
use Rattle.lists.specs.Newest.{latest, newest, has_words, newest_bound}
use Rattle.lyndon.specs.Ruled.{Ruled, symbol, pair, ruled}
use Rattle.lyndon.specs.Twins.{is_new, twin_symbol, new_none, new_no_twin}
use Rattle.lyndon.specs.Lookup.{pair_new, symbol_found, half_new}
use Rattle.lyndon.specs.Accepted.{accepted_mark, accepted_samples}
use Rattle.lyndon.specs.Judging.{judged}
use Rattle.std.specs.Prelude.{Bool, Option, Some, None, is_none}
use Rattle.dict.specs.Dictionary.{bucket_of, Dict, IsLatest}
use Rattle.dict.specs.Links.{linked, dict_none, dict_more}
use Rattle.lengths.specs.Lengths.{InShape}
use Rattle.lengths.proofs.Sizes.{rules_few}
use Rattle.twins.specs.Twins.{Linked, Distinct}

-- ---- the first rule

pub no_mark : (t : List ℕ) → (get_or t 0 0 ≡ 0 → ⊥) → (o : Order) → is_table o t ≡ false
no_mark t n o = not_so (is_table o t) (λ a. n (accepted_mark o t a))

pub first_new : (t : List ℕ) → is_new t 0 ≡ true
first_new t = new_none t 0 (λ i l. absurd (omega arith))

-- ---- rule r, once those before it are linked

module _ {t w : List ℕ} {r : ℕ} (k : Linked t r w) (h : r < rule_count t) where
  pub second_mark : 0 < r → get_or t (2 * r) 0 ≡ 0 → (o : Order) → is_table o t ≡ false
  second_mark l e o = not_so (is_table o t) (λ a. accepted_samples o t a r l h e)

  pub not_new : is_new t r ≡ false → (o : Order) → is_table o t ≡ false
  not_new f o = not_so (is_table o t) (λ a. contra (every_at (is_new t) (rule_count t) ((judged o t k.lent.shaped).0 a).distinct r h) f)

  pub left_before : get_or t (2 * r) 0 + 1 ≡ 1073741824 + r → is_new t r ≡ true
  unfolding word_of
  left_before e = go (ruled t k.lent.shaped r h)
    where
      go : Ruled t r → is_new t r ≡ true
      go (symbol a b p) = absurd (omega (arith, p.first, p.number))
      go (pair u v p) = half_new t k.lent.shaped h p (inl (omega (arith, p.first)))

  pub right_before : get_or t (2 * r + 1) 0 + 1 ≡ 2147483648 + r → is_new t r ≡ true
  unfolding word_of
  right_before e = go (ruled t k.lent.shaped r h)
    where
      go : Ruled t r → is_new t r ≡ true
      go (symbol a b p) = absurd (omega (arith, p.second, rules_few k.lent))
      go (pair u v p) = half_new t k.lent.shaped h p (inr (omega (arith, p.second)))

  -- m is what the dictionary finds
  pub looked_up : (get_or t (2 * r) 0 ≡ 0 → ⊥) → (m : Option ℕ) → IsLatest (has_words t (get_or t (2 * r) 0) (get_or t (2 * r + 1) 0)) r m → is_new t r ≡ is_none m
  looked_up n m e = go (ruled t k.lent.shaped r h) ∙ newest_bound found r ∙ none m e
    where
      found : ℕ → Bool
      found = has_words t (get_or t (2 * r) 0) (get_or t (2 * r + 1) 0)

      go : Ruled t r → is_new t r ≡ eqb (newest found r) r
      go (symbol a b p) = symbol_found t k.lent.shaped k.mark p h n
      go (pair u v p) = pair_new t r p.kind

      none : (m : Option ℕ) → IsLatest found r m → eqb (latest found r) 0 ≡ is_none m
      none None e = eq-eqb (latest found r) 0 e
      none (Some q) e = ne_eqb (latest found r) 0 (λ z. omega arith)

  pub linked_more : is_new t r ≡ true → (v : List ℕ)
      → v ≡ set (set w (0 + 1024 + r) (get_or w (0 + bucket_of (get_or t (2 * r) 0) (get_or t (2 * r + 1) 0)) 0)) (0 + bucket_of (get_or t (2 * r) 0) (get_or t (2 * r + 1) 0)) (r + 1)
      → Linked t (r + 1) v
  unfolding every linked
  linked_more n v e =
      let x = get_or t (2 * r) 0 in
      let y = get_or t (2 * r + 1) 0 in
      let few = rules_few k.lent in
      let long = k.lent.long in
      let same : v ≡ linked w r x y = e ∙ simp zero-add in
      rw same record {
        lent = record { shaped = k.lent.shaped; few = k.lent.few; long = simp (length-set, length-set) long };
        mark = k.mark;
        dict = subst (Dict t (linked w r x y)) (sym (add-one r)) (dict_more t t w r x y k.dict (omega arith) (λ i l. refl) refl refl);
        new = rw add-one (and_intro (every (is_new t) r) (is_new t r) k.new n);
      }

-- ---- the beginning and the end

-- the 1,024 buckets are cleared
pub linked_none : (t w l : List ℕ) → InShape t w → get_or t 0 0 ≡ 0 → l ≡ replicate (length (take 1024 w)) 0 → Linked t 0 (l ++ drop 1024 w)
unfolding every
linked_none t w l k m e =
    let long = k.long in
    let zeros : l ≡ replicate 1024 0 = e ∙ ap (λ (n : ℕ). replicate n 0) (length-take-le 1024 w (omega arith)) in
    let size : length l ≡ 1024 = ap length zeros ∙ length-replicate {A = ℕ} 1024 0 in
    record {
      lent = record { shaped = k.shaped; few = k.few; long = simp (length-append, length-drop) (omega arith) };
      mark = m;
      dict = dict_none t (l ++ drop 1024 w) (λ b h. get_or-append l (drop 1024 w) 0 b (omega arith) ∙ ap (λ (x : List ℕ). get_or x b 0) zeros ∙ get_or-replicate 1024 b 0 0 h);
      new = refl;
    }

pub all_distinct : {t w : List ℕ} → Linked t (rule_count t) w → Distinct t w
all_distinct k = record { lent = k.lent; mark = k.mark; new = k.new }

-- no rule but rule 0 is the mark: it would have the word of rule 0, and not be new
pub only_mark : {t w : List ℕ} → Distinct t w → (r : ℕ) → 0 < r → r < rule_count t → get_or t (2 * r) 0 ≡ 0 → ⊥
unfolding kind_of
only_mark {t} k r l h e =
    contra
    (twin_symbol t r 0 (ap kind_of e) ∙ eq-eqb (get_or t 0 0) (get_or t (2 * r) 0) (k.mark ∙ sym e))
    (new_no_twin t r (every_at (is_new t) (rule_count t) k.new r h) 0 l)
