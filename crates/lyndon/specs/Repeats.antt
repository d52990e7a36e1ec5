-- Repeat counts on strings: in an accepted table the repeat count of a pair rule is the largest number of copies of its right half's string with which its own string ends behind a string that is
-- not empty (`repeat_largest`), and so is each count of an accepted second-edition table (`second_largest`); there are at most 2,304 kept rules (`kept_most`).
use Rattle.std.specs.Prelude.{◌≡◌, true, false, List, ◌++◌, length}
use Rattle.std.proofs.Common.{sym, ◌∙◌, ap, subst, ⊎_elim, append_assoc, length-append, eq-eqb}
use Prim.Native.Nat.{ℕ, zero, suc, ◌+◌, ◌-◌, ◌≤◌, ◌<◌}
use native.Mathlib.Omega.{arith}
use Rattle.definitions.specs.declared.Order.{Order}
use Rattle.definitions.specs.Table.{rule_string, rule_count, is_pair, is_table, table_of, text_of, chair_of, kind_of, number_of}
use Rattle.definitions.specs.SecondEdition.{left_rule, right_rule, adds, is_kept, new_number, left_after, repeat_count, second_edition, second_of, copies, second_rules, second_string, text_of_second, is_second}
use Rattle.lists.specs.Bools.{contra}
use Rattle.lists.specs.Numbers.{split_le}
use Rattle.lists.specs.Lists.{split_same_left}
use Rattle.lists.specs.Copies.{copies_add, copies_last}
use Rattle.lyndon.specs.Lexical.{Lt}
use Rattle.lyndon.specs.Factorization.{Std, std_order}
use Rattle.lyndon.specs.Encoding.{word_kind, word_number}
use Rattle.lyndon.specs.Stored.{accepted_stored, accepted_table, table_size, table_accepted}
use Rattle.lyndon.specs.Shapes.{Shaped, string_filled}
use Rattle.lyndon.specs.Ruled.{Ruled, symbol, pair, PairOf, ruled}
use Rattle.lyndon.specs.Pairs.{pair_halves}
use Rattle.lyndon.specs.Accepted.{accepted_shaped, accepted_once}
use Rattle.lyndon.specs.Chains.{adds_pair, pair_adds, pair_rule, Walked, chain}
use Rattle.lyndon.specs.ShapedSecond.{RepeatedOf}
use Rattle.lyndon.specs.Kept.{number_most, numbered}
use Rattle.lyndon.specs.Editions.{KeptRule, alone, chained, kept_rule, edition_rules, edition_string}
use Rattle.lyndon.specs.StoredSecond.{second_stored, second_table}

-- w ends with k copies of v behind a string that is not empty
abbrev pub EndsWith : ℕ → List ℕ → List ℕ → Type 0
EndsWith k v w = (x : List ℕ) × (0 < length x) × (w ≡ x ++ copies k v)

-- and with no more than k
pub record Largest (k : ℕ) (v w : List ℕ) : Type 0 where
  pub ends : EndsWith k v w
  pub most : (j : ℕ) → EndsWith j v w → j ≤ k

-- where k copies stand behind l and l does not end with v, k is the largest number of copies
largest : (k : ℕ) (v w l : List ℕ) → 0 < length l → w ≡ l ++ copies k v → ((x : List ℕ) → 0 < length x → l ≡ x ++ v → ⊥) → Largest k v w
largest k v w l filled e last = record { ends = (l, filled, e); most = λ j z. split_le j k (λ h. h) (λ h. absurd (more j h z)) }
  where
    more : (j : ℕ) → k < j → EndsWith j v w → ⊥
    more j h (x, p, f) = last (x ++ copies d v) (simp length-append (omega arith)) (front ∙ sym (append_assoc x (copies d v) v))
      where
        d : ℕ
        d = j - suc k

        count : suc d + k ≡ j
        count = omega arith

        parts : copies j v ≡ (copies d v ++ v) ++ copies k v
        parts = ap (λ (n : ℕ). copies n v) (sym count) ∙ copies_add (suc d) k v ∙ ap (λ (y : List ℕ). y ++ copies k v) (copies_last d v)

        whole : l ++ copies k v ≡ (x ++ (copies d v ++ v)) ++ copies k v
        whole = sym e ∙ f ∙ ap (λ (y : List ℕ). x ++ y) parts ∙ sym (append_assoc x (copies d v ++ v) (copies k v))

        front : l ≡ x ++ (copies d v ++ v)
        front =
            split_same_left l (copies k v) (x ++ (copies d v ++ v)) (copies k v) whole
            (omega (arith, sym (length-append l (copies k v)) ∙ ap length whole ∙ length-append (x ++ (copies d v ++ v)) (copies k v)))

module _ (o : Order) (t : List ℕ) (a : is_table o t ≡ true) where
  abbrev str : ℕ → List ℕ
  str r = rule_string o t r

  -- the halves of a pair are its string's standard factorization
  standard : (r u v : ℕ) → PairOf t r u v → Std (str u) (str v)
  standard r u v k = rw (k.left_half_lem o, k.right_half_lem o) at (pair_halves o t a r k.is_pair_lem).1

  -- a left half whose string ends with that of its rule's right half has that right half itself
  ends_adds : (q l v : ℕ) → PairOf t q l v → (x : List ℕ) → 0 < length x → str l ≡ x ++ str v → adds t v l ≡ true
  ends_adds q l v k x h e = go (ruled t shaped l (omega (arith, k.left, bound)))
    where
      shaped : Shaped t
      shaped = accepted_shaped o t a

      bound : q < rule_count t
      bound = pair_rule t q k.is_pair_lem

      filled : (r : ℕ) → r < q → 0 < length (str r)
      filled r z = string_filled o t shaped r (omega (arith, bound))

      go : Ruled t l → adds t v l ≡ true
      go (symbol n _ m) =
          absurd (omega (arith, h, filled v k.right, sym (length-append x (str v)) ∙ ap length (sym e ∙ m.string o)))
      go (pair b c m) = ⊎_elim same smaller ((standard l b c m).least x (str v) h (filled v k.right) (sym (m.string o) ∙ e))
        where
          same : str v ≡ str c → adds t v l ≡ true
          same y = pair_adds m v ∙ eq-eqb c v (sym (accepted_once o t a v c (omega (arith, k.right, bound)) (omega (arith, m.right, k.left, bound)) y))

          smaller : Lt (str c) (str v) → adds t v l ≡ true
          smaller y =
              absurd (std_order (str b) (str c) (str v) (filled b (omega (arith, m.left, k.left))) (filled c (omega (arith, m.right, k.left)))
              (subst (λ (z : List ℕ). Std z (str v)) (m.string o) (standard q l v k)) y)

  -- so behind all repeats stands a string that does not end with the right half's
  walk_ends : (v r k : ℕ) → 0 < k → Walked t v r k → adds t v (left_after t k r) ≡ false → (x : List ℕ) → 0 < length x → str (left_after t k r) ≡ x ++ str v → ⊥
  unfolding left_after
  walk_ends v r zero h w stop x p e = omega arith
  walk_ends v r (suc k) h w stop x p e =
      let q = left_after t k r in
      contra (ends_adds q (left_rule t q) v (adds_pair t (accepted_shaped o t a) v q (w k (omega arith))) x p e) stop

  pub repeat_largest : (r : ℕ) → is_pair t r ≡ true → Largest (repeat_count t r) (rule_string o t (right_rule t r)) (rule_string o t r)
  repeat_largest r e =
      let s = accepted_shaped o t a in
      let c = chain t s r e in
      let k = repeat_count t r in
      let l = left_after t k r in
      largest k (str (right_rule t r)) (str r) (str l)
      (string_filled o t s l (omega (arith, c.left, pair_rule t r e)))
      (c.string o k (omega arith))
      (walk_ends (right_rule t r) r k c.one c.on c.stop)

  -- ---- in the second edition

  words_most : length t ≤ 4608
  words_most = subst (λ (x : List ℕ). length x ≤ 4608) (accepted_table o t a) (table_size o (text_of o t) (chair_of t) (accepted_stored o t a))

  pub kept_most : new_number t (rule_count t) ≤ 2304
  kept_most = omega (arith, words_most, number_most t (rule_count t))

  edition_largest : (n u v k : ℕ) → n < second_rules (second_edition t) → RepeatedOf (second_edition t) n u v k
      → Largest k (second_string o (second_edition t) v) (second_string o (second_edition t) n)
  edition_largest n u v k h w =
      let (r, l, e, q) = numbered t (rule_count t) n (omega (arith, edition_rules t)) in
      subst (λ (x : ℕ). Largest k (second_string o (second_edition t) v) (second_string o (second_edition t) x)) q
      (go r l e (kept_rule t s r l e) (subst (λ (x : ℕ). RepeatedOf (second_edition t) x u v k) (sym q) w))
    where
      s : Shaped t
      s = accepted_shaped o t a

      string : (r : ℕ) → r < rule_count t → is_kept t r ≡ true → second_string o (second_edition t) (new_number t r) ≡ rule_string o t r
      string = edition_string t s words_most o

      go : (r : ℕ) → r < rule_count t → is_kept t r ≡ true → KeptRule t r → RepeatedOf (second_edition t) (new_number t r) u v k
          → Largest k (second_string o (second_edition t) v) (second_string o (second_edition t) (new_number t r))
      go r l e (alone b m) x =
          absurd (omega (arith, sym x.kind ∙ ap kind_of m.first ∙ word_kind 0 b (omega (arith, m.number))))
      go r l e (chained p m) x =
          let small = words_most in
          let right = number_most t (right_rule t r) in
          let before = m.right.0 in
          let most = m.count.1 in
          let count : repeat_count t r ≡ k = sym (word_number 3 (repeat_count t r) (omega arith)) ∙ ap number_of (sym m.third) ∙ x.third_number in
          let half : new_number t (right_rule t r) ≡ v = sym (word_number 2 (new_number t (right_rule t r)) (omega arith)) ∙ ap number_of (sym m.second) ∙ x.second_number in
          let copied : rule_string o t (right_rule t r) ≡ second_string o (second_edition t) v
          = sym (string (right_rule t r) (omega arith) m.right.1) ∙ ap (second_string o (second_edition t)) half in
          subst (λ (i : ℕ). Largest i (second_string o (second_edition t) v) (second_string o (second_edition t) (new_number t r))) count
          (subst (λ (y : List ℕ). Largest (repeat_count t r) y (second_string o (second_edition t) (new_number t r))) copied
          (subst (λ (y : List ℕ). Largest (repeat_count t r) (rule_string o t (right_rule t r)) y) (sym (string r l e)) (repeat_largest r p)))

-- every count of an accepted second-edition table is the largest
pub second_largest : (o : Order) (s : List ℕ) → is_second o s ≡ true → (r u v k : ℕ) → r < second_rules s → RepeatedOf s r u v k
    → Largest k (second_string o s v) (second_string o s r)
unfolding second_of
second_largest o s e r u v k h w =
    let t = table_of o (text_of_second o s) (chair_of s) in
    let same : second_edition t ≡ s = second_table o s e in
    subst (λ (x : List ℕ). r < second_rules x → RepeatedOf x r u v k → Largest k (second_string o x v) (second_string o x r)) same
    (edition_largest o t (table_accepted o (text_of_second o s) (chair_of s) (second_stored o s e)) r u v k) h w
