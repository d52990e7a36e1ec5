-- Which starts of a string are best, with the first copy of its run behind: those behind it stay what they are, its own start is
-- best if the run reaches the end and not if it is broken, and no other start inside it is.
use mathlib.Core.Path.{◌≡◌, sym, ◌∙◌, ap, subst}
use mathlib.Core.Logic.{◌↔◌}
use mathlib.Core.List.{List}
use Prim.Native.Nat.{ℕ, zero, suc, ◌+◌, ◌-◌, ◌≤◌, ◌<◌}
use native.Mathlib.Omega.{arith}
use lib.ListN.{length, take, drop, length-take, length-drop}
use lib.Seq.{drop-drop}
use Rattle.lists.specs.Numbers.{split_le, split_lt}
use Rattle.lyndon.specs.Lexical.{Dif}
use Rattle.runs.specs.Runs.{Least, Best}
use Rattle.lyndon.specs.Differences.{dif_irrefl, dif_trans, dif_front, dif_whole}
use Rattle.runs.proofs.Runs.{least_tail}

-- s begins with a copy of n symbols
module _ (s : List ℕ) (n : ℕ) (filled : 0 < n) (inside : n ≤ length s) (least : Least (take n s)) where
  -- no start inside the copy is best
  pub inner : (d : ℕ) → 0 < d → d < n → Best s d → ⊥
  inner d p q b = b 0 (least_tail s n inside least d p q)

  -- a tail that is smaller than all of s is smaller than those from inside the copy on
  under : (x : List ℕ) → Dif x s → (d : ℕ) → d < n → Dif x (drop d s)
  under x h d q = split_lt d 0
      (λ k. absurd (omega arith))
      (λ k. subst (λ (i : ℕ). Dif x (drop i s)) (sym k) h)
      (λ k. dif_trans x s (drop d s) h (least_tail s n inside least d k q))

  -- and one that those are smaller than, s is smaller than
  over : (x : List ℕ) (d : ℕ) → d < n → Dif (drop d s) x → Dif s x
  over x d q h = split_lt d 0
      (λ k. absurd (omega arith))
      (λ k. subst (λ (i : ℕ). Dif (drop i s) x) k h)
      (λ k. dif_trans s (drop d s) x (least_tail s n inside least d k q) h)

  -- a start behind the copy that is best in all of s is so in what stands there
  fewer : (c : ℕ) → Best s (n + c) → Best (drop n s) c
  fewer c b d h =
      b (n + d)
      (subst (λ (x : List ℕ). Dif x (drop (n + c) s)) (drop-drop d n s) (subst (λ (x : List ℕ). Dif (drop d (drop n s)) x) (drop-drop c n s) h))

  -- and the other way, if no tail from inside the copy on is smaller
  more : (c : ℕ) → ((d : ℕ) → d < n → Dif (drop d s) (drop c (drop n s)) → ⊥) → Best (drop n s) c → Best s (n + c)
  more c never b d h = split_le n d
      (λ k. b (d - n) (subst (λ (x : List ℕ). Dif x (drop c (drop n s))) (behind k) there))
      (λ k. never d k there)
    where
      there : Dif (drop d s) (drop c (drop n s))
      there = subst (λ (x : List ℕ). Dif (drop d s) x) (sym (drop-drop c n s)) h

      behind : n ≤ d → drop d s ≡ drop (d - n) (drop n s)
      behind k = let e : d ≡ n + (d - n) = omega arith in ap (λ (i : ℕ). drop i s) e ∙ sym (drop-drop (d - n) n s)

  -- ---- the run is broken: what stands behind the copy is smaller than all of s

  pub broken_first : Dif (drop n s) s → Best s 0 → ⊥
  broken_first h b = b n h

  pub broken_rest : Dif (drop n s) s → (c : ℕ) → Best s (n + c) ↔ Best (drop n s) c
  broken_rest h c = (
    fewer c,
    λ b. more c (λ d q k. b 0 (dif_trans (drop n s) (drop d s) (drop c (drop n s)) (under (drop n s) h d q) k)) b,
  )

  -- ---- the run reaches the end: what stands behind the copy is a front of s

  module _ (k : ℕ) (front : drop n s ≡ take k s) where
    -- no tail is smaller than s: one from behind the copy would be so from a copy earlier on
    tails : (m d : ℕ) → d ≤ m → Dif (drop d s) s → ⊥
    tails zero d h x = dif_irrefl s (subst (λ (i : ℕ). Dif (drop i s) s) (zero_of d h) x)
      where
        zero_of : (i : ℕ) → i ≤ 0 → i ≡ 0
        zero_of i l = omega arith
    tails (suc m) d h x = split_le n d
        (λ q. tails m (d - n) (omega arith) (dif_whole (d - n) k s s (subst (λ (t : List ℕ). Dif t s) (earlier q) x)))
        (λ q. dif_irrefl s (over s d q x))
      where
        earlier : n ≤ d → drop d s ≡ drop (d - n) (take k s)
        earlier q = let e : d ≡ n + (d - n) = omega arith in ap (λ (i : ℕ). drop i s) e ∙ sym (drop-drop (d - n) n s) ∙ ap (drop (d - n)) front

    pub ended_first : Best s 0
    ended_first d h = tails d d (omega arith) h

    pub ended_rest : (c : ℕ) → Best s (n + c) ↔ Best (drop n s) c
    ended_rest c = (
      fewer c,
      λ b. more c (λ d q h. b 0 (subst (λ (t : List ℕ). Dif t (drop c (drop n s))) (sym front) (dif_front s (drop c (drop n s)) k (size c) (over (drop c (drop n s)) d q h)))) b,
    )
      where
        size : (c : ℕ) → length (drop c (drop n s)) ≤ k
        size c = omega (arith, length-drop c (drop n s), simp length-take at (ap length front))
