-- How a run begins, goes on, is broken, reaches the end, becomes one word, and goes on without its first copy.
-- That a greater symbol makes all of the run one Lyndon word is shown suffix by suffix, each from the one a period before it.
use mathlib.Core.Path.{◌≡◌, refl, sym, ◌∙◌, ap, subst}
use mathlib.Core.List.{List, [], ◌∷◌, ◌++◌}
use Prim.Native.Nat.{ℕ, zero, suc, ◌+◌, ◌-◌, ◌≤◌, ◌<◌}
use native.Mathlib.Omega.{arith}
use native.Mathlib.Nat.{add-suc, add-zero}
use lib.ListN.{length, take, drop, get_or, length-take, length-drop, take-append-drop}
use lib.Seq.{take-suc, drop-cons, split_at, take-take, drop-drop, get_or-take, get_or-drop, take_all, drop-append-le, length-take-le}
use Rattle.lists.specs.Numbers.{split_lt}
use Rattle.lists.specs.Parts.{drop_take}
use Rattle.lyndon.specs.Lexical.{Dif, dif_append}
use Rattle.runs.specs.Runs.{Least, Repeats}
use Rattle.lyndon.specs.Differences.{dif_behind, dif_raise}

-- one symbol
pub run_first : (s : List ℕ) → 0 < length s → Repeats s 1 0
run_first s h =
    record { filled = omega arith; inside = omega arith; least = λ d p q. absurd (omega (arith, simp length-take at q)); again = refl }

-- a word, and the symbols behind it that repeat it
pub run_agreed : (s : List ℕ) (period more : ℕ) → Repeats s period 0 → period + more ≤ length s → take more (drop period s) ≡ take more s → Repeats s period more
run_agreed s period more r h e = record { filled = r.filled; inside = h; least = r.least; again = e }

-- a string that begins with such a word is smaller than its tails from inside the word on
pub least_tail : (s : List ℕ) (n : ℕ) → n ≤ length s → Least (take n s) → (d : ℕ) → 0 < d → d < n → Dif s (drop d s)
least_tail s n h l d p q =
    subst (λ (x : List ℕ). Dif x (drop d s)) (take-append-drop n s)
    (subst (λ (x : List ℕ). Dif (take n s ++ drop n s) x) tail
    (dif_append (take n s) (drop d (take n s)) (drop n s) (drop n s) (l d p (omega (arith, size)))))
  where
    size : length (take n s) ≡ n
    size = length-take-le n s h

    tail : drop d (take n s) ++ drop n s ≡ drop d s
    tail = sym (drop-append-le d (take n s) (drop n s) (omega (arith, size))) ∙ ap (drop d) (take-append-drop n s)

module _ (s : List ℕ) (period more : ℕ) (run : Repeats s period more) where
  -- all of s: what the run repeats, and the rest from the period on
  shifted : drop period s ≡ take more s ++ drop (period + more) s
  shifted =
      sym (take-append-drop more (drop period s))
      ∙ ap (λ (x : List ℕ). x ++ drop more (drop period s)) run.again
      ∙ ap (λ (x : List ℕ). take more s ++ x) (drop-drop more period s)

  -- it is smaller: what stands behind the first copy is smaller than all, at a difference
  pub run_broken : period + more < length s → get_or s (period + more) 0 < get_or s more 0 → Dif (drop period s) s
  run_broken h l =
      subst (λ (x : List ℕ). Dif x s) (sym (shifted ∙ ap (λ (x : List ℕ). take more s ++ x) (drop-cons s (period + more) 0 h)))
      (subst (λ (x : List ℕ). Dif (take more s ++ (get_or s (period + more) 0 ∷ drop (suc (period + more)) s)) x) (sym (split_at s more 0 (omega arith)))
      (dif_behind (take more s) (get_or s (period + more) 0) (get_or s more 0) (drop (suc (period + more)) s) (drop (suc more) s) l))

  -- there is none: what stands behind the first copy is a front of all
  pub run_ended : period + more ≡ length s → drop period s ≡ take more s
  run_ended h = sym (take_all more (drop period s) (simp length-drop (omega arith))) ∙ run.again

  -- it is greater: the whole run with it is one word
  pub run_greater : period + more < length s → get_or s more 0 < get_or s (period + more) 0 → Repeats s (suc (period + more)) 0
  run_greater h l =
      record {
        filled = omega arith;
        inside = omega (arith, add-zero (suc (period + more)));
        least = λ d p q. tails d d p (omega arith) (omega (arith, size));
        again = refl;
      }
    where
      word : List ℕ
      word = take (suc (period + more)) s

      size : length word ≡ suc (period + more)
      size = length-take-le (suc (period + more)) s (omega arith)

      a : ℕ
      a = get_or s more 0

      b : ℕ
      b = get_or s (period + more) 0

      -- the word begins with what the run repeats and a
      rest : List ℕ
      rest = drop (suc more) word

      begins : word ≡ take more s ++ (a ∷ rest)
      begins =
          split_at word more 0 (omega (arith, size))
          ∙ ap (λ (x : List ℕ). x ++ (get_or word more 0 ∷ rest)) (take-take more (suc (period + more)) s (omega arith))
          ∙ ap (λ (x : ℕ). take more s ++ (x ∷ rest)) (get_or-take (suc (period + more)) s more 0 (omega arith))

      -- and ends with what the run repeats and b
      ends : drop period word ≡ take more s ++ (b ∷ [])
      ends =
          ap (λ (n : ℕ). drop period (take n s)) (sym (add-suc period more))
          ∙ drop_take period (suc more) s
          ∙ take-suc (drop period s) more 0 (simp length-drop (omega arith))
          ∙ ap (λ (x : List ℕ). x ++ (get_or (drop period s) more 0 ∷ [])) run.again
          ∙ ap (λ (x : ℕ). take more s ++ (x ∷ [])) (get_or-drop period s more 0)

      front : length (take more s) ≡ more
      front = length-take-le more s (omega arith)

      -- a tail of the word, and the one from a period later on: the second is greater where the first goes on with a
      tail : (e : ℕ) → e ≤ more → drop e word ≡ drop e (take more s) ++ (a ∷ rest)
      tail e h = ap (drop e) begins ∙ drop-append-le e (take more s) (a ∷ rest) (omega (arith, front))

      later : (e : ℕ) → e ≤ more → drop (period + e) word ≡ drop e (take more s) ++ (b ∷ [])
      later e h = sym (drop-drop e period word) ∙ ap (drop e) ends ∙ drop-append-le e (take more s) (b ∷ []) (omega (arith, front))

      raise : (e : ℕ) → e ≤ more → Dif word (drop e word) → Dif word (drop (period + e) word)
      raise e h d =
          subst (λ (x : List ℕ). Dif word x) (sym (later e h))
          (dif_raise word (drop e (take more s)) a b rest [] l (subst (λ (x : List ℕ). Dif word x) (tail e h) d))

      -- the tail from the period on
      second : Dif word (drop period word)
      second =
          subst (λ (x : List ℕ). Dif word x) (sym ends)
          (subst (λ (x : List ℕ). Dif x (take more s ++ (b ∷ []))) (sym begins) (dif_behind (take more s) a b rest [] l))

      tails : (n d : ℕ) → 0 < d → d ≤ n → d < suc (period + more) → Dif word (drop d word)
      tails zero d p q r = absurd (omega arith)
      tails (suc n) d p q r = split_lt d period
          (λ k. least_tail word period (omega (arith, size)) (subst (λ (x : List ℕ). Least x) (sym (take-take period (suc (period + more)) s (omega arith))) run.least) d p k)
          (λ k. subst (λ (x : ℕ). Dif word (drop x word)) (sym k) second)
          (λ k. subst (λ (x : ℕ). Dif word (drop x word)) (back k) (raise (d - period) (omega arith) (tails n (d - period) (omega arith) (omega (arith, run.filled)) (omega arith))))
        where
          back : period < d → period + (d - period) ≡ d
          back k = omega arith

  -- without the first copy
  pub run_behind : (left : ℕ) → more ≡ period + left → Repeats (drop period s) period left
  run_behind left e =
      record {
        filled = run.filled;
        inside = simp length-drop (omega (arith, run.inside));
        least = subst (λ (x : List ℕ). Least x) (sym front) run.least;
        again = sym (drop_take period left (drop period s)) ∙ ap (drop period) fronts ∙ drop_take period left s;
      }
    where
      fronts : take (period + left) (drop period s) ≡ take (period + left) s
      fronts = subst (λ (n : ℕ). take n (drop period s) ≡ take n s) e run.again

      front : take period (drop period s) ≡ take period s
      front = sym (take-take period more (drop period s) (omega arith)) ∙ ap (take period) run.again ∙ take-take period more s (omega arith)
