-- Copies of a list one behind the other: how many entries they have, and that they may be counted from either end.
use Rattle.std.specs.Prelude.{◌≡◌, refl, ℕ, zero, suc, ◌+◌, ◌*◌, length}
use Rattle.std.proofs.Common.{sym, ◌∙◌, ap, ⊎_elim, zero-add, suc-add, suc-mul, zero-mul, arith, length-append}
use mathlib.Core.List.Memᴰ.{append_cases as in-append}
use mathlib.Core.List.Memᴰ.{not-nil as in-nil}
use mathlib.Core.List.{List, [], ◌++◌, append_assoc, append-nil, Memᴰ as In}
use Rattle.definitions.specs.SecondEdition.{copies}

pub copies_none : (x : List ℕ) → copies 0 x ≡ []
unfolding copies
copies_none x = refl

pub copies_more : (k : ℕ) (x : List ℕ) → copies (suc k) x ≡ x ++ copies k x
unfolding copies
copies_more k x = refl

pub copies_add : (k j : ℕ) (x : List ℕ) → copies (k + j) x ≡ copies k x ++ copies j x
unfolding copies
copies_add zero j x = ap (λ (n : ℕ). copies n x) (zero-add j)
copies_add (suc k) j x =
    ap (λ (n : ℕ). copies n x) (suc-add k j)
    ∙ ap (λ (l : List ℕ). x ++ l) (copies_add k j x)
    ∙ sym (append_assoc x (copies k x) (copies j x))

-- the last one behind the others
pub copies_last : (k : ℕ) (x : List ℕ) → copies (suc k) x ≡ copies k x ++ x
unfolding copies
copies_last zero x = append-nil x
copies_last (suc k) x = ap (λ (l : List ℕ). x ++ l) (copies_last k x) ∙ sym (append_assoc x (copies k x) x)

pub copies_length : (k : ℕ) (x : List ℕ) → length (copies k x) ≡ k * length x
unfolding copies
copies_length zero x = sym (zero-mul (length x))
copies_length (suc k) x = length-append x (copies k x) ∙ omega (arith, copies_length k x, suc-mul k (length x))

pub in_copies : (k : ℕ) (x : List ℕ) (a : ℕ) → In a (copies k x) → In a x
unfolding copies
in_copies zero x a m = absurd (in-nil m)
in_copies (suc k) x a m = ⊎_elim (λ i. i) (λ i. in_copies k x a i) (in-append x m)
