-- A read behind n bytes of a slice: what stands at its front is what the reader gave in all.
use Rattle.std.proofs.Common.{◌≡◌, ℕ, ◌+◌, ◌-◌, ◌≤◌, List, ◌++◌, Result, Ok, Err, arith, length, take, drop, slice_range, sym, ap, ◌∙◌, subst, le_refl, drop_at, length-take-le}
use Rattle.std.proofs.lemmas.Slice.{take-put_mid_below}
use Rattle.std.specs.Io.{ReadsAtMost}
use Rattle.std.specs.Io.KnownBytes.{Consumes, ReadConsumes}
use Rattle.std.specs.Result.{result_unwrap_or}
use Rattle.std.proofs.KnownBytes.{Consumes-trans, Consumes-kept}
use Rattle.std.specs.declared.option.Option.{Option}
use borrow.Rule.Slice.PartMut.{put_mid, post_of}
use lib.Seq.{take-add, take-append-le}

-- the front up to a, with the part from a to a + n, is the front up to a + n
take_split : (a n : ℕ) (old new : List ℕ) → take a new ≡ take a old → take a old ++ slice_range new a (a + n) ≡ take (a + n) new
take_split a n old new front =
    let same : (a + n) - a ≡ n = omega arith in
    ap (λ l. l ++ take ((a + n) - a) (drop a new)) (sym front) ∙ ap (λ k. take a new ++ take k (drop a new)) same ∙ sym (take-add a n new)

-- what was written behind a places begins with what was read
slice_range-put_mid : (a k n : ℕ) (xs ys : List ℕ) → a ≤ length xs → n ≤ length ys → slice_range (put_mid a k xs ys) a (a + n) ≡ take n ys
slice_range-put_mid a k n xs ys within fits =
    let same : (a + n) - a ≡ n = omega arith in
    let after = post_of a k xs in
    ap (take ((a + n) - a)) (drop_at (take a xs) (ys ++ after) a (length-take-le a xs within)) ∙ ap (λ m. take m (ys ++ after)) same ∙ take-append-le n ys after fits

-- a read behind n bytes: what the slice begins with is what the reader gave in all
pub behind : {E : Type 0} (a b d : Option (List ℕ)) (r : Result ℕ E) (k n more : ℕ) (xs part : List ℕ) → n ≤ length xs → ReadsAtMost r part → ReadConsumes b d r part
    → more ≡ result_unwrap_or r 0 → Consumes a b (take n xs) → Consumes a d (take (n + more) (put_mid n k xs part))
behind a b d (Ok m) k n more xs part within bound read e before =
    let part_is = slice_range-put_mid n k m xs part within bound.0 in
    let joined = take_split n m xs (put_mid n k xs part) (take-put_mid_below _ _ _ _ _ (le_refl _) within) in
    subst (λ (j : ℕ). Consumes a d (take (n + j) (put_mid n k xs part))) (sym e)
    (subst (Consumes a d) (ap (λ l. take n xs ++ l) (sym part_is) ∙ joined) (Consumes-trans _ _ _ _ _ before read.0))
behind a b d (Err x) k n more xs part within bound read e before =
    let none : n + more ≡ n = omega arith in
    subst (λ (j : ℕ). Consumes a d (take j (put_mid n k xs part))) (sym none)
    (subst (Consumes a d) (sym (take-put_mid_below _ _ _ _ _ (le_refl _) within)) (Consumes-kept _ _ _ _ before read))

-- as many bytes as a read gave were asked for
pub within_part : {E : Type 0} (r : Result ℕ E) (more : ℕ) (part : List ℕ) → ReadsAtMost r part → more ≡ result_unwrap_or r 0 → more ≤ length part
within_part (Ok m) more part bound e = rw e bound.0
within_part (Err x) more part bound e = omega arith
