-- A turn of the merging loop, in the code's terms: what the word at i joined with the next one leaves, and what stopping there leaves.
use mathlib.Core.Path.{◌≡◌, sym, ◌∙◌, ap, ap₂, subst}
use mathlib.Core.Bool.{Bool, true, false}
use mathlib.Core.List.{List}
use Prim.Native.Nat.{ℕ, ◌+◌, ◌-◌, ◌≤◌, ◌<◌}
use native.Mathlib.Omega.{arith}
use native.Mathlib.Nat.{zero-add}
use lib.ListN.{length, take, drop, get_or, set}
use Rattle.definitions.specs.Words.{lexlt}
use Rattle.definitions.specs.Grammar.{Tree, node, word}
use Rattle.lists.specs.Parts.{part, part_length, part_part}
use Rattle.lyndon.specs.Forest.{longest}
use Rattle.layout.specs.Layout.{LONGEST, CLOSINGS, WORK}
use Rattle.ends.specs.Areas.{Merged}
use Rattle.ends.proofs.Merging.{Merging, Next, next, closing_small, joins, stops, stops_at_end, ends_at}

-- ---- a turn of the loop, in the code's terms: w₀ is the slice at entry, k the length stored at j

pub record MergeTurn (w₀ w : List ℕ) (n i j k : ℕ) : Type 0 where
  pub low : i < j
  pub filled : 0 < k
  pub inside : j + k ≤ n
  pub small : get_or w (CLOSINGS + j + k - 1) 0 < 4096
  pub joined : lexlt (part i (j - i) (take n w)) (part j k (take n w)) ≡ true
      → (t : Tree) × Merging (part 0 n w₀) i (j + k) t (set w (CLOSINGS + j + k - 1) (get_or w (CLOSINGS + j + k - 1) 0 + 1))
  pub stopped : lexlt (part i (j - i) (take n w)) (part j k (take n w)) ≡ false
      → (j ≡ i + longest (drop i (part 0 n w₀))) × (j ≤ n) × Merged (part 0 n w₀) i w

-- a part of the first n words
front_part : (n o l : ℕ) (w : List ℕ) → o + l ≤ n → part o l (take n w) ≡ part o l w
unfolding part
front_part n o l w h =
    part_part 0 n o l w h ∙ ap (λ (m : ℕ). part m l w) (zero-add o)

pub turn : (w₀ w : List ℕ) (n i j : ℕ) → n ≤ 2048 → WORK ≤ length w₀ → length w ≡ length w₀
    → (t : Tree) × Merging (part 0 n w₀) i j t w → j < n → MergeTurn w₀ w n i j (get_or w (LONGEST + j) 0)
turn w₀ w n i j short long same (t, m) h = go (next s i j t w (omega (arith, size)) (omega arith) m (omega (arith, size)))
  where
    s : List ℕ
    s = part 0 n w₀

    size : length s ≡ n
    size = part_length 0 n w₀ (omega arith)

    go : (r : Tree) × Next s i j t r w → MergeTurn w₀ w n i j (get_or w (LONGEST + j) 0)
    go (r, x) =
        subst (λ (q : ℕ). MergeTurn w₀ w n i j q) (sym width)
        (record {
          low = m.low;
          filled = x.filled;
          inside = omega (arith, x.inside, size);
          small = closing_small s i j t r w (omega (arith, size)) (omega arith) m x;
          joined = λ q. (node t r, joins s i j t r w (omega (arith, size)) (omega arith) m x (compared q));
          stopped = λ q. let (a, b, z) = ends_at s i j t w m (stops s i j t r w (omega (arith, size)) (omega arith) m x (compared q)) in (a, omega (arith, size), z);
        })
      where
        width : get_or w (LONGEST + j) 0 ≡ length (word r)
        width = x.stored

        -- the words that the code compares are those of the two trees
        compared : {b : Bool} → lexlt (part i (j - i) (take n w)) (part j (length (word r)) (take n w)) ≡ b → lexlt (word t) (word r) ≡ b
        compared q = ap₂ {C = Bool} (λ y z. lexlt y z) (sym left) (sym right) ∙ q
          where
            left : part i (j - i) (take n w) ≡ word t
            left = front_part n i (j - i) w (omega (arith, m.low)) ∙ x.left

            right : part j (length (word r)) (take n w) ≡ word r
            right = front_part n j (length (word r)) w (omega (arith, x.inside, size)) ∙ x.right

pub turned_last : (w₀ w : List ℕ) (n i j : ℕ) → 2048 ≤ length w₀ → n ≤ 2048 → (t : Tree) × Merging (part 0 n w₀) i j t w → n ≤ j
    → (j ≡ i + longest (drop i (part 0 n w₀))) × (j ≤ n) × Merged (part 0 n w₀) i w
turned_last w₀ w n i j long short (t, m) h =
    let size = part_length 0 n w₀ (omega arith) in
    let (a, b, z) = ends_at (part 0 n w₀) i j t w m (stops_at_end (part 0 n w₀) i j t w m (omega arith)) in
    (a, omega arith, z)
