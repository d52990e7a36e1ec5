-- The buckets cleared: what is numbered lies below them, so that it can be numbered as before (`cleared_numbers`).
use mathlib.Core.Path.{◌≡◌, sym, ◌∙◌, ap, ap₂, subst}
use mathlib.Core.List.{List, ◌++◌}
use Prim.Native.Nat.{ℕ, ◌+◌, ◌≤◌, ◌<◌}
use native.Mathlib.Omega.{arith}
use lib.ListN.{length, take, drop, get_or, replicate, length-take, length-drop, length-replicate, get_or-replicate, get_or-append}
use lib.Seq.{get_or-append-add, length-take-le}
use Rattle.definitions.specs.Grammar.{Rule}
use Rattle.lists.specs.Parts.{part_agree, lent_length, lent_before}
use Rattle.lyndon.specs.Closings.{start, run, Enough}
use Rattle.layout.specs.Layout.{CLOSINGS, STACK, LINKS, WORK}
use Rattle.stack.specs.Areas.{Below}
use Rattle.numbering.specs.Numbering.{numbered, Numberable}
use Rattle.numbering.proofs.Stepping.{below_at}

-- the slice w with 1,024 words from LINKS on replaced, the buckets
abbrev replaced : List ℕ → List ℕ → List ℕ
replaced w l = take LINKS w ++ (l ++ drop 1024 (drop LINKS w))

module _ (w l : List ℕ) (long : WORK ≤ length w) (e : l ≡ replicate (length (take 1024 (drop LINKS w))) 0) where
  size : length (take 1024 (drop LINKS w)) ≡ 1024
  size = simp (length-take, length-drop) (omega arith)

  front : length (take LINKS w) ≡ LINKS
  front = length-take-le LINKS w (omega arith)

  zeros : l ≡ replicate 1024 0
  zeros = e ∙ ap (λ (n : ℕ). replicate n 0) size

  count : length l ≡ 1024
  count = ap length zeros ∙ length-replicate {A = ℕ} 1024 0

  cleared_below : take LINKS (take LINKS w ++ (l ++ drop 1024 (drop LINKS w))) ≡ take LINKS w
  cleared_below = lent_before w l LINKS 1024 (omega arith) count LINKS (omega arith)

  pub cleared_stays : Below w (take LINKS w ++ (l ++ drop 1024 (drop LINKS w)))
  cleared_stays = lent_before w l LINKS 1024 (omega arith) count STACK (omega arith)

  pub cleared_buckets : (b : ℕ) → b < 1024 → get_or (take LINKS w ++ (l ++ drop 1024 (drop LINKS w))) (LINKS + b) 0 ≡ 0
  cleared_buckets b h =
      ap (λ (n : ℕ). get_or (replaced w l) (n + b) 0) (sym front)
      ∙ get_or-append-add (take LINKS w) (l ++ drop 1024 (drop LINKS w)) b 0
      ∙ get_or-append l (drop 1024 (drop LINKS w)) 0 b (omega (arith, count))
      ∙ ap (λ (x : List ℕ). get_or x b 0) zeros
      ∙ get_or-replicate 1024 b 0 0 h

  -- what is numbered lies below
  pub cleared_numbered : (n : ℕ) → n ≤ 2048 → numbered n (take LINKS w ++ (l ++ drop 1024 (drop LINKS w))) ≡ numbered n w
  unfolding numbered
  cleared_numbered n h =
      ap₂ {C = List Rule} (λ x y. (run start x y).rules)
      (part_agree LINKS 0 n w (replaced w l) cleared_below (omega arith))
      (part_agree LINKS CLOSINGS n w (replaced w l) cleared_below (omega arith))

  pub cleared_numbers : (n : ℕ) → Numberable n w → Numberable n (take LINKS w ++ (l ++ drop 1024 (drop LINKS w)))
  cleared_numbers n k =
      record {
        filled = k.filled;
        short = k.short;
        long = omega (arith, lent_length w l LINKS 1024 (omega arith) count);
        mark = below_at w (replaced w l) 0 (omega arith) cleared_stays ∙ k.mark;
        samples = λ i z h. rw (below_at w (replaced w l) i (omega (arith, k.short)) cleared_stays) (k.samples i z h);
        ranks = λ i h. rw (below_at w (replaced w l) i (omega (arith, k.short)) cleared_stays) (k.ranks i h);
        enough = subst (Enough 0) (sym (part_agree LINKS CLOSINGS n w (replaced w l) cleared_below (omega (arith, k.short)))) k.enough;
        room = rw (cleared_numbered n k.short) k.room;
      }
