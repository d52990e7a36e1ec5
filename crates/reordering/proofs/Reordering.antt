-- Ranks turned from one order into another: the rank there of the byte that a rank stands for. Turned behind the mark, the marked text of one order is that of the other (`reordered`).
use mathlib.Core.Path.{◌≡◌, refl, sym, ◌∙◌, ap, ap₂, subst}
use mathlib.Core.List.{List, [], ◌∷◌, ◌++◌, map, append_assoc, append-nil}
use Prim.Native.Nat.{ℕ, suc, ◌+◌, ◌-◌, ◌≤◌}
use native.Mathlib.Omega.{arith}
use lib.ListN.{length, take, drop, length-map, length-append, drop_of_length-le}
use lib.Seq.{take_at, take-length, take-take}
use Rattle.definitions.specs.declared.Order.{Order}
use Rattle.definitions.specs.Words.{placed}
use Rattle.definitions.specs.Table.{rank_of, byte_of, marked}
use Rattle.lists.specs.Parts.{part, lent_length}
use Rattle.lyndon.specs.Stored.{Stored}
use Rattle.grammar.specs.Built.{Marked}
use Rattle.state.specs.State.{Held}
use Rattle.spelling.proofs.Texts.{Piece, loaded_piece}

-- the rank in the order `to` of the sample that has rank r in the order `from`
unfoldable pub turned : Order → Order → ℕ → ℕ
turned from to r = rank_of to (byte_of from r)

turned_all : (from to : Order) (l : List ℕ) → map (turned from to) l ≡ map (rank_of to) (map (byte_of from) l)
unfolding turned
turned_all from to [] = refl
turned_all from to (r ∷ l) = ap {B = List ℕ} (λ x. rank_of to (byte_of from r) ∷ x) (turned_all from to l)

-- all are turned
pub turned_ended : (from to : Order) (l w : List ℕ) (n : ℕ) → n ≡ length l → w ≡ placed (map (turned from to) (take n l)) l → w ≡ map (rank_of to) (map (byte_of from) l)
unfolding placed
turned_ended from to l w n e q =
    q
    ∙ ap (λ (x : List ℕ). map (turned from to) x ++ drop (length (map (turned from to) x)) l) (ap (λ (k : ℕ). take k l) e ∙ take-length l)
    ∙ ap (λ (x : List ℕ). map (turned from to) l ++ x) (drop_of_length-le l all)
    ∙ append-nil (map (turned from to) l)
    ∙ turned_all from to l
  where
    all : length l ≤ length (map (turned from to) l)
    all = omega (arith, length-map l (turned from to))

-- n ranks at the front are those of a text that is loaded
module _ {from : Order} {rules : ℕ} {w : List ℕ} (h : Held from rules w) (n : ℕ) (e : n ≡ length h.text + 1) where
  fits : 1 + (n - 1) ≤ length w
  fits = omega (arith, h.loaded.kept.long, h.loaded.kept.stored.short)

  -- those behind the mark are its samples
  pub behind : Piece from (take (n - 1) (drop 1 w)) h.text (length h.text)
  behind =
      let k : 1 + 0 + length h.text - (1 + 0) ≡ n - 1 = omega arith in
      subst (λ (i : ℕ). Piece from (take i (drop 1 w)) h.text (length h.text)) k
      (subst (λ (x : List ℕ). Piece from (take (1 + 0 + length h.text - (1 + 0)) (drop 1 w)) x (length h.text)) (take-length h.text)
      (loaded_piece h 0 (length h.text) (omega arith)))

  first : take 1 w ≡ 0 ∷ []
  unfolding part marked
  first = sym (take-take 1 (suc (length h.text)) w (omega arith)) ∙ ap (take 1) h.loaded.kept.ranks

  unfoldable pub reordered : (to : Order) (l : List ℕ) (chair : ℕ) → chair ≡ h.chair → l ≡ map (rank_of to) (map (byte_of from) (take (n - 1) (drop 1 w)))
      → Marked to n chair (take 1 w ++ (l ++ drop (n - 1) (drop 1 w)))
  unfolding part marked first fits
  reordered to l chair c q =
      record {
        text = h.text;
        stored = subst (Stored h.text) (sym c) h.loaded.kept.stored;
        size = omega arith;
        front =
            ap (take n) (sym (append_assoc (take 1 w) l (drop (n - 1) (drop 1 w))))
            ∙ take_at (take 1 w ++ l) (drop (n - 1) (drop 1 w)) n (length-append (take 1 w) l ∙ omega (arith, ap length first, size))
            ∙ ap₂ {C = List ℕ} (λ x y. x ++ y) first samples;
        long = omega (arith, h.loaded.kept.long, lent_length w l 1 (n - 1) fits (size ∙ omega arith));
      }
    where
      samples : l ≡ map (rank_of to) h.text
      samples = q ∙ ap (map (rank_of to)) behind.same

      size : length l ≡ length h.text
      size = ap length samples ∙ length-map h.text (rank_of to)
