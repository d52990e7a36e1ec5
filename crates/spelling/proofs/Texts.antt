-- What is loaded: the parts of the text (`loaded_piece`), and its rules: the root spells it (`root_spelled`); a rule that begins with the mark is the mark
-- alone (`mark_spelled`), or its left half does too and its right half has none (`halves_spelled`); a rule without the mark is copied from where it stands
-- (`rule_piece`).
use mathlib.Core.Path.{◌≡◌, refl, sym, ◌∙◌, ap, ap₂, subst}
use mathlib.Core.List.{List, [], ◌∷◌, ◌++◌, map}
use Prim.Native.Nat.{ℕ, zero, suc, ◌+◌, ◌-◌, ◌≤◌, ◌<◌}
use native.Mathlib.Omega.{arith}
use native.Mathlib.Nat.{zero-add}
use lib.ListN.{length, take, drop, get_or, length-take, length-drop, length-map, length-append}
use lib.Seq.{get_or-take, get_or-drop}
use Rattle.definitions.specs.declared.Order.{Order}
use Rattle.definitions.specs.Table.{rank_of, byte_of, marked, table_of, rule_string, spelled}
use Rattle.lists.specs.Members.{at_in, in_map, take_map, drop_map}
use Rattle.lists.specs.Parts.{part, part_taken, part_part}
use Rattle.lyndon.specs.Ranks.{Bytes, rank_range, bytes_back, slice_bytes, marked_length}
use Rattle.lyndon.specs.Stored.{table_spelled}
use Rattle.lyndon.specs.Shapes.{stored_shaped, string_filled}
use Rattle.lyndon.specs.Filling.{Stands, stands_whole, symbol_word, half_places}
use Rattle.decoding.specs.declared.Rule.TheVariants.{Symbol, Pair}
use Rattle.decoding.specs.Decoding.{rule_in}
use Rattle.layout.specs.Layout.{length_in, place_in}
use Rattle.state.specs.State.{Held}
use Rattle.state.proofs.Lengths.{rules_range}
use Rattle.state.proofs.Rules.{kept_symbol, kept_pair}
use Rattle.spelling.specs.Spelling.{samples, Ranks, string_of, rule_bytes, WithMark, WithoutMark}
use Rattle.spelling.proofs.Spelling.{samples_append, samples_ranks}

-- ---- parts of the ranks at the front

-- ranks of samples, so many of them, whose bytes are those
pub record Piece (o : Order) (l bytes : List ℕ) (count : ℕ) : Type 0 where
  pub ranks : Ranks l
  pub size : length l ≡ count
  pub same : map (byte_of o) l ≡ bytes

pub piece_count : {o : Order} {l bytes : List ℕ} {count : ℕ} → Piece o l bytes count → count ≡ length bytes
piece_count {o} {l} p = sym p.size ∙ sym (length-map l (byte_of o)) ∙ ap length p.same

ranks_piece : (o : Order) (piece : List ℕ) → Bytes piece → Piece o (map (rank_of o) piece) piece (length piece)
ranks_piece o piece h =
    record {
      ranks = λ i k. let (b, m, e) = in_map (rank_of o) (get_or (map (rank_of o) piece) i 0) piece (at_in (map (rank_of o) piece) i k) in rw e (rank_range o b (h b m));
      size = length-map piece (rank_of o);
      same = bytes_back o piece h;
    }

marked_piece : (o : Order) (text : List ℕ) (start count : ℕ) → part (suc start) count (marked o text) ≡ map (rank_of o) (take count (drop start text))
unfolding part marked
marked_piece o text start count = ap (take count) (drop_map (rank_of o) start text) ∙ take_map (rank_of o) count (drop start text)

piece_bytes : (text : List ℕ) (start count : ℕ) → Bytes text → start + count ≤ length text → Bytes (take count (drop start text))
piece_bytes text start count h k =
    let size : length (take count (drop start text)) ≡ count = simp (length-take, length-drop) (omega arith) in
    slice_bytes (take count (drop start text)) (λ i l.
    rw (get_or-take count (drop start text) i 0 (omega arith), get_or-drop start text i 0) (h (get_or text (start + i) 0) (at_in text (start + i) (omega arith))))

module _ {o : Order} {rules : ℕ} {w : List ℕ} (h : Held o rules w) where
  -- a part of the ranks is one of the marked text
  loaded_ranks : (x n : ℕ) → x + n ≤ suc (length h.text) → take (x + n - x) (drop x w) ≡ part x n (marked o h.text)
  loaded_ranks x n k =
      let many : x + n - x ≡ n = omega arith in
      part_taken x (x + n - x) n w many
      ∙ ap (λ (i : ℕ). part i n w) (sym (zero-add x))
      ∙ sym (part_part 0 (suc (length h.text)) x n w k)
      ∙ ap (part x n) h.loaded.kept.ranks

  -- those from 1 + start on are samples: those of a part of the text
  pub loaded_piece : (start count : ℕ) → start + count ≤ length h.text
      → Piece o (take (1 + start + count - (1 + start)) (drop (1 + start) w)) (take count (drop start h.text)) count
  loaded_piece start count k =
      let piece = take count (drop start h.text) in
      let size : length piece ≡ count = simp (length-take, length-drop) (omega arith) in
      let next : 1 + start ≡ suc start = omega arith in
      let ranks : take (1 + start + count - (1 + start)) (drop (1 + start) w) ≡ map (rank_of o) piece =
      loaded_ranks (1 + start) count (omega arith)
      ∙ ap (λ (i : ℕ). part i count (marked o h.text)) next
      ∙ marked_piece o h.text start count in
      subst (λ (l : List ℕ). Piece o l piece count) (sym ranks)
      (subst (λ (n : ℕ). Piece o (map (rank_of o) piece) piece n) size
      (ranks_piece o piece (piece_bytes h.text start count h.loaded.kept.stored.bytes k)))

-- ---- the marked text

marked_first : (o : Order) (text : List ℕ) → get_or (marked o text) 0 0 ≡ 0
unfolding marked
marked_first o text = refl

marked_samples : (o : Order) (text : List ℕ) → Bytes text → samples o (marked o text) ≡ text
unfolding marked samples
marked_samples o text h =
    let p = ranks_piece o text h in
    samples_ranks o (map (rank_of o) text) p.ranks ∙ p.same

-- what stands in it behind its front has no mark
stands_ranks : (o : Order) (text y : List ℕ) (x : ℕ) → Bytes text → 0 < x → Stands (marked o text) y x → Ranks y
stands_ranks o text y zero h l k = absurd (omega arith)
stands_ranks o text y (suc i) h l k =
    subst (λ (s : List ℕ). Ranks s) (sym (marked_piece o text i (length y)) ∙ k.same)
    (ranks_piece o (take (length y) (drop i text)) (piece_bytes text i (length y) h (omega (arith, k.inside, marked_length o text)))).ranks

-- ---- rules

module _ {o : Order} {rules : ℕ} {w : List ℕ} (h : Held o rules w) where
  -- the halves of a rule that begins with the mark
  pub record Halves (r u v : ℕ) : Type 0 where
    pub left : u < r
    pub first : WithMark h u
    pub rest : WithoutMark h v
    pub bytes : rule_bytes h r ≡ rule_bytes h u ++ rule_bytes h v

  pub halves_size : (r u v : ℕ) → Halves r u v → length (rule_bytes h r) ≡ length (rule_bytes h u) + length (rule_bytes h v)
  halves_size r u v k = ap length k.bytes ∙ length-append (rule_bytes h u) (rule_bytes h v)

  abbrev table : List ℕ
  table = table_of o h.text h.chair

  drive : Bytes h.text
  drive = h.loaded.kept.stored.bytes

  pub root_spelled : WithMark h (rules - 1) × (rule_bytes h (rules - 1) ≡ h.text)
  unfolding spelled rule_bytes
  root_spelled =
      let whole : string_of h (rules - 1) ≡ marked o h.text =
      ap (λ (k : ℕ). rule_string o table (k - 1)) h.size ∙ table_spelled o h.text h.chair h.loaded.kept.stored in (
        record {
          low = omega (arith, rules_range h);
          stands = subst (λ (y : List ℕ). Stands (marked o h.text) y 0) (sym whole) (stands_whole (marked o h.text));
        },
        ap (samples o) whole ∙ marked_samples o h.text drive,
      )

  pub mark_spelled : (r a b : ℕ) → WithMark h r → rule_in w r ≡ Symbol a b → rule_bytes h r ≡ []
  unfolding rule_bytes samples
  mark_spelled r a b m e =
      let p = kept_symbol h.loaded.kept r (omega (arith, m.low, h.size)) a b e in
      ap (samples o) (p.string o ∙ ap (λ (x : ℕ). x ∷ []) (symbol_word o (marked o h.text) 0 m.stands p ∙ marked_first o h.text))

  pub halves_spelled : (r u v : ℕ) → WithMark h r → rule_in w r ≡ Pair u v → Halves r u v
  unfolding rule_bytes
  halves_spelled r u v m e =
      let p = kept_pair h.loaded.kept r (omega (arith, m.low, h.size)) u v e in
      let (first, rest) = half_places o (marked o h.text) 0 m.stands p in
      let filled = string_filled o table (stored_shaped o h.text h.chair h.loaded.kept.stored) u (omega (arith, p.left, m.low, h.size)) in
      record {
        left = p.left;
        first = record { low = omega (arith, p.left, m.low); stands = first };
        rest = record { low = omega (arith, p.right, m.low); ranks = stands_ranks o h.text (string_of h v) (0 + length (string_of h u)) drive (omega (arith, filled)) rest };
        bytes = ap (samples o) (p.string o) ∙ samples_append o (string_of h u) (string_of h v);
      }

  -- where a rule without the mark stands
  module _ (r place count : ℕ) (m : WithoutMark h r) (e : place ≡ place_in w r) (f : count ≡ length_in w r) where
    stood : Stands (marked o h.text) (string_of h r) (place_in w r)
    stood = h.loaded.places r (omega (arith, m.low, h.size))

    counted : count ≡ length (string_of h r)
    counted = f ∙ h.loaded.sizes r (omega (arith, m.low, h.size))

    pub rule_inside : place + count ≤ 2048
    rule_inside = omega (arith, e, counted, stood.inside, marked_length o h.text, h.loaded.kept.stored.short)

    pub rule_piece : Piece o (take (place + count - place) (drop place w)) (rule_bytes h r) count
    unfolding rule_bytes
    rule_piece =
        let there : take (place + count - place) (drop place w) ≡ string_of h r =
        loaded_ranks h place count (omega (arith, e, counted, stood.inside, marked_length o h.text))
        ∙ ap₂ {C = List ℕ} (λ i n. part i n (marked o h.text)) e counted
        ∙ stood.same in
        record {
          ranks = subst (λ (s : List ℕ). Ranks s) (sym there) m.ranks;
          size = ap length there ∙ sym counted;
          same = ap (map (byte_of o)) there ∙ sym (samples_ranks o (string_of h r) m.ranks);
        }
