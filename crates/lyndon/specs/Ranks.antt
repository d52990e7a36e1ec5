-- Bytes, ranks and symbol numbers: each gives the others back. The marked text is a Lyndon word over 257 symbols.
use Rattle.std.specs.Prelude.{◌≡◌, refl, Bool, true, cond, ℕ, zero, suc, ◌+◌, ◌≤◌, ◌<◌, length, get_or, ltb, leb}
use Rattle.std.proofs.Common.{sym, ◌∙◌, ap, ap₂, subst, inl, ⊎_elim, arith, ltb-true, leb-true, lt-ltb, le-ltb, le-leb}
use mathlib.Core.List.Memᴰ.{append_right as in_right}
use mathlib.Core.List.Memᴰ.{cases_cons as in-cons}
use mathlib.Core.List.Memᴰ.{head as here}
use mathlib.Core.List.Memᴰ.{tail as there}
use mathlib.Core.List.{List, [], ◌∷◌, ◌++◌, map, tail-eq_of_cons-eq, Memᴰ as In}
use Rattle.std.proofs.lemmas.List.{length-map}
use Rattle.definitions.specs.declared.Order.{Order}
use Rattle.definitions.specs.declared.Order.TheVariants.{Unsigned, Signed}
use Rattle.definitions.specs.Words.{every}
use Rattle.definitions.specs.Table.{rank_of, byte_of, number_of_rank, rank_of_number, marked, is_drive}
use Rattle.lists.specs.Bools.{and_left, and_right, and_intro}
use Rattle.lists.specs.Numbers.{split_le, every_at, every_all}
use Rattle.lists.specs.Lists.{first_of}
use Rattle.lists.specs.Members.{in_at, at_in, in_map, map_at}
use Rattle.lyndon.specs.Lexical.{Lt}
use Rattle.lyndon.specs.Words.{Lyndon}

-- ---- the laws of an order of samples

pub rank_range : (o : Order) (b : ℕ) → b < 256 → (0 < rank_of o b) × (rank_of o b < 257)
unfolding rank_of
rank_range Unsigned b h = (omega arith, omega arith)
rank_range Signed b h = (omega arith, omega arith)

pub byte_of_rank : (o : Order) (b : ℕ) → b < 256 → byte_of o (rank_of o b) ≡ b
unfolding rank_of byte_of
byte_of_rank Unsigned b h = omega arith
byte_of_rank Signed b h = omega arith

pub rank_of_byte : (o : Order) (r : ℕ) → 0 < r → r < 257 → rank_of o (byte_of o r) ≡ r
unfolding rank_of byte_of
rank_of_byte Unsigned r h k = omega arith
rank_of_byte Signed r h k = omega arith

pub byte_range : (o : Order) (r : ℕ) → r < 257 → byte_of o r < 256
unfolding byte_of
byte_range Unsigned r h = omega arith
byte_range Signed r h = omega arith

-- signed, a byte below 128 means itself, any other itself less 256: its rank is what it means, plus 129
pub signed_rank : (b : ℕ) → b < 256 → rank_of Signed b + cond (ltb b 128) 0 256 ≡ b + 129
unfolding rank_of
signed_rank b h = split_le 128 b (λ l. rw (le-ltb b 128 l) (omega arith)) (λ l. rw (lt-ltb b 128 l) (omega arith))

-- ---- symbol numbers

pub number_range : (o : Order) (r : ℕ) → r < 257 → number_of_rank o r < 257
unfolding number_of_rank
number_range o zero h = omega arith
number_range o (suc r) h = omega (arith, byte_range o (suc r) h)

pub rank_of_number_lem : (o : Order) (r : ℕ) → r < 257 → rank_of_number o (number_of_rank o r) ≡ r
unfolding number_of_rank rank_of_number
rank_of_number_lem o zero h = refl
rank_of_number_lem o (suc r) h = rank_of_byte o (suc r) (omega arith) h

pub number_of_rank_lem : (o : Order) (n : ℕ) → n < 257 → number_of_rank o (rank_of_number o n) ≡ n
unfolding rank_of_number number_of_rank
number_of_rank_lem o zero h = refl
number_of_rank_lem o (suc b) h = go (rank_of o b) refl (rank_range o b (omega arith)).0
  where
    go : (r : ℕ) → r ≡ rank_of o b → 0 < rank_of o b → number_of_rank o (rank_of o b) ≡ suc b
    go zero e l = absurd (omega arith)
    go (suc r) e l = rw (← e) (ap suc (ap (byte_of o) e ∙ byte_of_rank o b (omega arith)))

-- ---- drives

abbrev pub Bytes : List ℕ → Type 0
Bytes text = (b : ℕ) → In b text → b < 256

-- a slice of bytes
pub slice_bytes : (text : List ℕ) → ((i : ℕ) → i < length text → get_or text i 0 < 256) → Bytes text
slice_bytes text h b m = let (i, k, e) = in_at b text m in subst (λ (x : ℕ). x < 256) e (h i k)

-- a drive: at most 2,047 samples, each a byte
pub drive_is : (text : List ℕ) → is_drive text ≡ true → (length text ≤ 2047) × Bytes text
unfolding is_drive
drive_is text e =
    let test : ℕ → Bool = λ i. ltb (get_or text i 0) 256 in (
      leb-true (length text) 2047 (and_left (leb (length text) 2047) (every test (length text)) e),
      slice_bytes text (λ i h. ltb-true (get_or text i 0) 256 (every_at test (length text) (and_right (leb (length text) 2047) (every test (length text)) e) i h)),
    )

pub is_drive_lem : (text : List ℕ) → length text ≤ 2047 → Bytes text → is_drive text ≡ true
unfolding is_drive
is_drive_lem text h b =
    let test : ℕ → Bool = λ i. ltb (get_or text i 0) 256 in
    and_intro (leb (length text) 2047) (every test (length text)) (le-leb (length text) 2047 h)
    (every_all test (length text) (λ i k. lt-ltb (get_or text i 0) 256 (b (get_or text i 0) (at_in text i k))))

-- ---- the marked text

pub bytes_back : (o : Order) (text : List ℕ) → Bytes text → map (byte_of o) (map (rank_of o) text) ≡ text
bytes_back o [] h = refl
bytes_back o (b ∷ text) h = ap₂ {C = List ℕ} (λ x l. x ∷ l) (byte_of_rank o b (h b (here refl))) (bytes_back o text (λ x m. h x (there m)))

-- a symbol before greater ones
lyndon_first : (a : ℕ) (x : List ℕ) → ((b : ℕ) → In b x → a < b) → Lyndon (a ∷ x)
lyndon_first a x h = record { filled = omega arith; least = λ p s hp hs e. least p s hp e (first_of s hs) }
  where
    least : (p s : List ℕ) → 0 < length p → a ∷ x ≡ p ++ s → (b : ℕ) × (r : List ℕ) × (s ≡ b ∷ r) → Lt (a ∷ x) s
    least [] s hp e f = absurd (omega arith)
    least (c ∷ p) s hp e (b, r, q) =
        rw q (inl (h b (subst (λ (l : List ℕ). In b l) (sym (tail-eq_of_cons-eq e)) (in_right p (rw q (here refl))))))

pub marked_lyndon : (o : Order) (text : List ℕ) → Bytes text → Lyndon (marked o text)
unfolding marked
marked_lyndon o text h =
    lyndon_first 0 (map (rank_of o) text)
    (λ r m. let (b, i, e) = in_map (rank_of o) r text m in rw e (rank_range o b (h b i)).0)

-- behind the mark there are ranks of samples
pub behind_mark : (o : Order) (text : List ℕ) → Bytes text → (i : ℕ) → 0 < i → i ≤ length text → 0 < get_or (marked o text) i 0
unfolding marked
behind_mark o text h zero z l = absurd (omega arith)
behind_mark o text h (suc i) z l = rw (map_at (rank_of o) text i (omega arith)) (rank_range o (get_or text i 0) (h (get_or text i 0) (at_in text i (omega arith)))).0

pub marked_symbols : (o : Order) (text : List ℕ) → Bytes text → (r : ℕ) → In r (marked o text) → r < 257
unfolding marked
marked_symbols o text h r m = ⊎_elim
    (λ e. omega arith)
    (λ k. let (b, i, e) = in_map (rank_of o) r text k in rw e (rank_range o b (h b i)).1)
    (in-cons m)

pub marked_length : (o : Order) (text : List ℕ) → length (marked o text) ≡ suc (length text)
unfolding marked
marked_length o text = ap suc (length-map text (rank_of o))
