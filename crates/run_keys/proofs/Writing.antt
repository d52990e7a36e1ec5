-- How a key is made, a sample more a turn (`key_step`, `key_all`), how a run is written from its key, the last sample first (`sample_stored`), and runs one behind the other
-- (`run-stored`); the keys of a text's runs, one more a turn (`keys_more`).
use mathlib.Core.Path.{◌≡◌, refl, sym, ◌∙◌, ap}
use mathlib.Core.Bool.{true}
use mathlib.Core.List.{List, [], ◌∷◌, ◌++◌, map, map-append, map-map, append_assoc, append-nil}
use Prim.Native.Nat.{ℕ, zero, suc, ◌+◌, ◌-◌, ◌*◌, ◌/◌, ◌%◌, ◌≤◌, ◌<◌}
use native.Mathlib.Omega.{arith}
use native.Mathlib.Numerals.{add-one}
use native.Mathlib.Nat.{mul-suc, mul-le-mul_left}
use lib.ListN.{length, take, drop, get_or, set, length-map, length-append, length-take}
use lib.Seq.{take-length, take-suc, length-take-le}
use Rattle.definitions.specs.declared.Order.{Order}
use Rattle.definitions.specs.Words.{placed, below}
use Rattle.definitions.specs.Table.{rank_of, byte_of}
use Rattle.definitions.specs.Services.{sample_order}
use Rattle.definitions.specs.Census.{runs_of, joined}
use Rattle.lists.specs.Numbers.{below_all}
use Rattle.lists.specs.Lists.{placed_none, placed_more, placed_last, placed_both}
use Rattle.lyndon.specs.Ranks.{slice_bytes, rank_range}
use Rattle.run_keys.specs.Keys.{digit_of, key_of, run_with, key_more, key_fits, bytes_take}

-- ---- a key, one sample more

pub key_none : (run : List ℕ) → 0 ≡ key_of sample_order (take 0 run)
unfolding key_of
key_none run = refl

module _ (run : List ℕ) (bytes : (i : ℕ) → i < length run → get_or run i 0 < 256) (short : length run ≤ 8) where
  front_fits : (i : ℕ) → i ≤ length run → key_of sample_order (take i run) < 18446744073709551616
  front_fits i h = key_fits sample_order (take i run) (bytes_take i run (slice_bytes run bytes)) (omega (arith, length-take i run))

  pub key_step : (i key r : ℕ) → i < length run → r ≡ rank_of sample_order (get_or run i 0) → key ≡ key_of sample_order (take i run)
      → (0 < r) × (r < 257) × (key * 256 + (r - 1) < 18446744073709551616) × (key * 256 + (r - 1) ≡ key_of sample_order (take (i + 1) run))
  unfolding digit_of
  key_step i key r h e f =
      let more : key * 256 + (r - 1) ≡ key_of sample_order (take (i + 1) run) = omega (arith, key_more sample_order run i h) in
      let range = rank_range sample_order (get_or run i 0) (bytes i h) in
      (omega arith, omega arith, omega (arith, front_fits (i + 1) (omega arith)), more)

pub key_all : (run : List ℕ) (i key : ℕ) → i ≡ length run → key ≡ key_of sample_order (take i run) → key ≡ key_of sample_order run
key_all run i key e f = f ∙ ap (λ (n : ℕ). key_of sample_order (take n run)) e ∙ ap (key_of sample_order) (take-length run)

-- ---- a run from its key

pub with_length : (o : Order) (q k : ℕ) → length (run_with o q k) ≡ q
unfolding run_with
with_length o zero k = refl
with_length o (suc q) k = length-append (run_with o q (k / 256)) (byte_of o (suc (k % 256)) ∷ []) ∙ omega (arith, with_length o q (k / 256))

pub sample_stored : (i k : ℕ) (out : List ℕ) (x r : ℕ) → 0 < i → i ≤ length out → r ≡ k % 256 + 1 → x ≡ byte_of sample_order r
    → placed (run_with sample_order (i - 1) (k / 256)) (set out (i - 1) x) ≡ placed (run_with sample_order i k) out
unfolding run_with
sample_stored zero k out x r h l e f = absurd (omega arith)
sample_stored (suc j) k out x r h l e f =
    let less : suc j - 1 ≡ j = omega arith in
    let w = run_with sample_order j (k / 256) in
    ap (λ (m : ℕ). placed (run_with sample_order m (k / 256)) (set out m x)) less
    ∙ ap (λ (m : ℕ). placed w (set out m x)) (sym (with_length sample_order j (k / 256)))
    ∙ sym (placed_last w out x (omega (arith, with_length sample_order j (k / 256))))
    ∙ ap (λ (b : ℕ). placed (w ++ (b ∷ [])) out) (f ∙ ap (byte_of sample_order) (e ∙ add-one (k % 256)))

pub samples_none : (i k : ℕ) (out : List ℕ) → i ≡ 0 → placed (run_with sample_order i k) out ≡ out
unfolding run_with
samples_none i k out e = ap (λ (n : ℕ). placed (run_with sample_order n k) out) e ∙ placed_none out

-- ---- the keys of a text's runs, one more a turn

-- the first i of them
abbrev pub keys_to : ℕ → List ℕ → ℕ → List ℕ
keys_to q text i = map (λ (k : ℕ). key_of sample_order (take q (drop k text))) (below (λ j. true) i)

keys_length : (q : ℕ) (text : List ℕ) (i : ℕ) → length (keys_to q text i) ≡ i
keys_length q text i = length-map (below (λ j. true) i) (λ (k : ℕ). key_of sample_order (take q (drop k text))) ∙ below_all (λ j. true) i (λ k h. refl)

pub keys_none : (q : ℕ) (text old : List ℕ) → old ≡ placed (keys_to q text 0) old
unfolding below
keys_none q text old = sym (placed_none old)

pub keys_more : (q : ℕ) (text old w : List ℕ) (i key : ℕ) → i < length old → key ≡ key_of sample_order (take q (drop i text)) → w ≡ placed (keys_to q text i) old
    → set w i key ≡ placed (keys_to q text (i + 1)) old
unfolding below
keys_more q text old w i key h e f =
    ap (λ (l : List ℕ). set l i key) f
    ∙ ap (λ (n : ℕ). set (placed (keys_to q text i) old) n key) (sym (keys_length q text i))
    ∙ sym (placed_more (keys_to q text i) old key (omega (arith, keys_length q text i)))
    ∙ ap (λ (l : List ℕ). placed l old) (ap (λ (k : ℕ). keys_to q text i ++ (k ∷ [])) e ∙ sym (map-append (λ (k : ℕ). key_of sample_order (take q (drop k text))) (below (λ j. true) i) (i ∷ [])) ∙ ap (λ (n : ℕ). keys_to q text n) (sym (add-one i)))

pub keys_all : (q : ℕ) (text old w : List ℕ) (i : ℕ) → i ≡ suc (length text) - q → w ≡ placed (keys_to q text i) old
    → (i ≡ length (runs_of q text)) × (w ≡ placed (map (key_of sample_order) (runs_of q text)) old)
unfolding runs_of
keys_all q text old w i e f = (
  sym (length-map (below (λ j. true) (suc (length text) - q)) (λ (k : ℕ). take q (drop k text)) ∙ below_all (λ i. true) (suc (length text) - q) (λ k h. refl) ∙ sym e),
  f ∙ ap (λ (n : ℕ). placed (keys_to q text n) old) e ∙ ap (λ (l : List ℕ). placed l old) (sym (map-map (key_of sample_order) (λ (k : ℕ). take q (drop k text)) (below (λ j. true) (suc (length text) - q)))),
)

-- ---- runs one behind the other

-- those of the first i keys
abbrev pub runs_to : ℕ → List ℕ → ℕ → List ℕ
runs_to q keys i = joined (map (run_with sample_order q) (take i keys))

joined_more : (l : List (List ℕ)) (x : List ℕ) → joined (l ++ (x ∷ [])) ≡ joined l ++ x
unfolding joined
joined_more [] x = append-nil x
joined_more (y ∷ l) x = ap (λ (r : List ℕ). y ++ r) (joined_more l x) ∙ sym (append_assoc y (joined l) x)

runs_more : (q : ℕ) (keys : List ℕ) (i : ℕ) → i < length keys → runs_to q keys (i + 1) ≡ runs_to q keys i ++ run_with sample_order q (get_or keys i 0)
runs_more q keys i h =
    ap (λ (n : ℕ). runs_to q keys n) (add-one i)
    ∙ ap (λ (l : List ℕ). joined (map (run_with sample_order q) l)) (take-suc keys i 0 h)
    ∙ ap joined (map-append (run_with sample_order q) (take i keys) (get_or keys i 0 ∷ []))
    ∙ joined_more (map (run_with sample_order q) (take i keys)) (run_with sample_order q (get_or keys i 0))

pub runs_length : (q : ℕ) (keys : List ℕ) → length (joined (map (run_with sample_order q) keys)) ≡ q * length keys
unfolding joined
runs_length q [] = omega arith
runs_length q (k ∷ keys) =
    omega (arith, length-append (run_with sample_order q k) (joined (map (run_with sample_order q) keys)), with_length sample_order q k, runs_length q keys, mul-suc q (length keys))

module _ (q : ℕ) (keys : List ℕ) where
  front_length : (i : ℕ) → i ≤ length keys → length (runs_to q keys i) ≡ q * i
  front_length i h = runs_length q (take i keys) ∙ ap (λ (n : ℕ). q * n) (length-take-le i keys h)

  pub runs_none : (old : List ℕ) → old ≡ placed (runs_to q keys 0) old
  unfolding joined
  runs_none old = sym (placed_none old)

  -- room for one more
  pub runs_room : (old : List ℕ) (i : ℕ) → i < length keys → q * length keys ≤ length old → q * i + q ≤ length old
  runs_room old i h room = omega (arith, mul-suc q i, mul-le-mul_left q h)

  pub runs_stored : (old w z : List ℕ) (i k : ℕ) → i < length keys → q * i + q ≤ length old → k ≡ get_or keys i 0 → w ≡ placed (runs_to q keys i) old
      → z ≡ placed (run_with sample_order q k) (take (length w - q * i) (drop (q * i) w))
      → take (q * i) w ++ (z ++ drop (length w - q * i) (drop (q * i) w)) ≡ placed (runs_to q keys (i + 1)) old
  runs_stored old w z i k h room e y r =
      let u = runs_to q keys i in
      let v = run_with sample_order q k in
      let n = front_length i (omega arith) in
      let more : u ++ v ≡ runs_to q keys (i + 1) = ap (λ (x : ℕ). u ++ run_with sample_order q x) e ∙ sym (runs_more q keys i h) in
      placed_both u v old w z (q * i) (sym n) (omega (arith, n, with_length sample_order q k)) y r ∙ ap (λ (x : List ℕ). placed x old) more

  pub runs_all : (old w : List ℕ) (i : ℕ) → i ≡ length keys → w ≡ placed (runs_to q keys i) old → w ≡ placed (joined (map (run_with sample_order q) keys)) old
  runs_all old w i e x =
      x ∙ ap (λ (k : ℕ). placed (runs_to q keys k) old) e ∙ ap (λ (l : List ℕ). placed (joined (map (run_with sample_order q) l)) old) (take-length keys)
