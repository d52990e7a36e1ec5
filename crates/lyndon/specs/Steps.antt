-- Steps: rearranging and restoring give each other back (`restored`, `rearranged`); a search by steps is the search for the pattern's steps behind the first
-- sample of what is stored (`finds_are`), and its finds are the positions from which the same steps follow (`follows`). They do not change when one number is
-- added, modulo 256, to every sample of the drive or of the pattern (`drive_moved`, `pattern_moved`).
use Rattle.std.specs.Prelude.{◌≡◌, refl, ◌↔◌, ℕ, zero, suc, ◌+◌, ◌-◌, ◌%◌, ◌≤◌, ◌<◌, drop, get_or}
use Rattle.std.proofs.Common.{sym, ◌∙◌, ap, ap₂, ⊎_elim, arith, get_or-drop}
use mathlib.Core.List.Memᴰ.{cases_cons as in-cons}
use mathlib.Core.List.Memᴰ.{head as here}
use mathlib.Core.List.Memᴰ.{not-nil as in-nil}
use mathlib.Core.List.Memᴰ.{tail as there}
use mathlib.Core.List.{List, [], ◌∷◌, map, Memᴰ as In}
use Rattle.std.proofs.Math.ListN.{length, length-drop}
use Rattle.std.proofs.lemmas.List.{length-map}
use Rattle.definitions.specs.declared.Order.{Order}
use Rattle.definitions.specs.declared.Content.{Content}
use Rattle.definitions.specs.declared.Content.TheVariants.{Samples, Steps}
use Rattle.definitions.specs.Words.{below, begins}
use Rattle.definitions.specs.Table.{text_of}
use Rattle.definitions.specs.Occurrences.{occurrences}
use Rattle.definitions.specs.Steps.{step, steps_of, to_steps, samples_from, from_steps, step_finds, searched, finds}
use Rattle.definitions.specs.Services.{pattern_checks, search_checks, count_service, locate_service}
use Rattle.lists.specs.Numbers.{Rising, below_ext, below_in, below_lt, below_rising}
use Rattle.lists.specs.Members.{at_in, in_map, drop_map, in_drop}
use Rattle.lists.specs.Strings.{begins_entries, entries_begin}
use Rattle.lyndon.specs.Ranks.{Bytes}
use Rattle.lyndon.specs.Occurrences.{longer_nowhere}

-- ---- one step

pub step_range : (a b : ℕ) → step a b < 256
unfolding step
step_range a b = omega arith

-- from a by the step one comes to b, and only by it
pub step_on : (a b : ℕ) → a < 256 → b < 256 → (a + step a b) % 256 ≡ b
unfolding step
step_on a b h k = omega arith

pub step_is : (a b d : ℕ) → a < 256 → d < 256 → (d + a) % 256 ≡ b → d ≡ step a b
unfolding step
step_is a b d h k e = omega arith

-- ---- equal steps, without a difference

carried : (a s c : ℕ) → ((a + s) % 256 + c) % 256 ≡ (a + c + s) % 256
carried a s c = omega arith

cancelled : (k s t : ℕ) → s < 256 → t < 256 → (k + s) % 256 ≡ (k + t) % 256 → s ≡ t
cancelled k s t h l e = omega arith

-- where the steps s from a to b and t from c to d are equal, the crosswise sums are
crossed : (a b c d s t : ℕ) → (a + s) % 256 ≡ b → (c + t) % 256 ≡ d → s ≡ t → (b + c) % 256 ≡ (d + a) % 256
crossed a b c d s t e f g =
    let u : (b + c) % 256 ≡ (a + c + s) % 256 = ap (λ (x : ℕ). (x + c) % 256) (sym e) ∙ carried a s c in
    let v : (d + a) % 256 ≡ (c + a + t) % 256 = ap (λ (x : ℕ). (x + a) % 256) (sym f) ∙ carried c t a in
    let w : a + c + s ≡ c + a + t = omega arith in
    u ∙ ap (λ (x : ℕ). x % 256) w ∙ sym v

uncrossed : (a b c d s t : ℕ) → s < 256 → t < 256 → (a + s) % 256 ≡ b → (c + t) % 256 ≡ d → (b + c) % 256 ≡ (d + a) % 256 → s ≡ t
uncrossed a b c d s t h l e f g =
    let u : (b + c) % 256 ≡ (a + c + s) % 256 = ap (λ (x : ℕ). (x + c) % 256) (sym e) ∙ carried a s c in
    let v : (d + a) % 256 ≡ (c + a + t) % 256 = ap (λ (x : ℕ). (x + a) % 256) (sym f) ∙ carried c t a in
    let w : c + a + t ≡ a + c + t = omega arith in
    cancelled (a + c) s t h l (sym u ∙ g ∙ v ∙ ap (λ (x : ℕ). x % 256) w)

step_same : (a b c d : ℕ) → a < 256 → b < 256 → c < 256 → d < 256 → (step a b ≡ step c d) ↔ ((b + c) % 256 ≡ (d + a) % 256)
step_same a b c d h k m n = (
  crossed a b c d (step a b) (step c d) (step_on a b h k) (step_on c d m n),
  uncrossed a b c d (step a b) (step c d) (step_range a b) (step_range c d) (step_on a b h k) (step_on c d m n),
)

-- ---- rearranged and restored

tail_bytes : {a : ℕ} {x : List ℕ} → Bytes (a ∷ x) → Bytes x
tail_bytes h b m = h b (there m)

cons_bytes : (a : ℕ) (x : List ℕ) → a < 256 → Bytes x → Bytes (a ∷ x)
cons_bytes a x h k b m = ⊎_elim (λ e. omega arith) (λ n. k b n) (in-cons m)

samples_restored : (a : ℕ) (x : List ℕ) → a < 256 → Bytes x → samples_from a (steps_of (a ∷ x)) ≡ x
unfolding samples_from steps_of
samples_restored a [] h k = refl
samples_restored a (b ∷ x) h k =
    let l = k b (here refl) in
    rw (step_on a b h l) (ap (λ (y : List ℕ). b ∷ y) (samples_restored b x l (tail_bytes k)))

steps_restored : (a : ℕ) (y : List ℕ) → a < 256 → Bytes y → steps_of (a ∷ samples_from a y) ≡ y
unfolding samples_from steps_of
steps_restored a [] h k = refl
steps_restored a (d ∷ y) h k =
    let b = (a + d) % 256 in
    let e : (d + a) % 256 ≡ b = omega arith in
    ap₂ {C = List ℕ} (λ c l. c ∷ l) (sym (step_is a b d h (k d (here refl)) e)) (steps_restored b y (omega arith) (tail_bytes k))

pub restored : (x : List ℕ) → Bytes x → from_steps (to_steps x) ≡ x
unfolding to_steps from_steps steps_of
restored [] h = refl
restored (a ∷ x) h = ap (λ (y : List ℕ). a ∷ y) (samples_restored a x (h a (here refl)) (tail_bytes h))

pub rearranged : (y : List ℕ) → Bytes y → to_steps (from_steps y) ≡ y
unfolding to_steps from_steps steps_of
rearranged [] h = refl
rearranged (a ∷ y) h = ap (λ (l : List ℕ). a ∷ l) (steps_restored a y (h a (here refl)) (tail_bytes h))

-- ---- lengths, bytes

pub steps_length : (a : ℕ) (x : List ℕ) → length (steps_of (a ∷ x)) ≡ length x
unfolding steps_of
steps_length a [] = refl
steps_length a (b ∷ x) = ap suc (steps_length b x)

pub samples_length : (a : ℕ) (y : List ℕ) → length (samples_from a y) ≡ length y
unfolding samples_from
samples_length a [] = refl
samples_length a (d ∷ y) = ap suc (samples_length ((a + d) % 256) y)

pub from_length : (y : List ℕ) → length (from_steps y) ≡ length y
unfolding from_steps
from_length [] = refl
from_length (a ∷ y) = ap suc (samples_length a y)

pub to_length : (x : List ℕ) → length (to_steps x) ≡ length x
unfolding to_steps steps_of
to_length [] = refl
to_length (a ∷ x) = ap suc (steps_length a x)

steps_bytes : (a : ℕ) (x : List ℕ) → Bytes (steps_of (a ∷ x))
unfolding steps_of
steps_bytes a [] b m = absurd (in-nil m)
steps_bytes a (b ∷ x) c m = cons_bytes (step a b) (steps_of (b ∷ x)) (step_range a b) (steps_bytes b x) c m

pub to_bytes : (x : List ℕ) → Bytes x → Bytes (to_steps x)
unfolding to_steps steps_of
to_bytes [] h b m = absurd (in-nil m)
to_bytes (a ∷ x) h b m = cons_bytes a (steps_of (a ∷ x)) (h a (here refl)) (steps_bytes a x) b m

samples_bytes : (a : ℕ) (y : List ℕ) → Bytes (samples_from a y)
unfolding samples_from
samples_bytes a [] b m = absurd (in-nil m)
samples_bytes a (d ∷ y) b m = cons_bytes ((a + d) % 256) (samples_from ((a + d) % 256) y) (omega arith) (samples_bytes ((a + d) % 256) y) b m

pub from_bytes : (y : List ℕ) → Bytes y → Bytes (from_steps y)
unfolding from_steps
from_bytes [] h = h
from_bytes (a ∷ y) h = cons_bytes a (samples_from a y) (h a (here refl)) (samples_bytes a y)

-- ---- the search

-- the steps from a position on
steps_drop : (i : ℕ) (x : List ℕ) → steps_of (drop i x) ≡ drop i (steps_of x)
unfolding steps_of
steps_drop zero x = refl
steps_drop (suc i) [] = refl
steps_drop (suc zero) (a ∷ []) = refl
steps_drop (suc (suc i)) (a ∷ []) = refl
steps_drop (suc i) (a ∷ b ∷ x) = steps_drop i (b ∷ x)

-- the place of the stored text from which finds are counted: the kept first sample is never a step
abbrev pub start_of : Content → ℕ
start_of Samples = 0
start_of Steps = 1

steps_found : (p y : List ℕ) → 0 < length (steps_of p) → Bytes y → step_finds p (from_steps y) ≡ occurrences (steps_of p) (drop 1 y)
unfolding step_finds from_steps occurrences below
steps_found p [] h b = sym (longer_nowhere (steps_of p) [] h)
steps_found p (a ∷ y) h b =
    let x : List ℕ = a ∷ samples_from a y in
    let e : steps_of x ≡ y = steps_restored a y (b a (here refl)) (tail_bytes b) in
    ap (below (λ i. begins (steps_of p) (steps_of (drop i x)))) (ap suc (samples_length a y))
    ∙ below_ext (λ i. begins (steps_of p) (steps_of (drop i x))) (λ i. begins (steps_of p) (drop i y)) (suc (length y))
    (λ i l. ap (begins (steps_of p)) (steps_drop i x ∙ ap (drop i) e))

pub finds_are : (c : Content) (p text : List ℕ) → 0 < length (searched c p) → Bytes text → finds c p text ≡ occurrences (searched c p) (drop (start_of c) text)
unfolding finds searched
finds_are Samples p text h k = refl
finds_are Steps p text h k = steps_found p text h k

-- ---- what is found

-- the same steps as in p follow from position i of x: their differences agree modulo 256
abbrev pub FollowsAt : List ℕ → List ℕ → ℕ → Type 0
FollowsAt p x i =
    (i + length p ≤ length x)
    × ((j : ℕ) → suc j < length p → (get_or x (i + suc j) 0 + get_or p j 0) % 256 ≡ (get_or p (suc j) 0 + get_or x (i + j) 0) % 256)

pub steps_at : (a : ℕ) (x : List ℕ) (j : ℕ) → j < length x → get_or (steps_of (a ∷ x)) j 0 ≡ step (get_or (a ∷ x) j 0) (get_or x j 0)
unfolding steps_of
steps_at a [] j h = absurd (omega arith)
steps_at a (b ∷ x) zero h = refl
steps_at a (b ∷ x) (suc j) h = steps_at b x j (omega arith)

pub samples_at : (a : ℕ) (y : List ℕ) (j : ℕ) → j < length y → get_or (samples_from a y) j 0 ≡ (get_or (a ∷ samples_from a y) j 0 + get_or y j 0) % 256
unfolding samples_from
samples_at a [] j h = absurd (omega arith)
samples_at a (d ∷ y) zero h = refl
samples_at a (d ∷ y) (suc j) h = samples_at ((a + d) % 256) y j (omega arith)

-- the kept first sample is its step from 0
pub steps_from_zero : (x : List ℕ) → Bytes x → steps_of (0 ∷ x) ≡ to_steps x
unfolding to_steps steps_of
steps_from_zero [] h = refl
steps_from_zero (a ∷ x) h =
    let e : a ≡ step 0 a = step_is 0 a a (omega arith) (h a (here refl)) (first a (h a (here refl))) in
    ap (λ (b : ℕ). b ∷ steps_of (a ∷ x)) (sym e)
  where
    first : (a : ℕ) → a < 256 → (a + 0) % 256 ≡ a
    first a h = omega arith

pub samples_from_zero : (y : List ℕ) → Bytes y → samples_from 0 y ≡ from_steps y
unfolding from_steps samples_from
samples_from_zero [] h = refl
samples_from_zero (a ∷ y) h =
    let l = h a (here refl) in
    let e : (0 + a) % 256 ≡ a = omega arith in
    ap (λ (b : ℕ). b ∷ samples_from b y) e

pub steps_size : (x : List ℕ) → length (steps_of x) ≡ length x - 1
unfolding steps_of
steps_size [] = refl
steps_size (a ∷ x) = omega (arith, steps_length a x)

steps_entry : (x : List ℕ) (j : ℕ) → suc j < length x → get_or (steps_of x) j 0 ≡ step (get_or x j 0) (get_or x (suc j) 0)
steps_entry [] j h = absurd (omega arith)
steps_entry (a ∷ x) j h = steps_at a x j (omega arith)

module _ (p x : List ℕ) (long : 2 ≤ length p) (hp : Bytes p) (hx : Bytes x) where
  byte_at : (l : List ℕ) → Bytes l → (i : ℕ) → i < length l → get_or l i 0 < 256
  byte_at l h i k = h (get_or l i 0) (at_in l i k)

  -- the steps that follow, entry by entry
  there_entry : (i j : ℕ) → suc (i + j) < length x → get_or (steps_of (drop i x)) j 0 ≡ step (get_or x (i + j) 0) (get_or x (i + suc j) 0)
  there_entry i j h =
      steps_entry (drop i x) j (rw (length-drop) (omega arith))
      ∙ ap₂ {C = ℕ} step (get_or-drop i x j 0) (get_or-drop i x (suc j) 0)

  same_step : (i j : ℕ) → i + length p ≤ length x → suc j < length p
      → (get_or (steps_of (drop i x)) j 0 ≡ get_or (steps_of p) j 0) ↔ ((get_or x (i + suc j) 0 + get_or p j 0) % 256 ≡ (get_or p (suc j) 0 + get_or x (i + j) 0) % 256)
  same_step i j l h =
      let e = there_entry i j (omega arith) in
      let f = steps_entry p j h in
      let s =
      step_same (get_or x (i + j) 0) (get_or x (i + suc j) 0) (get_or p j 0) (get_or p (suc j) 0)
      (byte_at x hx (i + j) (omega arith)) (byte_at x hx (i + suc j) (omega arith)) (byte_at p hp j (omega arith)) (byte_at p hp (suc j) h) in
      (λ g. s.0 (sym e ∙ g ∙ f), λ g. e ∙ s.1 g ∙ sym f)

  pub follows : (i : ℕ) → In i (step_finds p x) ↔ FollowsAt p x i
  unfolding step_finds
  follows i = (
    λ m.
        let (l, e) = below_lt (λ k. begins (steps_of p) (steps_of (drop k x))) (length x) i m in
        let (n, f) = begins_entries (steps_of p) (steps_of (drop i x)) e in
        let fits : i + length p ≤ length x = omega (arith, steps_size p, steps_size (drop i x), length-drop i x) in
        (fits, λ j h. (same_step i j fits h).0 (f j (omega (arith, steps_size p)))),
    λ (fits, f).
        below_in (λ k. begins (steps_of p) (steps_of (drop k x))) (length x) i (omega arith)
        (entries_begin (steps_of p) (steps_of (drop i x)) (omega (arith, steps_size p, steps_size (drop i x), length-drop i x))
        (λ j h. (same_step i j fits (omega (arith, steps_size p))).1 (f j (omega (arith, steps_size p))))),
  )

pub steps_rising : (p x : List ℕ) → Rising (step_finds p x)
unfolding step_finds
steps_rising p x = below_rising (λ i. begins (steps_of p) (steps_of (drop i x))) (length x)

-- a pattern has a step exactly when it has two samples
pub two_samples : (p : List ℕ) → 0 < length (searched Steps p) → 2 ≤ length p
unfolding searched
two_samples p h = omega (arith, steps_size p)

pub steps_some : (p : List ℕ) → 2 ≤ length p → 0 < length (steps_of p)
steps_some p h = omega (arith, steps_size p)

-- ---- another centre

-- the same number added to every sample, modulo 256
unfoldable pub moved_by : ℕ → List ℕ → List ℕ
moved_by k x = map (λ b. (b + k) % 256) x

-- the steps stay
pub steps_moved : (k : ℕ) (x : List ℕ) → Bytes x → steps_of (moved_by k x) ≡ steps_of x
unfolding steps_of moved_by
steps_moved k [] h = refl
steps_moved k (a ∷ []) h = refl
steps_moved k (a ∷ b ∷ x) h =
    let e : ((b + k) % 256 + a) % 256 ≡ (b + (a + k) % 256) % 256 = omega arith in
    ap₂ {C = List ℕ} (λ d l. d ∷ l)
    ((step_same ((a + k) % 256) ((b + k) % 256) a b (omega arith) (omega arith) (h a (here refl)) (h b (there (here refl)))).1 e)
    (steps_moved k (b ∷ x) (tail_bytes h))

pub moved_length : (k : ℕ) (x : List ℕ) → length (moved_by k x) ≡ length x
unfolding moved_by
moved_length k x = length-map x (λ b. (b + k) % 256)

pub moved_bytes : (k : ℕ) (x : List ℕ) → Bytes (moved_by k x)
unfolding moved_by
moved_bytes k x b m = let (a, n, e) = in_map (λ b. (b + k) % 256) b x m in omega arith

pub pattern_moved : (k : ℕ) (p x : List ℕ) → Bytes p → step_finds (moved_by k p) x ≡ step_finds p x
unfolding step_finds
pattern_moved k p x h = ap (λ (s : List ℕ). below (λ i. begins s (steps_of (drop i x))) (length x)) (steps_moved k p h)

pub drive_moved : (k : ℕ) (p x : List ℕ) → Bytes x → step_finds p (moved_by k x) ≡ step_finds p x
unfolding step_finds moved_by
drive_moved k p x h =
    ap (below (λ i. begins (steps_of p) (steps_of (drop i (moved_by k x))))) (length-map x (λ b. (b + k) % 256))
    ∙ below_ext (λ i. begins (steps_of p) (steps_of (drop i (moved_by k x)))) (λ i. begins (steps_of p) (steps_of (drop i x))) (length x)
    (λ i l. ap (begins (steps_of p)) (ap steps_of (drop_map (λ b. (b + k) % 256) i x) ∙ steps_moved k (drop i x) (λ b m. h b (in_drop i x b m))))

-- in what is stored
pub stored_moved : (k : ℕ) (p x : List ℕ) → Bytes x → finds Steps p (to_steps (moved_by k x)) ≡ finds Steps p (to_steps x)
unfolding finds
stored_moved k p x h = ap (step_finds p) (restored (moved_by k x) (moved_bytes k x)) ∙ drive_moved k p x h ∙ sym (ap (step_finds p) (restored x h))

-- searching for a pattern and for the pattern moved are the same service: checks, finds, tests and slices
module _ (o : Order) (t : List ℕ) (k : ℕ) (p : List ℕ) (h : Bytes p) where
  same_checks : search_checks Steps (moved_by k p) ≡ search_checks Steps p
  unfolding search_checks pattern_checks moved_by
  same_checks = rw (length-map p (λ b. (b + k) % 256))

  same_finds : (text : List ℕ) → finds Steps (moved_by k p) text ≡ finds Steps p text
  unfolding finds
  same_finds text = pattern_moved k p (from_steps text) h

  same_searched : searched Steps (moved_by k p) ≡ searched Steps p
  unfolding searched
  same_searched = steps_moved k p h

  pub count_moved : (work : List ℕ) → count_service o t Steps (moved_by k p) work ≡ count_service o t Steps p work
  unfolding count_service
  count_moved work = rw (same_checks, same_finds (text_of o t), same_searched)

  pub locate_moved : (work result : List ℕ) → locate_service o t Steps (moved_by k p) work result ≡ locate_service o t Steps p work result
  unfolding locate_service
  locate_moved work result = rw (same_checks, same_finds (text_of o t), same_searched)
