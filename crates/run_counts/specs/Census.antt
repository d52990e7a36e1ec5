-- What a census lists: every run of q samples of the text and no other (`census_all`, `census_only`), strictly rising (`census_rising`), with counts that add up to the text's
-- length - q + 1, or to 0 if the text is shorter (`census_total`). Runs and counts by their keys: `census_runs_lem`, `census_counts_lem`.
use Rattle.std.specs.Prelude.{◌≡◌, Bool, cond, ℕ, zero, suc, ◌-◌, ◌≤◌, ◌<◌, length}
use Rattle.std.proofs.Math.Path.{refl, sym, ap, subst}
use Rattle.std.proofs.Common.{◌∙◌, ap₂, arith}
use Rattle.std.proofs.Math.Bool.{true, false}
use Rattle.std.proofs.Math.Logic.{⊎_elim}
use mathlib.Core.List.Memᴰ.{cases_cons as in-cons}
use mathlib.Core.List.Memᴰ.{head as here}
use mathlib.Core.List.Memᴰ.{not-nil as in-nil}
use mathlib.Core.List.Memᴰ.{tail as there}
use mathlib.Core.List.{List, [], ◌∷◌, map, map-map, Memᴰ as In}
use Rattle.std.proofs.Math.ListN.{get_or, length-map}
use borrow.Author.Tests.{lt-ltb}
use Rattle.definitions.specs.declared.Order.{Order}
use Rattle.definitions.specs.Words.{same}
use Rattle.definitions.specs.Census.{runs_of, comes_before, entered, distinct, census_runs, count_in, census_counts, total}
use Rattle.lists.specs.Strings.{same_eq}
use Rattle.lists.specs.Members.{rising_at}
use Rattle.lists.specs.Numbers.{Rising}
use Rattle.lyndon.specs.Ranks.{Bytes}
use Rattle.run_keys.specs.Keys.{key_of, run_with, key_before}
use Rattle.key_counts.specs.Keys.{count_of, distinct_keys, keys_rising, counts_total, distinct_length}
use Rattle.run_counts.specs.Runs.{Runs, distinct_only, distinct_keys_lem, distinct_back, runs_runs, runs_number, count_keys}

-- ---- members

module _ (o : Order) where
  entered_itself : (x : List ℕ) (l : List (List ℕ)) → In x (entered o x l)
  unfolding entered
  entered_itself x [] = here refl
  entered_itself x (y ∷ l) = go (same x y) refl (comes_before o x y) refl (entered_itself x l)
    where
      go : (b : Bool) → same x y ≡ b → (c : Bool) → comes_before o x y ≡ c → In x (entered o x l) → In x (cond (same x y) (y ∷ l) (cond (comes_before o x y) (x ∷ y ∷ l) (y ∷ entered o x l)))
      go true e c f m = rw e (here (same_eq x y e))
      go false e true f m = rw (e, f) (here refl)
      go false e false f m = rw (e, f) (there m)

  entered_others : (x : List ℕ) (l : List (List ℕ)) (z : List ℕ) → In z l → In z (entered o x l)
  unfolding entered
  entered_others x [] z m = absurd (in-nil m)
  entered_others x (y ∷ l) z m = go (same x y) refl (comes_before o x y) refl (λ i. entered_others x l z i)
    where
      go : (b : Bool) → same x y ≡ b → (c : Bool) → comes_before o x y ≡ c → (In z l → In z (entered o x l)) → In z (cond (same x y) (y ∷ l) (cond (comes_before o x y) (x ∷ y ∷ l) (y ∷ entered o x l)))
      go true e c f ih = rw e m
      go false e true f ih = rw (e, f) (there m)
      go false e false f ih = rw (e, f) (⊎_elim (λ q. here q) (λ i. there (ih i)) (in-cons m))

  distinct_all : (l : List (List ℕ)) (z : List ℕ) → In z l → In z (distinct o l)
  unfolding distinct
  distinct_all [] z m = m
  distinct_all (x ∷ l) z m =
      ⊎_elim (λ e. subst (λ (y : List ℕ). In y (entered o x (distinct o l))) (sym e) (entered_itself x (distinct o l))) (λ i. entered_others x (distinct o l) z (distinct_all l z i)) (in-cons m)

  -- every run of the text is listed, and no other
  pub census_all : (q : ℕ) (text x : List ℕ) → In x (runs_of q text) → In x (census_runs o q text)
  unfolding census_runs
  census_all q text x m = distinct_all (runs_of q text) x m

  pub census_only : (q : ℕ) (text x : List ℕ) → In x (census_runs o q text) → In x (runs_of q text)
  unfolding census_runs
  census_only q text x m = distinct_only o q (runs_of q text) x m

-- ---- order and counts

same_counts : (f g : List ℕ → ℕ) (l : List (List ℕ)) → ((x : List ℕ) → In x l → f x ≡ g x) → map f l ≡ map g l
same_counts f g [] h = refl
same_counts f g (x ∷ l) h = ap₂ {C = List ℕ} (λ a r. a ∷ r) (h x (here refl)) (same_counts f g l (λ z m. h z (there m)))

key_at : (o : Order) (l : List (List ℕ)) (i : ℕ) → i < length l → get_or (map (key_of o) l) i 0 ≡ key_of o (get_or l i [])
key_at o [] i h = absurd (omega arith)
key_at o (x ∷ l) zero h = refl
key_at o (x ∷ l) (suc i) h = key_at o l i (omega arith)

at_run : (l : List (List ℕ)) (i : ℕ) → i < length l → In (get_or l i []) l
at_run [] i h = absurd (omega arith)
at_run (x ∷ l) zero h = here refl
at_run (x ∷ l) (suc i) h = there (at_run l i (omega arith))

module _ (o : Order) (q : ℕ) (text : List ℕ) (bytes : Bytes text) where
  -- the keys of all runs
  abbrev all_keys : List ℕ
  all_keys = map (key_of o) (runs_of q text)

  -- each run that is listed has q bytes
  pub census_run : Runs q (census_runs o q text)
  census_run x m = runs_runs o q text bytes x (census_only o q text x m)

  keys_of : map (key_of o) (census_runs o q text) ≡ distinct_keys all_keys
  unfolding census_runs
  keys_of = distinct_keys_lem o q (runs_of q text) (runs_runs o q text bytes)

  -- the runs of the distinct keys are those that are listed
  pub census_runs_lem : map (run_with o q) (distinct_keys all_keys) ≡ census_runs o q text
  unfolding census_runs
  census_runs_lem = distinct_back o q (runs_of q text) (runs_runs o q text bytes)

  -- there are no more of them than positions from which q samples are left
  pub census_few : length (census_runs o q text) ≤ suc (length text) - q
  census_few =
      omega (arith, ap length census_runs_lem, length-map (distinct_keys all_keys) (run_with o q), distinct_length all_keys, length-map (runs_of q text) (key_of o), runs_number o q text bytes)

  pub census_counts_lem : 0 < q → map (count_of all_keys) (distinct_keys all_keys) ≡ census_counts o q text
  unfolding census_counts
  census_counts_lem filled =
      ap (map (count_of all_keys)) (sym keys_of)
      ∙ map-map (count_of all_keys) (key_of o) (census_runs o q text)
      ∙ same_counts (λ x. count_of all_keys (key_of o x)) (count_in text) (census_runs o q text) (λ x m. count_keys o q text bytes filled x (census_run x m))

  -- the runs rise
  pub census_rising : (i j : ℕ) → i < j → j < length (census_runs o q text) → comes_before o (get_or (census_runs o q text) i []) (get_or (census_runs o q text) j []) ≡ true
  unfolding comes_before
  census_rising i j h l =
      let runs = census_runs o q text in
      let x = get_or runs i [] in
      let y = get_or runs j [] in
      let hx = census_run x (at_run runs i (omega arith)) in
      let hy = census_run y (at_run runs j l) in
      let rise : Rising (map (key_of o) runs) = subst Rising (sym keys_of) (keys_rising all_keys) in
      let less = rising_at (map (key_of o) runs) rise i j h (omega (arith, length-map runs (key_of o))) in
      key_before o x y hx.0 hy.0 (hx.1 ∙ sym hy.1)
      ∙ lt-ltb (key_of o x) (key_of o y) (omega (arith, less, key_at o runs i (omega arith), key_at o runs j l))

  -- the counts add up to the number of positions from which q samples are left
  pub census_total : 0 < q → total (census_counts o q text) ≡ suc (length text) - q
  census_total filled =
      ap total (sym (census_counts_lem filled)) ∙ counts_total all_keys ∙ length-map (runs_of q text) (key_of o) ∙ runs_number o q text bytes
