-- One table in several orders of samples: a table that an order accepts spells the same drive in every order (`same_drive`), and orders that agree on the samples of a drive
-- have the same table for it (`same_table`). An unsigned table is the signed one too exactly where its samples are all below 128, or none is (`both_accepted`).
-- What converting returns is the other order's table of the same drive and chair number, in every call that serves (`convert_returned`).
use Rattle.std.specs.Prelude.{◌≡◌, refl, Bool, true, false, ◌&&◌, ◌⊎◌, ◌↔◌, ℕ, zero, suc, ◌-◌, ◌≤◌, ◌<◌, length, take, drop, get_or, ltb, eqb}
use Rattle.std.proofs.Common.{sym, ◌∙◌, ap₂, subst, inl, inr, ⊎_elim, arith, length-append, lt-ltb, le-ltb, eq-eqb, ne_eqb}
use Rattle.std.proofs.Math.Path.{ap}
use Rattle.std.proofs.Math.Bool.{not}
use mathlib.Core.List.Memᴰ.{append_right as in_right}
use mathlib.Core.List.Memᴰ.{cases_cons as in-cons}
use mathlib.Core.List.Memᴰ.{eq_of_singleton as in_one}
use mathlib.Core.List.Memᴰ.{head as here}
use mathlib.Core.List.Memᴰ.{not-nil as in-nil}
use mathlib.Core.List.Memᴰ.{tail as there}
use mathlib.Core.List.{List, [], ◌∷◌, ◌++◌, map, map-append, append_assoc, append-nil, head-eq_of_cons-eq, tail-eq_of_cons-eq, Memᴰ as In}
use Rattle.std.proofs.lemmas.List.{length-map}
use Rattle.std.proofs.lemmas.Bool.{not-false}
use Rattle.definitions.specs.declared.Order.{Order}
use Rattle.definitions.specs.declared.Order.TheVariants.{Unsigned, Signed}
use Rattle.definitions.specs.declared.Content.{Content}
use Rattle.definitions.specs.declared.Content.TheVariants.{Samples, Steps}
use Rattle.definitions.specs.Words.{placed, lexlt}
use Rattle.definitions.specs.Table.{rank_of, byte_of, number_of_rank, rank_of_number, marked, table_of, rule_string, spelled, text_of, chair_of, is_table, rule_count}
use Rattle.definitions.specs.Services.{Answer, sample_order, former_order, Check, Service, Outcome, done, refused, outcome_of, alone, first_met, cleared, outcome, slices_after, Serves, Answers, work_too_short, table_length, has_bad_word, not_a_table, result_too_short, table_checks, pattern_checks, search_checks, check_service, read_service, extract_service, count_service, locate_service, convert_order_service}
use Rattle.lists.specs.Bools.{not_so}
use Rattle.lists.specs.Numbers.{split_le, split_lt, every_at, every_all}
use Rattle.lists.specs.Lists.{Overlap, within, across, overlap, placed_front}
use Rattle.lists.specs.Members.{in_map}
use Rattle.lists.specs.Decisions.{First, met, later, Passed, none, first_decides, first_before, passed_front}
use Rattle.lists.specs.Serving.{done_served, alone_alike}
use Rattle.lyndon.specs.Lexical.{Lt}
use Rattle.lyndon.specs.Factorization.{Std}
use Rattle.lyndon.specs.Ranks.{Bytes, rank_range, number_of_rank_lem, bytes_back}
use Rattle.lyndon.specs.Stored.{Stored, Acceptable, passes, accepted, table_accepted, table_text, table_chair, accepted_stored, accepted_table, accepted_spelled}
use Rattle.lyndon.specs.Shapes.{Shaped}
use Rattle.lyndon.specs.Back.{built_checked, built_read, built_back, passed_acceptable}
use Rattle.lyndon.specs.Finds.{same_number}
use Rattle.lyndon.specs.Ruled.{Ruled, symbol, pair, PairOf, ruled}
use Rattle.lyndon.specs.Standard.{ordered, ordered_symbol, ordered_one, ordered_two, rule_standard}
use Rattle.lyndon.specs.Marks.{drive_marked}
use Rattle.lyndon.specs.Accepted.{accepted_shaped, accepted_symbols}
use Rattle.lyndon.specs.Judging.{judged}

-- ---- what a table spells in two orders

-- the rank in p of the symbol that has rank a in o
abbrev rank_in : Order → Order → ℕ → ℕ
rank_in o p a = rank_of_number p (number_of_rank o a)

rank_in_lem : (o p : Order) (b : ℕ) → b < 256 → rank_in o p (rank_of o b) ≡ rank_of p b
unfolding rank_of_number
rank_in_lem o p b h = ap (rank_of_number p) (number_of_rank_lem o (suc b) (omega arith))

marked_in : (o p : Order) (x : List ℕ) → Bytes x → map (rank_in o p) (marked o x) ≡ marked p x
unfolding marked number_of_rank rank_of_number
marked_in o p x h = ap {B = List ℕ} (λ l. 0 ∷ l) (samples x h)
  where
    samples : (y : List ℕ) → Bytes y → map (rank_in o p) (map (rank_of o) y) ≡ map (rank_of p) y
    samples [] k = refl
    samples (b ∷ y) k = ap₂ {C = List ℕ} (λ r l. r ∷ l) (rank_in_lem o p b (k b (here refl))) (samples y (λ c m. k c (there m)))

-- by rule number: the words of a table hold symbol numbers, which are the same in every order
string_below : (o p : Order) (t : List ℕ) → Shaped t → (b r : ℕ) → r < b → r < rule_count t → rule_string p t r ≡ map (rank_in o p) (rule_string o t r)
string_below o p t s zero r l h = absurd (omega arith)
string_below o p t s (suc b) r l h = go (ruled t s r h) (λ q m. string_below o p t s b q (omega arith) (omega arith))
  where
    go : Ruled t r → ((q : ℕ) → q < r → rule_string p t q ≡ map (rank_in o p) (rule_string o t q)) → rule_string p t r ≡ map (rank_in o p) (rule_string o t r)
    go (symbol n _ k) ih = rw (k.string p, k.string o, number_of_rank_lem o n k.number)
    go (pair u v k) ih =
        rw (k.string p, k.string o, map-append (rank_in o p) (rule_string o t u) (rule_string o t v))
        (ap₂ {C = List ℕ} (λ x y. x ++ y) (ih u k.left) (ih v k.right))

string_in : (o p : Order) (t : List ℕ) → Shaped t → (r : ℕ) → r < rule_count t → rule_string p t r ≡ map (rank_in o p) (rule_string o t r)
string_in o p t s r h = string_below o p t s (suc r) r (omega arith) h

-- of a table that o accepts, in p
spelled_in : (o p : Order) (t : List ℕ) → is_table o t ≡ true → spelled p t ≡ marked p (text_of o t)
unfolding spelled
spelled_in o p t a =
    let s = accepted_shaped o t a in
    string_in o p t s (rule_count t - 1) (omega (arith, s.even, s.filled))
    ∙ ap (map (rank_in o p)) (accepted_spelled o t a)
    ∙ marked_in o p (text_of o t) (accepted_stored o t a).bytes

-- a table that o accepts spells the same drive in every order, whether that accepts it or not
pub same_drive : (o p : Order) (t : List ℕ) → is_table o t ≡ true → text_of p t ≡ text_of o t
unfolding text_of marked
same_drive o p t a = ap (λ (z : List ℕ). map (byte_of p) (drop 1 z)) (spelled_in o p t a) ∙ bytes_back p (text_of o t) (accepted_stored o t a).bytes

-- so one that both orders accept spells the same drive in both
pub both_spell : (o p : Order) (t : List ℕ) → is_table o t ≡ true → is_table p t ≡ true → text_of o t ≡ text_of p t
both_spell o p t a b = sym (same_drive o p t a)

-- two tables, in whatever orders, are equal only if drive and chair number are
pub orders_injective : (o p : Order) (x y : List ℕ) (c d : ℕ) → Stored x c → Stored y d → table_of o x c ≡ table_of p y d → (x ≡ y) × (c ≡ d)
orders_injective o p x y c d h k e = (
  sym (table_text o x c h) ∙ sym (same_drive o p (table_of o x c) (table_accepted o x c h)) ∙ ap (text_of p) e ∙ table_text p y d k,
  sym (table_chair o x c h) ∙ ap chair_of e ∙ table_chair p y d k,
)

-- ---- orders that agree on the samples of a drive

-- p orders the samples of x as o does
abbrev pub Agree : Order → Order → List ℕ → Type 0
Agree o p x = (a b : ℕ) → In a x → In b x → rank_of o a < rank_of o b → rank_of p a < rank_of p b

-- symbols that are replaced and keep their order compare as before
kept_symbols : (a b c d : ℕ) → (a < b → c < d) → (a ≡ b → c ≡ d) → (b < a → d < c) → (ltb c d ≡ ltb a b) × (eqb c d ≡ eqb a b)
kept_symbols a b c d less same more = split_lt a b
    (λ l. (rw (lt-ltb a b l, lt-ltb c d (less l)), rw (ne_eqb a b (λ e. omega arith), ne_eqb c d (λ e. omega (arith, less l)))))
    (λ e. (rw (le-ltb a b (omega arith), le-ltb c d (omega (arith, same e))), rw (eq-eqb a b e, eq-eqb c d (same e))))
    (λ l. (rw (le-ltb a b (omega arith), le-ltb c d (omega (arith, more l))), rw (ne_eqb a b (λ e. omega arith), ne_eqb c d (λ e. omega (arith, more l)))))

-- and so do strings of such symbols
kept_strings : (f : ℕ → ℕ) (s : List ℕ) → ((a b : ℕ) → In a s → In b s → a < b → f a < f b)
    → (x y : List ℕ) → ((a : ℕ) → In a x → In a s) → ((b : ℕ) → In b y → In b s) → lexlt (map f x) (map f y) ≡ lexlt x y
unfolding lexlt
kept_strings f s keep [] [] h k = refl
kept_strings f s keep (a ∷ x) [] h k = refl
kept_strings f s keep [] (b ∷ y) h k = refl
kept_strings f s keep (a ∷ x) (b ∷ y) h k =
    let m = h a (here refl) in
    let n = k b (here refl) in
    let kept = kept_symbols a b (f a) (f b) (keep a b m n) (ap f) (keep b a n m) in
    rw (kept.0, kept.1, kept_strings f s keep x y (λ c i. h c (there i)) (λ c i. k c (there i)))

-- the mark comes first in every order
marked_kept : (o p : Order) (x : List ℕ) → Bytes x → Agree o p x → (b c : ℕ) → In b (marked o x) → In c (marked o x) → b < c → rank_in o p b < rank_in o p c
unfolding marked number_of_rank rank_of_number
marked_kept o p x h agree b c m n l = go (in-cons m) (in-cons n)
  where
    go : (b ≡ 0) ⊎ In b (map (rank_of o) x) → (c ≡ 0) ⊎ In c (map (rank_of o) x) → rank_in o p b < rank_in o p c
    go i (inl f) = absurd (omega arith)
    go (inl e) (inr j) = let (d, k, f) = in_map (rank_of o) c x j in rw (e, f, rank_in_lem o p d (h d k)) (rank_range p d (h d k)).0
    go (inr i) (inr j) =
        let (d, k, f) = in_map (rank_of o) c x j in
        let (g, q, e) = in_map (rank_of o) b x i in
        rw (e, f, rank_in_lem o p d (h d k), rank_in_lem o p g (h g q)) (agree g d q k (omega arith))

-- the two comparisons of each rule then come out alike, and nothing else in judging a table looks at the order
module _ (o p : Order) (t : List ℕ) (a : is_table o t ≡ true) (agree : Agree o p (text_of o t)) where
  same_compare : (q r : ℕ) → q < rule_count t → r < rule_count t → lexlt (rule_string p t q) (rule_string p t r) ≡ lexlt (rule_string o t q) (rule_string o t r)
  same_compare q r h k =
      let s = accepted_shaped o t a in
      rw (string_in o p t s q h, string_in o p t s r k)
      (kept_strings (rank_in o p) (marked o (text_of o t)) (marked_kept o p (text_of o t) (accepted_stored o t a).bytes agree)
      (rule_string o t q) (rule_string o t r) (accepted_symbols o t a q h) (accepted_symbols o t a r k))

  same_ordered : (r : ℕ) → r < rule_count t → ordered p t r ≡ ordered o t r
  same_ordered r h = go (ruled t (accepted_shaped o t a) r h)
    where
      go : Ruled t r → ordered p t r ≡ ordered o t r
      go (symbol _ _ k) = ordered_symbol p k ∙ sym (ordered_symbol o k)
      go (pair u v k) = left (ruled t (accepted_shaped o t a) u (omega (arith, k.left)))
        where
          halves : lexlt (rule_string p t u) (rule_string p t v) ≡ lexlt (rule_string o t u) (rule_string o t v)
          halves = same_compare u v (omega (arith, k.left)) (omega (arith, k.right))

          left : Ruled t u → ordered p t r ≡ ordered o t r
          left (symbol _ _ q) = ordered_one p k q ∙ halves ∙ sym (ordered_one o k q)
          left (pair x y q) =
              ordered_two p k q
              ∙ ap₂ {C = Bool} (λ c d. c && not d) halves (same_compare y v (omega (arith, k.left, q.right)) (omega (arith, k.right)))
              ∙ sym (ordered_two o k q)

  -- a table that o accepts is accepted by every order that agrees with o on its samples
  pub agree_accepted : is_table p t ≡ true
  agree_accepted =
      let s = accepted_shaped o t a in
      let ok = accepted_stored o t a in
      let sound = (judged o t s).0 a in
      (judged p t s).1 record {
        root = rw (spelled_in o p t a) (drive_marked p (text_of o t) ok.short ok.bytes);
        distinct = sound.distinct;
        standard = every_all (ordered p t) (rule_count t) (λ r h. same_ordered r h ∙ every_at (ordered o t) (rule_count t) sound.standard r h);
        met = sound.met;
      }

-- so orders that agree on the samples of a drive have the same table for it
pub same_table : (o p : Order) (x : List ℕ) (c : ℕ) → Stored x c → Agree o p x → table_of p x c ≡ table_of o x c
same_table o p x c ok agree =
    let t = table_of o x c in
    let a = table_accepted o x c ok in
    let e = table_text o x c ok in
    let b = agree_accepted o p t a (subst (Agree o p) (sym e) agree) in
    ap₂ {C = List ℕ} (λ y d. table_of p y d) (sym (same_drive o p t a ∙ e)) (sym (table_chair o x c ok)) ∙ accepted_table p t b

-- the samples all below 128, or none of them: signed and unsigned agree
pub agree_low : (x : List ℕ) → ((b : ℕ) → In b x → b < 128) → Agree Unsigned Signed x
unfolding rank_of
agree_low x h a b m n l = omega (arith, h a m, h b n)

pub agree_high : (x : List ℕ) → Bytes x → ((b : ℕ) → In b x → 128 ≤ b) → Agree Unsigned Signed x
unfolding rank_of
agree_high x k h a b m n l = omega (arith, h a m, h b n, k a m, k b n)

-- ---- a table that two orders accept

-- c and d do not stand the other way round than a and b
abbrev pub Unopposed : ℕ → ℕ → ℕ → ℕ → Type 0
Unopposed a b c d = ((a ≤ b) × (c ≤ d)) ⊎ ((b ≤ a) × (d ≤ c))

-- a smaller string does not begin with a greater symbol
first_most : (a b : ℕ) (x y : List ℕ) → Lt (a ∷ x) (b ∷ y) → a ≤ b
first_most a b x y h = ⊎_elim (λ l. omega arith) (λ l. omega (arith, l.0)) h

-- where two halves meet: behind a left half of one symbol stands none that is smaller, behind a longer one none that is greater than its last
halves_meet : (x y : List ℕ) (a b : ℕ) → Std (x ++ (a ∷ [])) (b ∷ y) → Lt (x ++ (a ∷ [])) (b ∷ y) → (length x ≡ 0 → a ≤ b) × (0 < length x → b ≤ a)
halves_meet [] y a b d l = (λ e. first_most a b [] y l, λ h. absurd (omega arith))
halves_meet (c ∷ x) y a b d l = (
  λ e. absurd (omega arith),
  λ h. ⊎_elim
      (λ e. absurd (omega (arith, ap length e)))
      (λ m. first_most b a y (b ∷ y) m)
      (d.least (c ∷ x) (a ∷ b ∷ y) (omega arith) (omega arith) (append_assoc (c ∷ x) (a ∷ []) (b ∷ y))),
)

-- neighbours in a list of bytes are bytes
neighbour_bytes : (z : List ℕ) → Bytes z → (x y : List ℕ) (c d : ℕ) → z ≡ x ++ (c ∷ d ∷ y) → (c < 256) × (d < 256)
neighbour_bytes z h x y c d e = (h c (rw e (in_right x (here refl))), h d (rw e (in_right x (there (here refl)))))

module _ (o p : Order) (t : List ℕ) (a : is_table o t ≡ true) (b : is_table p t ≡ true) where
  shaped : Shaped t
  shaped = accepted_shaped o t a

  -- which of the two it is depends on the rules alone, so the orders say the same of the symbols at a join
  join_neighbours : (r u v : ℕ) → r < rule_count t → PairOf t r u v → (x y : List ℕ) (c d : ℕ) → rule_string o t u ≡ x ++ (c ∷ []) → rule_string o t v ≡ d ∷ y
      → Unopposed c d (rank_in o p c) (rank_in o p d)
  join_neighbours r u v h k x y c d e g =
      let f = rank_in o p in
      let (first, longer) = meeting o a x y c d e g in
      let (first', longer') = meeting p b (map f x) (map f y) (f c) (f d)
      (string_in o p t shaped u (omega (arith, k.left)) ∙ ap (map f) e ∙ map-append f x (c ∷ []))
      (string_in o p t shaped v (omega (arith, k.right)) ∙ ap (map f) g) in
      let size = length-map x f in
      split_le (length x) 0 (λ l. inl (first (omega arith), first' (omega arith))) (λ l. inr (longer l, longer' (omega arith)))
    where
      meeting : (q : Order) → is_table q t ≡ true → (l m : List ℕ) (i j : ℕ) → rule_string q t u ≡ l ++ (i ∷ []) → rule_string q t v ≡ j ∷ m → (length l ≡ 0 → i ≤ j) × (0 < length l → j ≤ i)
      meeting q w l m i j e g =
          let (std, less) = rule_standard q t shaped ((judged q t shaped).0 w).standard r u v h k in
          halves_meet l m i j (rw (e, g) at std) (rw (e, g) at less)

  -- by rule number: neighbours in a rule's string are neighbours in a half, or meet at its join
  string_neighbours : (n r : ℕ) → r < n → r < rule_count t → (x y : List ℕ) (c d : ℕ) → rule_string o t r ≡ x ++ (c ∷ d ∷ y) → Unopposed c d (rank_in o p c) (rank_in o p d)
  string_neighbours zero r l h x y c d e = absurd (omega arith)
  string_neighbours (suc n) r l h x y c d e = go (ruled t shaped r h) (λ q m. string_neighbours n q (omega arith) (omega arith))
    where
      go : Ruled t r → ((q : ℕ) → q < r → (x y : List ℕ) (c d : ℕ) → rule_string o t q ≡ x ++ (c ∷ d ∷ y) → Unopposed c d (rank_in o p c) (rank_in o p d))
          → Unopposed c d (rank_in o p c) (rank_in o p d)
      go (symbol m _ k) ih = absurd (omega (arith, simp length-append at (ap length (sym (k.string o) ∙ e))))
      go (pair u v k) ih = lie (overlap x (c ∷ d ∷ y) (rule_string o t u) (rule_string o t v) (sym e ∙ k.string o))
        where
          lie : Overlap x (c ∷ d ∷ y) (rule_string o t u) (rule_string o t v) → Unopposed c d (rank_in o p c) (rank_in o p d)
          lie (within q f g) = ih v k.right q y c d g
          lie (across [] z f g) = absurd (omega arith)
          lie (across (i ∷ []) z f g) =
              join_neighbours r u v h k x y c d
              (f ∙ ap {B = List ℕ} (λ s. x ++ (s ∷ [])) (sym (head-eq_of_cons-eq g)))
              (sym (tail-eq_of_cons-eq g))
          lie (across (i ∷ j ∷ q) z f g) =
              ih u k.left x q c d
              (f ∙ ap₂ {C = List ℕ} (λ m s. x ++ (m ∷ s ∷ q)) (sym (head-eq_of_cons-eq g)) (sym (head-eq_of_cons-eq (tail-eq_of_cons-eq g))))

  -- neighbouring samples of the drive never stand in opposite orders
  pub neighbours : (x y : List ℕ) (c d : ℕ) → text_of o t ≡ x ++ (c ∷ d ∷ y) → Unopposed (rank_of o c) (rank_of o d) (rank_of p c) (rank_of p d)
  unfolding spelled marked
  neighbours x y c d e =
      let (h, k) = neighbour_bytes (text_of o t) (accepted_stored o t a).bytes x y c d e in
      let root : rule_count t - 1 < rule_count t = omega (arith, shaped.even, shaped.filled) in
      rw (rank_in_lem o p c h, rank_in_lem o p d k) at
      (string_neighbours (rule_count t) (rule_count t - 1) root root
      (0 ∷ map (rank_of o) x) (map (rank_of o) y) (rank_of o c) (rank_of o d)
      (accepted_spelled o t a ∙ ap (marked o) e ∙ ap {B = List ℕ} (λ l. 0 ∷ l) (map-append (rank_of o) x (c ∷ d ∷ y))))

-- ---- signed and unsigned

-- all samples of x are below 128, or all are 128 and above
abbrev pub OneSided : List ℕ → Type 0
OneSided x = ((b : ℕ) → In b x → b < 128) ⊎ ((b : ℕ) → In b x → 128 ≤ b)

-- the same of two
abbrev SameSide : ℕ → ℕ → Type 0
SameSide a b = ((a < 128) × (b < 128)) ⊎ ((128 ≤ a) × (128 ≤ b))

-- all samples are on one side where neighbours always are
one_sided : (x : List ℕ) → ((l r : List ℕ) (a b : ℕ) → x ≡ l ++ (a ∷ b ∷ r) → SameSide a b) → OneSided x
one_sided [] h = inl (λ b m. absurd (in-nil m))
one_sided (a ∷ []) h = split_le 128 a (λ k. inr (λ b m. rw (in_one m) k)) (λ k. inl (λ b m. rw (in_one m) k))
one_sided (a ∷ b ∷ x) h = go (one_sided (b ∷ x) (λ l r c d e. h (a ∷ l) r c d (ap {B = List ℕ} (λ z. a ∷ z) e))) (h [] x a b refl)
  where
    go : OneSided (b ∷ x) → SameSide a b → OneSided (a ∷ b ∷ x)
    go (inl f) (inl k) = inl (λ c m. ⊎_elim (λ e. rw e k.0) (f c) (in-cons m))
    go (inr f) (inr k) = inr (λ c m. ⊎_elim (λ e. rw e k.0) (f c) (in-cons m))
    go (inl f) (inr k) = absurd (omega (arith, k.1, f b (here refl)))
    go (inr f) (inl k) = absurd (omega (arith, k.1, f b (here refl)))

-- bytes on different sides stand in opposite orders
same_side : (a b : ℕ) → a < 256 → b < 256 → Unopposed (rank_of Unsigned a) (rank_of Unsigned b) (rank_of Signed a) (rank_of Signed b) → SameSide a b
unfolding rank_of
same_side a b h k (inl e) = split_le 128 a (λ l. inr (l, omega (arith, e.0, e.1))) (λ l. inl (l, omega (arith, e.0, e.1)))
same_side a b h k (inr e) = split_le 128 a (λ l. inr (l, omega (arith, e.0, e.1))) (λ l. inl (l, omega (arith, e.0, e.1)))

-- so a table that both accept has all its samples on one side
pub both_sides : (t : List ℕ) → is_table Unsigned t ≡ true → is_table Signed t ≡ true → OneSided (text_of Unsigned t)
both_sides t a b = one_sided (text_of Unsigned t) (λ l r c d e.
    let (h, k) = neighbour_bytes (text_of Unsigned t) (accepted_stored Unsigned t a).bytes l r c d e in
    same_side c d h k (neighbours Unsigned Signed t a b l r c d e))

-- and of unsigned tables, those and no others are signed tables
pub both_accepted : (t : List ℕ) → is_table Unsigned t ≡ true → (is_table Signed t ≡ true) ↔ OneSided (text_of Unsigned t)
both_accepted t a = (
  both_sides t a,
  λ h. agree_accepted Unsigned Signed t a (⊎_elim (agree_low (text_of Unsigned t)) (agree_high (text_of Unsigned t) (accepted_stored Unsigned t a).bytes) h),
)

-- ---- what converting writes, of a table that o accepts

module _ (o p : Order) (t : List ℕ) (a : is_table o t ≡ true) where
  -- p accepts it
  pub converted_accepted : is_table p (table_of p (text_of o t) (chair_of t)) ≡ true
  converted_accepted = table_accepted p (text_of o t) (chair_of t) (accepted_stored o t a)

  -- it spells the same drive
  pub converted_text : text_of p (table_of p (text_of o t) (chair_of t)) ≡ text_of o t
  converted_text = table_text p (text_of o t) (chair_of t) (accepted_stored o t a)

  -- and has the same chair number
  pub converted_chair : chair_of (table_of p (text_of o t) (chair_of t)) ≡ chair_of t
  converted_chair = table_chair p (text_of o t) (chair_of t) (accepted_stored o t a)

  -- it is the same table exactly where p accepts that one too
  pub converted_same : (is_table p t ≡ true) ↔ (table_of p (text_of o t) (chair_of t) ≡ t)
  converted_same = (
    λ b. ap (λ (x : List ℕ). table_of p x (chair_of t)) (sym (same_drive o p t a)) ∙ accepted_table p t b,
    λ e. subst (λ (x : List ℕ). is_table p x ≡ true) e converted_accepted,
  )

  -- converted back it is the table that was handed over
  pub converted_back : table_of o (text_of p (table_of p (text_of o t) (chair_of t))) (chair_of (table_of p (text_of o t) (chair_of t))) ≡ t
  converted_back = ap₂ {C = List ℕ} (λ x c. table_of o x c) converted_text converted_chair ∙ accepted_table o t a

-- ---- a former table where the services speak of signed samples

-- x has samples on both sides of 128
abbrev pub Mixed : List ℕ → Type 0
Mixed x = (low : ℕ) × (high : ℕ) × In low x × In high x × (low < 128) × (128 ≤ high)

module _ (t : List ℕ) (a : is_table former_order t ≡ true) where
  former_acceptable : Acceptable former_order t
  former_acceptable = (passes former_order t).1 ((accepted former_order t).0 a)

  -- with samples on one side it is accepted as it is
  pub former_kept : OneSided (text_of former_order t) → (work : List ℕ) → 16384 ≤ length work → outcome (check_service sample_order t work) ≡ done (rule_count t) 0
  unfolding outcome check_service table_checks first_met
  former_kept h work long = rw (le-ltb (length work) 16384 long, former_acceptable.0, former_acceptable.1, (both_accepted t a).1 h)

  module _ (mixed : Mixed (text_of former_order t)) where
    -- with samples on both it is no table
    pub mixed_no_table : is_table sample_order t ≡ false
    mixed_no_table =
        let (low, high, i, j, l, h) = mixed in
        not_so (is_table sample_order t) (λ b. ⊎_elim (λ f. omega (arith, h, f high j)) (λ f. omega (arith, l, f low i)) (both_sides t a b))

    mixed_first : (n : ℕ) → 16384 ≤ n → First (not_a_table sample_order t) (table_checks sample_order t n)
    unfolding table_checks
    mixed_first n long =
        later (work_too_short n) (le-ltb n 16384 long)
        (later (table_length (length t)) former_acceptable.0 (later (has_bad_word t) former_acceptable.1 (met (ap not mixed_no_table))))

    -- and every service that it is handed to says so, once what is checked before is passed
    pub mixed_refused : (s : Service) (n : ℕ) (front rest : List Check) → s.checks ≡ front ++ (table_checks sample_order t n ++ rest) → 16384 ≤ n → Passed front → outcome s ≡ refused 7 0
    unfolding outcome
    mixed_refused s n front rest e long p =
        let refusal : Check → Outcome = λ c. refused c.number c.place in
        ap (λ (c : List Check). first_met c refusal s.success) e
        ∙ passed_front (table_checks sample_order t n ++ rest) refusal s.success p
        ∙ first_decides (not_a_table sample_order t) refusal s.success (first_before rest (mixed_first n long))

    -- checking among them
    pub mixed_checked : (work : List ℕ) → 16384 ≤ length work → outcome (check_service sample_order t work) ≡ refused 7 0
    unfolding check_service
    mixed_checked work long = mixed_refused (check_service sample_order t work) (length work) [] [] (sym (append-nil (table_checks sample_order t (length work)))) long none

-- ---- the services

-- two services that answer alike and leave the same in the lent slices
abbrev pub Alike : Service → Service → Type 0
Alike s z = (outcome s ≡ outcome z) × (slices_after s ≡ slices_after z)

-- two searches that find the same and leave the same in the lent slices; their tests may differ, for another order has other pair rules and other cuts
abbrev pub FindAlike : Service → Service → Type 0
FindAlike s z = (alone (outcome s) ≡ alone (outcome z)) × (slices_after s ≡ slices_after z)

-- a table that passes by o and one that passes by p, with the same drive: what speaks of the drive alone answers alike, whatever is lent
module _ (o p : Order) (t u : List ℕ) (h : Acceptable o t) (k : Acceptable p u) (e : text_of p u ≡ text_of o t) where
  alike_read : chair_of u ≡ chair_of t → (work result : List ℕ) → Alike (read_service p u work result) (read_service o t work result)
  unfolding outcome slices_after read_service table_checks first_met
  alike_read c work result = (rw (h.0, h.1, h.2, k.0, k.1, k.2, e, c), rw (h.0, h.1, h.2, k.0, k.1, k.2, e))

  alike_extract : (start count : ℕ) (work result : List ℕ) → Alike (extract_service p u start count work result) (extract_service o t start count work result)
  unfolding outcome slices_after extract_service table_checks first_met
  alike_extract start count work result = (rw (h.0, h.1, h.2, k.0, k.1, k.2, e), rw (h.0, h.1, h.2, k.0, k.1, k.2, e))

  alike_count : (c : Content) (pattern work : List ℕ) → FindAlike (count_service p u c pattern work) (count_service o t c pattern work)
  unfolding slices_after count_service search_checks pattern_checks table_checks first_met alone
  alike_count Samples pattern work = (
    alone_alike (count_service p u Samples pattern work) (count_service o t Samples pattern work) (rw (h.0, h.1, h.2, k.0, k.1, k.2, e)),
    rw (h.0, h.1, h.2, k.0, k.1, k.2),
  )
  alike_count Steps pattern work = (
    alone_alike (count_service p u Steps pattern work) (count_service o t Steps pattern work) (rw (h.0, h.1, h.2, k.0, k.1, k.2, e)),
    rw (h.0, h.1, h.2, k.0, k.1, k.2),
  )

  alike_locate : (c : Content) (pattern work result : List ℕ) → FindAlike (locate_service p u c pattern work result) (locate_service o t c pattern work result)
  unfolding slices_after locate_service search_checks pattern_checks table_checks first_met alone
  alike_locate Samples pattern work result = (
    alone_alike (locate_service p u Samples pattern work result) (locate_service o t Samples pattern work result) (rw (h.0, h.1, h.2, k.0, k.1, k.2, e)),
    rw (h.0, h.1, h.2, k.0, k.1, k.2, e),
  )
  alike_locate Steps pattern work result = (
    alone_alike (locate_service p u Steps pattern work result) (locate_service o t Steps pattern work result) (rw (h.0, h.1, h.2, k.0, k.1, k.2, e)),
    rw (h.0, h.1, h.2, k.0, k.1, k.2, e),
  )

-- what is promised of the words u that converting the table t from order o to order p returns
pub record Converted (o p : Order) (t u : List ℕ) : Type 0 where
  -- o accepts t, and u is the table in p of its drive and chair number
  pub before : is_table o t ≡ true
  pub table : u ≡ table_of p (text_of o t) (chair_of t)
  -- checking by p accepts it
  pub checked : (work : List ℕ) → 16384 ≤ length work → outcome (check_service p u work) ≡ done (rule_count u) 0
  -- reading by p gives the drive and the chair number
  pub read : (work : List ℕ) → 16384 ≤ length work → (result : List ℕ) → length (text_of o t) ≤ length result
      → (outcome (read_service p u work result) ≡ done (length (text_of o t)) (chair_of t))
      × (slices_after (read_service p u work result) ≡ cleared work ∷ placed (text_of o t) result ∷ [])
  -- whatever is lent, reading by p answers of u what reading by o answers of t, and so does extracting; counting and locating find the same
  pub reads : (work result : List ℕ) → Alike (read_service p u work result) (read_service o t work result)
  pub extracts : (start count : ℕ) (work result : List ℕ) → Alike (extract_service p u start count work result) (extract_service o t start count work result)
  pub counts : (c : Content) (pattern work : List ℕ) → FindAlike (count_service p u c pattern work) (count_service o t c pattern work)
  pub locates : (c : Content) (pattern work result : List ℕ) → FindAlike (locate_service p u c pattern work result) (locate_service o t c pattern work result)

converted : (o p : Order) (t : List ℕ) → Acceptable o t → Converted o p t (table_of p (text_of o t) (chair_of t))
converted o p t h =
    let a = not-false (is_table o t) h.2 in
    let ok = accepted_stored o t a in
    let u = table_of p (text_of o t) (chair_of t) in
    let k = (passes p u).1 (text_of o t, chair_of t, ok, refl) in
    let e = converted_text o p t a in
    record {
      before = a;
      table = refl;
      checked = λ work long. built_checked p (text_of o t) (chair_of t) work ok long;
      read = λ work long result room. (built_read p (text_of o t) (chair_of t) work ok long result room, built_back p (text_of o t) (chair_of t) work ok long result room);
      reads = alike_read o p t u h k e (converted_chair o p t a);
      extracts = alike_extract o p t u h k e;
      counts = alike_count o p t u h k e;
      locates = alike_locate o p t u h k e;
    }

-- of every call that serves and answers k; that o accepts t follows from success
pub convert_returned : (o p : Order) (t work result : List ℕ) (r : Answer) {work' result' : List ℕ} (k : ℕ)
    → Serves (convert_order_service o p t work result) (Answers r) (work' ∷ result' ∷ []) → outcome_of r ≡ done k 0
    → (k ≡ length (table_of p (text_of o t) (chair_of t))) × Converted o p t (take k result')
unfolding convert_order_service
convert_returned o p t work result r {work'} {result'} k v e =
    let u = table_of p (text_of o t) (chair_of t) in
    let (passed, success, slices) = done_served r v e in
    let q : length u ≡ k = same_number (length u) k success in
    let held : result' ≡ placed u result = ap (λ (l : List (List ℕ)). get_or l 1 []) slices in
    let front : take k result' ≡ u = ap₂ {C = List ℕ} take (sym q) held ∙ placed_front u result in
    (sym q, subst (Converted o p t) (sym front) (converted o p t (passed_acceptable o t (length work) (result_too_short (length u) (length result) ∷ []) passed)))
