-- A drive from the lists of its single samples: a sample written where it stands (`put_all`), the samples below k written so far (`SoFar`), and how many these are (`number_below`).
-- One sample more: `number_more`, `so_far_more`; all of them: `number_all`, `so_far_all`.
use Rattle.std.specs.Prelude.{Ok, Err, ◌≡◌, refl, Bool, true, false, cond, ◌&&◌, ℕ, zero, suc, ◌+◌, ◌≤◌, ◌<◌, length, take, drop, get_or, set, ltb, eqb}
use Rattle.std.proofs.Math.Path.{sym}
use Rattle.std.proofs.Common.{◌∙◌, ap, ap₂, subst, ⊎_elim, arith, length-set, length-append, drop_of_length-le, le_refl, drop-cons, get_or-set_same, get_or-set_other, lt-ltb, le-ltb, eqb-true, eq-eqb, ne_eqb}
use mathlib.Core.List.Memᴰ.{cases_cons as in-cons}
use mathlib.Core.List.Memᴰ.{head as here}
use mathlib.Core.List.Memᴰ.{not-nil as in-nil}
use mathlib.Core.List.Memᴰ.{tail as there}
use mathlib.Core.List.{List, [], ◌∷◌, ◌++◌, append-nil, Memᴰ as In}
use Rattle.definitions.specs.declared.Refusal.{Refusal}
use Rattle.definitions.specs.declared.Order.{Order}
use Rattle.std.specs.Result.{result_unwrap_or}
use Rattle.definitions.specs.Words.{below, begins}
use Rattle.definitions.specs.Table.{text_of}
use Rattle.definitions.specs.Occurrences.{occurrences}
use Rattle.definitions.specs.Services.{Answer, refused, outcome_of, Check, work_slice, cleared, table_checks}
use Rattle.lists.specs.Bools.{contra, bool_ext}
use Rattle.lists.specs.Numbers.{split_lt, below_in, below_lt, below_ext, below_none, below_all, below_length}
use Rattle.lists.specs.Members.{at_in}
use Rattle.lists.specs.Decisions.{First, met, later, Passed, more}
use Rattle.lyndon.specs.Ranks.{Bytes}

-- ---- what a call that is handed a table ends with: refused by a check of the table, or done, with n and with what then holds

pub data Tried (o : Order) (t work after : List ℕ) (n : ℕ) (holds : Type 0) (r : Answer) : Type 0 where
  turned_down : (d : Check) → First d (table_checks o t (length work)) → after ≡ (work_slice work).if_refused d → outcome_of r ≡ refused d.number d.place → Tried o t work after n holds r
  done : Passed (table_checks o t (length work)) → after ≡ cleared work → holds → r ≡ Ok n → Tried o t work after n holds r

module _ {o : Order} {t work after : List ℕ} {n : ℕ} {holds : Type 0} where
  -- a refusal says nothing of what success would give
  pub tried_refused : {r : Answer} {f : Refusal} {m : ℕ} {other : Type 0} → Tried o t work after n holds r → r ≡ Err f → Tried o t work after m other r
  tried_refused (turned_down d f e a) q = turned_down d f e a
  tried_refused {r} {f} (done p e h a) q =
      let g : Ok n ≡ Err f = sym a ∙ q in
      let z : ◌≡◌ {A = ℕ} 0 1 = cc in
      absurd (omega arith)

  pub tried_done : {r : Answer} {k : ℕ} → Tried o t work after n holds r → r ≡ Ok k → Passed (table_checks o t (length work)) × (k ≡ n) × (after ≡ cleared work) × holds
  unfolding outcome_of
  tried_done {r} {k} (done p e h a) q = let g : Ok k ≡ Ok n = sym q ∙ a in (p, cc, e, h)
  tried_done {r} {k} (turned_down d f e a) q =
      let g : outcome_of (Ok k) ≡ refused d.number d.place = sym (ap outcome_of q) ∙ a in
      let z : ◌≡◌ {A = ℕ} 0 1 = cc in
      absurd (omega arith)

  pub done_tried : {r : Answer} {k : ℕ} → Passed (table_checks o t (length work)) → k ≡ n → after ≡ cleared work → holds → r ≡ Ok k → Tried o t work after n holds r
  done_tried p g e h q = done p e h (q ∙ ap Ok g)

-- ---- samples written where they stand

unfoldable pub put_all : List ℕ → ℕ → List ℕ → List ℕ
put_all [] b l = l
put_all (i ∷ places) b l = put_all places b (set l i b)

-- these places are places of the slice
abbrev pub Places : List ℕ → List ℕ → Type 0
Places places l = (i : ℕ) → In i places → i < length l

-- of the text the samples below k are written
pub record SoFar (text : List ℕ) (k : ℕ) (drive : List ℕ) : Type 0 where
  pub room : length text ≤ length drive
  pub right : (i : ℕ) → i < length text → get_or text i 0 < k → get_or drive i 0 ≡ get_or text i 0

-- how many samples of the text are below k
unfoldable pub number_below : List ℕ → ℕ → ℕ
number_below text k = length (below (λ i. ltb (get_or text i 0) k) (length text))

-- the table is accepted, the work slice is cleared, and sample 0 is written
pub record Begun (o : Order) (t work drive : List ℕ) : Type 0 where
  pub passes : Passed (table_checks o t (length work))
  pub clear : work ≡ cleared work
  pub size : length drive ≡ 2047
  pub first : SoFar (text_of o t) 1 drive

put_length : (places : List ℕ) (b : ℕ) (l : List ℕ) → length (put_all places b l) ≡ length l
unfolding put_all
put_length [] b l = refl
put_length (i ∷ places) b l = put_length places b (set l i b) ∙ length-set l i b

-- ---- what a slice holds once a sample is written

put_out : (places : List ℕ) (b : ℕ) (l : List ℕ) (i : ℕ) → (In i places → ⊥) → get_or (put_all places b l) i 0 ≡ get_or l i 0
unfolding put_all
put_out [] b l i h = refl
put_out (j ∷ places) b l i h =
    put_out places b (set l j b) i (λ m. h (there m)) ∙ get_or-set_other l j i b 0 (λ e. h (here e))

-- what is written stays, since only the same sample is written again
set_stays : (b : ℕ) (l : List ℕ) (i j : ℕ) → i < length l → get_or l i 0 ≡ b → get_or (set l j b) i 0 ≡ b
set_stays b l i j h e = split_lt i j
    (λ k. get_or-set_other l j i b 0 (λ q. omega arith) ∙ e)
    (λ q. ap (λ (n : ℕ). get_or (set l n b) i 0) (sym q) ∙ get_or-set_same l i b 0 h)
    (λ k. get_or-set_other l j i b 0 (λ q. omega arith) ∙ e)

put_stays : (places : List ℕ) (b : ℕ) (l : List ℕ) (i : ℕ) → i < length l → get_or l i 0 ≡ b → get_or (put_all places b l) i 0 ≡ b
unfolding put_all
put_stays [] b l i h e = e
put_stays (j ∷ places) b l i h e = put_stays places b (set l j b) i (omega (arith, length-set l j b)) (set_stays b l i j h e)

put_in : (places : List ℕ) (b : ℕ) (l : List ℕ) (i : ℕ) → i < length l → In i places → get_or (put_all places b l) i 0 ≡ b
unfolding put_all
put_in [] b l i h m = absurd (in-nil m)
put_in (j ∷ places) b l i h m = ⊎_elim
    (λ e. put_stays places b (set l j b) i (omega (arith, length-set l j b)) (ap (λ (n : ℕ). get_or (set l n b) i 0) (sym e) ∙ get_or-set_same l i b 0 h))
    (λ k. put_in places b (set l j b) i (omega (arith, length-set l j b)) k)
    (in-cons m)

-- at no place; at one place more
pub put_none : (b : ℕ) (l : List ℕ) → l ≡ put_all [] b l
unfolding put_all
put_none b l = refl

pub put_more : (places : List ℕ) (b : ℕ) (l : List ℕ) (i : ℕ) → put_all (places ++ (i ∷ [])) b l ≡ set (put_all places b l) i b
unfolding put_all
put_more [] b l i = refl
put_more (j ∷ places) b l i = put_more places b (set l j b) i

-- ---- where a sample stands

begins_one : (b : ℕ) (text : List ℕ) (i : ℕ) → i < length text → begins (b ∷ []) (drop i text) ≡ eqb (get_or text i 0) b
unfolding begins
begins_one b text i h =
    ap (begins (b ∷ [])) (drop-cons text i 0 h) ∙ and-true (eqb b (get_or text i 0)) ∙ eqb_sym b (get_or text i 0)
  where
    and-true : (c : Bool) → c && true ≡ c
    and-true true = refl
    and-true false = refl

    eqb_sym : (x y : ℕ) → eqb x y ≡ eqb y x
    eqb_sym x y = bool_ext (eqb x y) (eqb y x) (λ e. eq-eqb y x (sym (eqb-true x y e))) (λ e. eq-eqb x y (sym (eqb-true y x e)))

occurs_one : (b : ℕ) (text : List ℕ) → occurrences (b ∷ []) text ≡ below (λ i. eqb (get_or text i 0) b) (length text)
unfolding occurrences below begins
occurs_one b text =
    ap (λ (l : List ℕ). l ++ cond (begins (b ∷ []) (drop (length text) text)) (length text ∷ []) []) (below_ext (λ i. begins (b ∷ []) (drop i text)) (λ i. eqb (get_or text i 0) b) (length text) (λ i h. begins_one b text i h))
    ∙ ap (λ (c : Bool). below (λ i. eqb (get_or text i 0) b) (length text) ++ cond c (length text ∷ []) []) none
    ∙ append-nil (below (λ i. eqb (get_or text i 0) b) (length text))
  where
    none : begins (b ∷ []) (drop (length text) text) ≡ false
    none = ap (begins (b ∷ [])) (drop_of_length-le text (le_refl (length text)))

-- the places at which a sample stands are places of the text
pub occurs_below : (b : ℕ) (text : List ℕ) (i : ℕ) → In i (occurrences (b ∷ []) text) → (i < length text) × (get_or text i 0 ≡ b)
occurs_below b text i m =
    let (h, e) = below_lt (λ i. eqb (get_or text i 0) b) (length text) i (subst (λ (l : List ℕ). In i l) (occurs_one b text) m) in
    (h, eqb-true (get_or text i 0) b e)

occurs_at : (b : ℕ) (text : List ℕ) (i : ℕ) → i < length text → get_or text i 0 ≡ b → In i (occurrences (b ∷ []) text)
occurs_at b text i h e =
    subst (λ (l : List ℕ). In i l) (sym (occurs_one b text)) (below_in (λ i. eqb (get_or text i 0) b) (length text) i h (eq-eqb (get_or text i 0) b e))

-- ---- one sample more

-- numbers below a bound that are b, and those that are below b, are those below b + 1
count_both : (f : ℕ → ℕ) (b n : ℕ) → length (below (λ i. ltb (f i) b) n) + length (below (λ i. eqb (f i) b) n) ≡ length (below (λ i. ltb (f i) (suc b)) n)
unfolding below
count_both f b zero = refl
count_both f b (suc n) =
    let old = below (λ i. ltb (f i) b) n in
    let here = below (λ i. eqb (f i) b) n in
    let all = below (λ i. ltb (f i) (suc b)) n in
    omega (
      arith,
      count_both f b n,
      length-append old (cond (ltb (f n) b) (n ∷ []) []),
      length-append here (cond (eqb (f n) b) (n ∷ []) []),
      length-append all (cond (ltb (f n) (suc b)) (n ∷ []) []),
      one (f n),
    )
  where
    one : (x : ℕ) → length (cond (ltb x b) (n ∷ []) []) + length (cond (eqb x b) (n ∷ []) []) ≡ length (cond (ltb x (suc b)) (n ∷ []) [])
    one x = split_lt x b
        (λ l. rw (lt-ltb x b l, ne_eqb x b (λ e. omega arith), lt-ltb x (suc b) (omega arith)) refl)
        (λ e. rw (le-ltb x b (omega arith), eq-eqb x b e, lt-ltb x (suc b) (omega arith)) refl)
        (λ l. rw (le-ltb x b (omega arith), ne_eqb x b (λ e. omega arith), le-ltb x (suc b) (omega arith)) refl)

pub number_more : (text : List ℕ) (b : ℕ) → number_below text b + length (occurrences (b ∷ []) text) ≡ number_below text (suc b)
unfolding number_below
number_more text b =
    ap (λ (l : List ℕ). length (below (λ i. ltb (get_or text i 0) b) (length text)) + length l) (occurs_one b text)
    ∙ count_both (λ i. get_or text i 0) b (length text)

pub so_far_more : (text : List ℕ) (b : ℕ) (drive after : List ℕ) → after ≡ put_all (occurrences (b ∷ []) text) b drive → SoFar text b drive → SoFar text (suc b) after
so_far_more text b drive after e s = record {
  room = omega (arith, s.room, ap length e, put_length (occurrences (b ∷ []) text) b drive);
  right = λ i h l. ap (λ (w : List ℕ). get_or w i 0) e ∙ split_lt (get_or text i 0) b
      (λ k. put_out (occurrences (b ∷ []) text) b drive i (λ m. omega (arith, (occurs_below b text i m).1)) ∙ s.right i h k)
      (λ q. put_in (occurrences (b ∷ []) text) b drive i (omega (arith, s.room)) (occurs_at b text i h q) ∙ sym q)
      (λ k. absurd (omega arith));
}

-- ---- none, and all

pub number_none : (text : List ℕ) → number_below text 0 ≡ 0
unfolding number_below
number_none text = ap length (below_none (λ i. ltb (get_or text i 0) 0) (length text) (λ i h. le-ltb (get_or text i 0) 0 (omega arith)))

pub so_far_none : (text drive : List ℕ) → length text ≤ length drive → SoFar text 0 drive
so_far_none text drive h = record { room = h; right = λ i k l. absurd (omega arith) }

pub number_all : (text : List ℕ) → Bytes text → number_below text 256 ≡ length text
unfolding number_below
number_all text bytes = below_all (λ i. ltb (get_or text i 0) 256) (length text) (λ i h. lt-ltb (get_or text i 0) 256 (bytes (get_or text i 0) (at_in text i h)))

same_front : (text drive : List ℕ) → length text ≤ length drive → ((i : ℕ) → i < length text → get_or drive i 0 ≡ get_or text i 0) → take (length text) drive ≡ text
same_front [] drive h e = refl
same_front (a ∷ text) [] h e = absurd (omega arith)
same_front (a ∷ text) (b ∷ drive) h e = ap₂ {C = List ℕ} (λ x l. x ∷ l) (e 0 (omega arith)) (same_front text drive (omega arith) (λ i l. e (suc i) (omega arith)))

pub so_far_all : (text drive : List ℕ) → Bytes text → SoFar text 256 drive → take (length text) drive ≡ text
so_far_all text drive bytes s = same_front text drive s.room (λ i h. s.right i h (bytes (get_or text i 0) (at_in text i h)))

-- ---- a turn, once the table is accepted and the work slice is cleared

both_ways : {d : Check} {checks : List Check} → First d checks → Passed checks → ⊥
both_ways (met e) (more _ f p) = contra e f
both_ways (later c e f) (more _ g p) = both_ways f p

module _ (o : Order) (t work : List ℕ) (accepts : Passed (table_checks o t (length work))) (clear : work ≡ cleared work) where
  pub turn : {after : List ℕ} {n m : ℕ} {holds : Type 0} {r : Answer} → Tried o t work after n holds r → m ≡ result_unwrap_or r 0 → (after ≡ work) × (m ≡ n) × holds
  turn (turned_down d f e a) q = absurd (both_ways f accepts)
  turn (done p e h a) q = (e ∙ sym clear, q ∙ ap (λ (x : Answer). result_unwrap_or x 0) a, h)

pub number_most : (text : List ℕ) (k : ℕ) → number_below text k ≤ length text
unfolding number_below
number_most text k = below_length (λ i. ltb (get_or text i 0) k) (length text)
