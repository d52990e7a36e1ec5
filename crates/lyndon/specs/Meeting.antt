-- Rules met in their order: the rules met so far are always those below a number. A test on rule numbers alone (`meets`) says whether visiting the
-- trees of some rules one after another meets exactly the rules that come next, and then what is met is a front of the rules' strings (`met_front`, `front_met`, `all_met`).
use Rattle.std.specs.Prelude.{◌≡◌, Bool, true, cond, ◌&&◌, ◌||◌, ◌↔◌, ℕ, zero, suc, ◌≤◌, ◌<◌, length, take, get_or, ltb, eqb}
use Rattle.std.proofs.Math.Path.{refl, ap}
use Rattle.std.proofs.Common.{sym, ◌∙◌, ap₂, subst, arith, get_or-take, take-suc, length-take-le, lt-ltb, le-ltb, eqb-true, eq-eqb}
use Rattle.std.proofs.Math.Bool.{and-true, and_assoc}
use mathlib.Core.List.Memᴰ.{head as here}
use mathlib.Core.List.Memᴰ.{tail as there}
use mathlib.Core.List.{List, [], ◌∷◌, ◌++◌, append_assoc, Memᴰ as In}
use Rattle.std.proofs.Math.Seq.{get_or-append_seam, take-length}
use Rattle.definitions.specs.Grammar.{lyndon_tree, index_of, meet, visit}
use Rattle.lists.specs.Bools.{and_left, and_right, and_intro}
use Rattle.lists.specs.Lists.{Extends, extends_self, extends_trans}
use Rattle.lists.specs.Numbers.{split_le}
use Rattle.lyndon.specs.Numbering.{Has, index_at, index_first, meet_old, meet_new, meet_extends, visit_extends}

-- ---- the test

-- once rule q is met where those below e are: how many are met
unfoldable pub after : ℕ → ℕ → ℕ
after e q = cond (ltb q e) e (suc q)

pub after_old : (e q : ℕ) → q < e → after e q ≡ e
unfolding after
after_old e q h = rw (lt-ltb q e h)

pub after_new : (e q : ℕ) → e ≤ q → after e q ≡ suc q
unfolding after
after_new e q h = rw (le-ltb q e h)

pub after_most : (e q n : ℕ) → e ≤ n → q < n → after e q ≤ n
after_most e q n l m = split_le e q (λ h. omega (arith, after_new e q h)) (λ h. omega (arith, after_old e q h))

-- once several are met in turn
unfoldable pub after_all : ℕ → List ℕ → ℕ
after_all e [] = e
after_all e (q ∷ qs) = after_all (after e q) qs

pub after_all_most : (e n : ℕ) (qs : List ℕ) → e ≤ n → ((q : ℕ) → In q qs → q < n) → after_all e qs ≤ n
unfolding after_all
after_all_most e n [] l m = l
after_all_most e n (q ∷ qs) l m = after_all_most (after e q) n qs (after_most e q n l (m q (here refl))) (λ p i. m p (there i))

-- a test of each rule in turn, with the number that are met before it
unfoldable pub in_turn : (ℕ → ℕ → Bool) → ℕ → List ℕ → Bool
in_turn f e [] = true
in_turn f e (q ∷ qs) = f e q && in_turn f (after e q) qs

-- the rule r, entered where the rules below e are met, meets those from e on in their order: it is met already; or its halves do so in turn, and then
-- r comes next. h gives the halves of a rule, none for a symbol; at most `depth` levels are looked at
unfoldable pub meets_within : (ℕ → List ℕ) → ℕ → ℕ → ℕ → Bool
meets_within h zero e r = true
meets_within h (suc depth) e r = ltb r e || (in_turn (meets_within h depth) e (h r) && eqb (after_all e (h r)) r)

-- rule r is at most r levels deep
unfoldable pub meets : (ℕ → List ℕ) → ℕ → ℕ → Bool
meets h e r = meets_within h (suc r) e r

-- halves stand before their rule
abbrev pub Falling : (ℕ → List ℕ) → Type 0
Falling h = (r q : ℕ) → In q (h r) → q < r

in_turn_same : (f g : ℕ → ℕ → Bool) (qs : List ℕ) → ((e q : ℕ) → In q qs → f e q ≡ g e q) → (e : ℕ) → in_turn f e qs ≡ in_turn g e qs
unfolding in_turn
in_turn_same f g [] h e = refl
in_turn_same f g (q ∷ qs) h e = ap₂ {C = Bool} (λ a b. a && b) (h e q (here refl)) (in_turn_same f g qs (λ d p i. h d p (there i)) (after e q))

within_same : (h : ℕ → List ℕ) → Falling h → (n m e r : ℕ) → r < n → r < m → meets_within h n e r ≡ meets_within h m e r
unfolding meets_within
within_same h f zero m e r l k = absurd (omega arith)
within_same h f (suc n) zero e r l k = absurd (omega arith)
within_same h f (suc n) (suc m) e r l k =
    ap (λ (b : Bool). ltb r e || (b && eqb (after_all e (h r)) r))
    (in_turn_same (meets_within h n) (meets_within h m) (h r) (λ d q i. within_same h f n m d q (omega (arith, f r q i)) (omega (arith, f r q i))) e)

pub meets_old : (h : ℕ → List ℕ) (e r : ℕ) → r < e → meets h e r ≡ true
unfolding meets meets_within
meets_old h e r l = rw (lt-ltb r e l)

pub meets_new : (h : ℕ → List ℕ) → Falling h → (e r : ℕ) → e ≤ r → meets h e r ≡ in_turn (meets h) e (h r) && eqb (after_all e (h r)) r
unfolding meets meets_within
meets_new h f e r l =
    rw (le-ltb r e l)
    (ap (λ (b : Bool). b && eqb (after_all e (h r)) r)
    (in_turn_same (meets_within h r) (meets h) (h r) (λ d q i. within_same h f r (suc q) d q (f r q i) (omega arith)) e))

module _ (h : ℕ → List ℕ) (f : Falling h) (e r : ℕ) (l : e ≤ r) where
  pub meets_symbol : h r ≡ [] → meets h e r ≡ eqb e r
  unfolding in_turn after_all
  meets_symbol q = meets_new h f e r l ∙ rw q

  pub meets_pair : (u v : ℕ) → h r ≡ u ∷ v ∷ [] → meets h e r ≡ meets h e u && (meets h (after e u) v && eqb (after (after e u) v) r)
  unfolding in_turn after_all
  meets_pair u v q = meets_new h f e r l ∙ rw (q, and-true) (and_assoc (meets h e u) (meets h (after e u) v) (eqb (after (after e u) v) r))

-- ---- visiting the trees of some words

-- the strings that are met once the Lyndon trees of some words are visited one after another
unfoldable pub visit_all : List (List ℕ) → List (List ℕ) → List (List ℕ)
visit_all met [] = met
visit_all met (w ∷ words) = visit_all (visit met (lyndon_tree w)) words

-- the strings of some rules, by their numbers
abbrev pub strings_at : List (List ℕ) → List ℕ → List (List ℕ)
strings_at S [] = []
strings_at S (q ∷ qs) = get_or S q [] ∷ strings_at S qs

visit_all_extends : (met words : List (List ℕ)) → Extends met (visit_all met words)
unfolding visit_all
visit_all_extends met [] = extends_self met
visit_all_extends met (w ∷ words) =
    let next = visit met (lyndon_tree w) in
    extends_trans met next (visit_all next words) (visit_extends met (lyndon_tree w)) (visit_all_extends next words)

-- the strings S of rules with the halves h: none twice, and a rule's tree is visited by visiting its halves' trees in turn and then meeting its string
pub record Lawful (h : ℕ → List ℕ) (S : List (List ℕ)) : Type 0 where
  pub falls : Falling h
  pub once : (i j : ℕ) → i < length S → j < length S → get_or S i [] ≡ get_or S j [] → i ≡ j
  pub visits : (r : ℕ) → r < length S → (met : List (List ℕ)) → visit met (lyndon_tree (get_or S r [])) ≡ meet (visit_all met (strings_at S (h r))) (get_or S r [])

module _ {h : ℕ → List ℕ} {S : List (List ℕ)} (k : Lawful h S) where
  -- ---- a front of the strings, and one string

  met_before : (e r : ℕ) → e ≤ length S → r < e → Has (take e S) (get_or S r [])
  met_before e r l m =
      let size = length-take-le e S l in
      let first = index_first (get_or S r []) (take e S) r (omega arith) (get_or-take e S r [] m) in
      omega arith

  not_yet : (e r : ℕ) → e ≤ r → r < length S → length (take e S) ≤ index_of (get_or S r []) (take e S)
  not_yet e r l m = split_le (length (take e S)) (index_of (get_or S r []) (take e S)) (λ x. x) (λ x. absurd (twice x))
    where
      size : length (take e S) ≡ e
      size = length-take-le e S (omega arith)

      twice : Has (take e S) (get_or S r []) → ⊥
      twice x =
          let i = index_of (get_or S r []) (take e S) in
          let same = sym (get_or-take e S i [] (omega (arith, size))) ∙ index_at (get_or S r []) (take e S) x in
          omega (arith, size, k.once i r (omega (arith, size)) m same)

  -- it comes next
  meets_next : (r : ℕ) → r < length S → meet (take r S) (get_or S r []) ≡ take (suc r) S
  meets_next r m = meet_new (take r S) (get_or S r []) (not_yet r r (omega arith) m) ∙ sym (take-suc S r [] m)

  -- what is met is a front again only if the string comes next
  next_only : (e r : ℕ) → e ≤ r → r < length S → Extends (meet (take e S) (get_or S r [])) S → e ≡ r
  next_only e r l m (x, f) =
      k.once e r (omega arith) m (ap (λ (z : List (List ℕ)). get_or z e []) whole ∙ ap (λ (i : ℕ). get_or (take e S ++ get_or S r [] ∷ x) i []) (sym size) ∙ get_or-append_seam (take e S) (get_or S r []) x [])
    where
      size : length (take e S) ≡ e
      size = length-take-le e S (omega arith)

      whole : S ≡ take e S ++ get_or S r [] ∷ x
      whole = f ∙ ap (λ (z : List (List ℕ)). z ++ x) (meet_new (take e S) (get_or S r []) (not_yet e r l m)) ∙ append_assoc (take e S) (get_or S r [] ∷ []) x

  -- ---- a rule that is met already

  all_old : (qs : List ℕ) (e : ℕ) → ((q : ℕ) → In q qs → visit (take e S) (lyndon_tree (get_or S q [])) ≡ take e S) → visit_all (take e S) (strings_at S qs) ≡ take e S
  unfolding visit_all
  all_old [] e f = refl
  all_old (q ∷ qs) e f = ap (λ (met : List (List ℕ)). visit_all met (strings_at S qs)) (f q (here refl)) ∙ all_old qs e (λ p i. f p (there i))

  visit_old : (b r e : ℕ) → r < b → r < e → e ≤ length S → visit (take e S) (lyndon_tree (get_or S r [])) ≡ take e S
  visit_old zero r e l m n = absurd (omega arith)
  visit_old (suc b) r e l m n =
      k.visits r (omega arith) (take e S)
      ∙ ap (λ (z : List (List ℕ)). meet z (get_or S r [])) (all_old (h r) e (λ q i. let f = k.falls r q i in visit_old b q e (omega arith) (omega arith) n))
      ∙ meet_old (take e S) (get_or S r []) (met_before e r n m)

  -- ---- rules in turn

  -- a rule that meets those from e on in their order meets a front, and only such a rule does
  abbrev Law : ℕ → Type 0
  Law q = (e : ℕ) → e ≤ length S
      → (meets h e q ≡ true → visit (take e S) (lyndon_tree (get_or S q [])) ≡ take (after e q) S)
      × (Extends (visit (take e S) (lyndon_tree (get_or S q []))) S → meets h e q ≡ true)

  -- so do several, one after another
  turn_front : (qs : List ℕ) → ((q : ℕ) → In q qs → (q < length S) × Law q) → (e : ℕ) → e ≤ length S
      → in_turn (meets h) e qs ≡ true → visit_all (take e S) (strings_at S qs) ≡ take (after_all e qs) S
  unfolding visit_all in_turn after_all
  turn_front [] law e l t = refl
  turn_front (q ∷ qs) law e l t =
      let (small, one) = law q (here refl) in
      ap (λ (met : List (List ℕ)). visit_all met (strings_at S qs)) ((one e l).0 (and_left (meets h e q) (in_turn (meets h) (after e q) qs) t))
      ∙ turn_front qs (λ p i. law p (there i)) (after e q) (after_most e q (length S) l small) (and_right (meets h e q) (in_turn (meets h) (after e q) qs) t)

  front_turn : (qs : List ℕ) → ((q : ℕ) → In q qs → (q < length S) × Law q) → (e : ℕ) → e ≤ length S
      → Extends (visit_all (take e S) (strings_at S qs)) S → in_turn (meets h) e qs ≡ true
  unfolding visit_all in_turn after_all
  front_turn [] law e l x = refl
  front_turn (q ∷ qs) law e l x =
      let (small, one) = law q (here refl) in
      let T = visit (take e S) (lyndon_tree (get_or S q [])) in
      let first = (one e l).1 (extends_trans T (visit_all T (strings_at S qs)) S (visit_all_extends T (strings_at S qs)) x) in
      and_intro (meets h e q) (in_turn (meets h) (after e q) qs) first
      (front_turn qs (λ p i. law p (there i)) (after e q) (after_most e q (length S) l small)
      (subst (λ (met : List (List ℕ)). Extends (visit_all met (strings_at S qs)) S) ((one e l).0 first) x))

  -- ---- every rule keeps the law

  law_below : (b r : ℕ) → r < b → r < length S → Law r
  law_below zero r l m e n = absurd (omega arith)
  law_below (suc b) r l m e n = split_le e r (new (λ q i. let f = k.falls r q i in (omega arith, law_below b q (omega arith) (omega arith)))) old
    where
      T : List (List ℕ)
      T = visit (take e S) (lyndon_tree (get_or S r []))

      old : r < e → (meets h e r ≡ true → T ≡ take (after e r) S) × (Extends T S → meets h e r ≡ true)
      old x = (λ t. rw (after_old e r x) (visit_old (suc r) r e (omega arith) x n), λ t. meets_old h e r x)

      new : ((q : ℕ) → In q (h r) → (q < length S) × Law q) → e ≤ r → (meets h e r ≡ true → T ≡ take (after e r) S) × (Extends T S → meets h e r ≡ true)
      new law x = (to, from)
        where
          next : Bool
          next = eqb (after_all e (h r)) r

          at : T ≡ meet (visit_all (take e S) (strings_at S (h r))) (get_or S r [])
          at = k.visits r m (take e S)

          to : meets h e r ≡ true → T ≡ take (after e r) S
          to t =
              let u : in_turn (meets h) e (h r) && next ≡ true = sym (meets_new h k.falls e r x) ∙ t in
              let f = turn_front (h r) law e n (and_left (in_turn (meets h) e (h r)) next u) in
              let g = eqb-true (after_all e (h r)) r (and_right (in_turn (meets h) e (h r)) next u) in
              at
              ∙ ap (λ (z : List (List ℕ)). meet z (get_or S r [])) (f ∙ ap (λ (i : ℕ). take i S) g)
              ∙ meets_next r m
              ∙ ap (λ (i : ℕ). take i S) (sym (after_new e r x))

          from : Extends T S → meets h e r ≡ true
          from t =
              let M = visit_all (take e S) (strings_at S (h r)) in
              let whole : Extends (meet M (get_or S r [])) S = subst (λ (z : List (List ℕ)). Extends z S) at t in
              let turn = front_turn (h r) law e n (extends_trans M (meet M (get_or S r [])) S (meet_extends M (get_or S r [])) whole) in
              let front = turn_front (h r) law e n turn in
              let most = after_all_most e r (h r) x (λ q i. k.falls r q i) in
              let here = next_only (after_all e (h r)) r most m (subst (λ (z : List (List ℕ)). Extends (meet z (get_or S r [])) S) front whole) in
              meets_new h k.falls e r x ∙ and_intro (in_turn (meets h) e (h r)) next turn (eq-eqb (after_all e (h r)) r here)

  -- ---- THE LAW OF ORDER: rules in turn meet those from e on in their order exactly when visiting their trees meets a front of the strings; and
  -- then it is the front of as many as are met after them

  module _ (roots : List ℕ) (small : (q : ℕ) → In q roots → q < length S) (e : ℕ) (l : e ≤ length S) where
    pub met_front : in_turn (meets h) e roots ≡ true → visit_all (take e S) (strings_at S roots) ≡ take (after_all e roots) S
    met_front t = turn_front roots (λ q i. (small q i, law_below (suc q) q (omega arith) (small q i))) e l t

    pub front_met : Extends (visit_all (take e S) (strings_at S roots)) S → in_turn (meets h) e roots ≡ true
    front_met x = front_turn roots (λ q i. (small q i, law_below (suc q) q (omega arith) (small q i))) e l x

  -- from none on: they meet all rules exactly when visiting their trees meets all strings in the rules' order
  pub all_met : (roots : List ℕ) → ((q : ℕ) → In q roots → q < length S)
      → ((in_turn (meets h) 0 roots ≡ true) × (after_all 0 roots ≡ length S)) ↔ (visit_all [] (strings_at S roots) ≡ S)
  all_met roots small = (to, from)
    where
      to : (in_turn (meets h) 0 roots ≡ true) × (after_all 0 roots ≡ length S) → visit_all [] (strings_at S roots) ≡ S
      to (t, n) = met_front roots small 0 (omega arith) t ∙ ap (λ (i : ℕ). take i S) n ∙ take-length S

      from : visit_all [] (strings_at S roots) ≡ S → (in_turn (meets h) 0 roots ≡ true) × (after_all 0 roots ≡ length S)
      from f =
          let t = front_met roots small 0 (omega arith) (rw f (extends_self S)) in
          let n = after_all_most 0 (length S) roots (omega arith) small in
          (t, sym (length-take-le (after_all 0 roots) S n) ∙ ap length (sym (met_front roots small 0 (omega arith) t) ∙ f))
