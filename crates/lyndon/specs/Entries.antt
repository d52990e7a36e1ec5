-- Rules entered from the root down: what is left to test is a chain of ranges without gaps, each a rule and the number that are met before it (`Chain`).
-- A rule that is entered, root and half alike, lengthens the chain (`enter_old`, `enter_new`); its last rule gives way to its halves (`opened`, `symbol_left`,
-- `pair_left`, `closed`), until none is left (`all_entered`) or a test fails (`failed`).
use Rattle.std.specs.Prelude.{◌≡◌, refl, Bool, true, false, ◌&&◌, List, [], ◌∷◌, ℕ, suc, ◌≤◌, ◌<◌, eqb}
use Rattle.std.proofs.Common.{sym, ◌∙◌, ap, subst, arith, eqb-true}
use Rattle.std.proofs.Math.Bool.{and-true, and-false, and_assoc, and_comm}
use Rattle.lists.specs.Numbers.{split_lt}
use Rattle.lyndon.specs.Meeting.{after, after_old, after_new, meets, Falling, meets_old, meets_symbol, meets_pair}

-- the rules below m that are still to be tested: the first is entered where none is met, each other where the one before it ends, and the last is m - 1.
-- h has the halves of a rule, `entry` the number that are met before it; `stands` says that it stands at its place, c is whether all tests hold
pub data Chain (h : ℕ → List ℕ) (entry : ℕ → ℕ) (stands : ℕ → Type 0) : ℕ → Bool → Type 0 where
  none : Chain h entry stands 0 true
  range : (r : ℕ) {b c : Bool} → entry r ≤ r → stands r → Chain h entry stands (entry r) b → c ≡ meets h (entry r) r && b → Chain h entry stands (suc r) c

-- the rules below m are left to test, and of all rules those from n on stand at their places
pub record Entering (h : ℕ → List ℕ) (rules : ℕ) (entry : ℕ → ℕ) (stands : ℕ → Type 0) (m n : ℕ) (c : Bool) : Type 0 where
  pub chain : Chain h entry stands m c
  pub done : (k : ℕ) → n ≤ k → k < rules → stands k

-- ---- the beginning and the end

pub none_entered : (h : ℕ → List ℕ) (rules : ℕ) (entry : ℕ → ℕ) (stands : ℕ → Type 0) → Entering h rules entry stands 0 rules true
none_entered h rules entry stands = record { chain = none; done = λ k a b. absurd (omega arith) }

chain_none : {h : ℕ → List ℕ} {entry : ℕ → ℕ} {stands : ℕ → Type 0} {c : Bool} → Chain h entry stands 0 c → c ≡ true
chain_none none = refl

-- ---- a rule is entered

-- only the rules of a chain matter to it
chain_same : {h : ℕ → List ℕ} {f g : ℕ → ℕ} {F G : ℕ → Type 0} {m : ℕ} {c : Bool} → ((k : ℕ) → k < m → g k ≡ f k) → ((k : ℕ) → k < m → F k → G k)
    → Chain h f F m c → Chain h g G m c
chain_same e s none = none
chain_same e s (range r {b} {c} l p k q) =
    let same = e r (omega arith) in
    range r {b = b} {c = c} (omega arith) (s r (omega arith) p) (rw same (chain_same (λ i x. e i (omega arith)) (λ i x. s i (omega arith)) k)) (rw same q)

-- rule q is entered where the rules below e are met
module _ {h : ℕ → List ℕ} {rules : ℕ} {entry : ℕ → ℕ} {stands : ℕ → Type 0} {e n : ℕ} {b : Bool} (k : Entering h rules entry stands e n b) (q : ℕ) where
  -- it is met already
  pub enter_old : q < e → Entering h rules entry stands (after e q) n (meets h e q && b)
  enter_old l = rw (after_old e q l, meets_old h e q l) k

  -- its entry and its place are stored, and those of no other rule
  pub enter_new : {entry' : ℕ → ℕ} {stands' : ℕ → Type 0} → e ≤ q → q < n → q < rules → entry' q ≡ e → stands' q
      → ((i : ℕ) → i < rules → (i ≡ q → ⊥) → entry' i ≡ entry i) → ((i : ℕ) → i < rules → (i ≡ q → ⊥) → stands i → stands' i)
      → Entering h rules entry' stands' (after e q) n (meets h e q && b)
  enter_new {entry'} {stands'} l m z at place same kept = record {
    chain = rw (after_new e q l)
        (range q {b = b} {c = meets h e q && b} (omega arith) place
        (rw at (chain_same (λ i x. same i (omega arith) (λ y. omega arith)) (λ i x. kept i (omega arith) (λ y. omega arith)) k.chain)) (rw at));
    done = λ i x y. kept i y (λ d. omega arith) (k.done i x y);
  }

-- the root, which is the last rule, is entered where none is met
pub root_entered : {h : ℕ → List ℕ} {rules : ℕ} {entry : ℕ → ℕ} {stands : ℕ → Type 0} (root : ℕ) → suc root ≡ rules
    → Entering h rules entry stands (after 0 root) rules (meets h 0 root && true) → Entering h rules entry stands rules rules (meets h 0 root)
root_entered {h} {rules} {entry} {stands} root e k =
    subst (λ (m : ℕ). Entering h rules entry stands m rules (meets h 0 root)) (after_new 0 root (omega arith) ∙ e)
    (subst (Entering h rules entry stands (after 0 root) rules) (and-true (meets h 0 root)) k)

-- ---- the last rule gives way to its halves

-- it stands, and is left to test together with the chain before it
pub record Opened (h : ℕ → List ℕ) (rules : ℕ) (entry : ℕ → ℕ) (stands : ℕ → Type 0) (r : ℕ) (c : Bool) : Type 0 where
  pub inside : entry r ≤ r
  pub place : stands r
  pub rest : Bool
  pub before : Entering h rules entry stands (entry r) r rest
  pub test : c ≡ meets h (entry r) r && rest

module _ {h : ℕ → List ℕ} {rules : ℕ} {entry : ℕ → ℕ} {stands : ℕ → Type 0} {r : ℕ} {c : Bool} where
  pub opened : Entering h rules entry stands (suc r) (suc r) c → Opened h rules entry stands r c
  opened k = go k.chain
    where
      go : Chain h entry stands (suc r) c → Opened h rules entry stands r c
      go (range _ {b} l p q e) = record {
        inside = l;
        place = p;
        rest = b;
        before = record { chain = q; done = λ i x y. split_lt i r (λ z. absurd (omega arith)) (λ z. subst stands (sym z) p) (λ z. k.done i (omega arith) y) };
        test = e;
      }

  -- what was left to test is what is left once its halves are entered, and that the number met then is the rule's
  module _ (f : Falling h) (k : Opened h rules entry stands r c) where
    pub symbol_left : h r ≡ [] → c ≡ k.rest && eqb (entry r) r
    symbol_left q = k.test ∙ ap (λ (b : Bool). b && k.rest) (meets_symbol h f (entry r) r k.inside q) ∙ and_comm (eqb (entry r) r) k.rest

    pub pair_left : (u v : ℕ) → h r ≡ u ∷ v ∷ []
        → c ≡ (meets h (after (entry r) u) v && (meets h (entry r) u && k.rest)) && eqb (after (after (entry r) u) v) r
    pair_left u v q =
        k.test
        ∙ ap (λ (b : Bool). b && k.rest) (meets_pair h f (entry r) r k.inside u v q)
        ∙ turn (meets h (entry r) u) (meets h (after (entry r) u) v) (eqb (after (after (entry r) u) v) r) k.rest
      where
        turn : (x y z d : Bool) → (x && (y && z)) && d ≡ (y && (x && d)) && z
        turn true y z d = and_assoc y z d ∙ ap (λ (a : Bool). y && a) (and_comm z d) ∙ sym (and_assoc y d z)
        turn false y z d = sym (ap (λ (a : Bool). a && z) (and-false y))

-- that number is n, or not all tests hold
module _ {h : ℕ → List ℕ} {rules : ℕ} {entry : ℕ → ℕ} {stands : ℕ → Type 0} {m n : ℕ} {b c : Bool} (k : Entering h rules entry stands m n b) (e : c ≡ b && eqb m n) where
  pub closed : eqb m n ≡ true → Entering h rules entry stands n n c
  closed t =
      let same : b ≡ c = sym (e ∙ rw (t, and-true)) in
      subst (λ (i : ℕ). Entering h rules entry stands i n c) (eqb-true m n t) (subst (Entering h rules entry stands m n) same k)

  pub failed : eqb m n ≡ false → c ≡ false
  failed t = e ∙ rw (t, and-false)

-- no rule is left: every test holds, and every rule stands at its place
pub all_entered : {h : ℕ → List ℕ} {rules : ℕ} {entry : ℕ → ℕ} {stands : ℕ → Type 0} {c : Bool} → Entering h rules entry stands 0 0 c
    → (c ≡ true) × ((k : ℕ) → k < rules → stands k)
all_entered k = (chain_none k.chain, λ i x. k.done i (omega arith) x)
