-- The stack area, and what pushing and joining do to the state that the work slice holds (`pushed_old`, `pushed_new`, `topped`).
use mathlib.Core.Path.{◌≡◌, refl, sym, ◌∙◌, ap, ap₂, subst}
use mathlib.Core.Logic.{⊎_elim}
use mathlib.Core.List.Memᴰ.{cases_cons as in-cons}
use mathlib.Core.List.Memᴰ.{head as here}
use mathlib.Core.List.Memᴰ.{tail as there}
use mathlib.Core.List.{List, [], ◌∷◌, ◌++◌, Memᴰ as In}
use Prim.Native.Nat.{ℕ, zero, suc, ◌+◌, ◌-◌, ◌≤◌, ◌<◌}
use native.Mathlib.Omega.{arith}
use native.Mathlib.Numerals.{add-one}
use lib.ListN.{length, take, get_or, set, length-append}
use lib.Seq.{get_or-set_same, get_or-set_other, get_or-take}
use Rattle.definitions.specs.declared.Order.{Order}
use Rattle.definitions.specs.Grammar.{Rule, pair}
use Rattle.lyndon.specs.Rules.{find, intern_old, intern_new}
use Rattle.lyndon.specs.Encoding.{first_word, second_word, Encodes}
use Rattle.lyndon.specs.Closings.{State, push, join_top, joins, joins_extends}
use Rattle.layout.specs.Layout.{STACK, LINKS}
use Rattle.stack.specs.Areas.{Rules, added, stack_in, Holds}
use Rattle.stack.proofs.Adding.{rules_added, rules_put, added_below}

-- ---- the stack area

-- what agrees below LINKS agrees on the stack
stack_same : (w v : List ℕ) (d : ℕ) → d ≤ 2048 → take LINKS v ≡ take LINKS w → stack_in v d ≡ stack_in w d
unfolding stack_in
stack_same w v zero h e = refl
stack_same w v (suc d) h e =
    ap₂ {C = List ℕ} (λ x l. x ∷ l)
    (sym (get_or-take LINKS v (STACK + d) 0 (omega arith)) ∙ ap (λ (l : List ℕ). get_or l (STACK + d) 0) e ∙ get_or-take LINKS w (STACK + d) 0 (omega arith))
    (stack_same w v d (omega arith) e)

stack_under : (w : List ℕ) (d e x : ℕ) → d ≤ e → stack_in (set w (STACK + e) x) d ≡ stack_in w d
unfolding stack_in
stack_under w zero e x h = refl
stack_under w (suc d) e x h =
    ap₂ {C = List ℕ} (λ y l. y ∷ l) (get_or-set_other w (STACK + e) (STACK + d) x 0 (λ q. omega arith)) (stack_under w d e x (omega arith))

stack_put : (w : List ℕ) (d x : ℕ) → STACK + d < length w → stack_in (set w (STACK + d) x) (suc d) ≡ x ∷ stack_in w d
unfolding stack_in
stack_put w d x h = ap₂ {C = List ℕ} (λ y l. y ∷ l) (get_or-set_same w (STACK + d) x 0 h) (stack_under w d d x (omega arith))

-- ---- pushing

module _ (o : Order) (s : State) (w : List ℕ) (n d : ℕ) (rule : Rule) (h : Holds o s w n d) (low : d < 2048) where
  -- the rule is there already
  pub pushed_old : find rule s.rules < n → Holds o (push s.rules rule s.stack) (set w (STACK + d) (find rule s.rules)) n (d + 1)
  unfolding push
  pushed_old l =
      let same = intern_old s.rules rule (omega (arith, h.count)) in
      record {
        count = h.count ∙ sym (ap length same);
        depth = omega (arith, h.depth);
        rules = rw same (rules_put o s.rules w (STACK + d) (find rule s.rules) (omega arith) h.rules);
        stack = rw add-one (stack_put w d (find rule s.rules) (omega (arith, h.rules.long)) ∙ ap {B = List ℕ} (λ y. find rule s.rules ∷ y) h.stack);
        numbers = λ j m. ⊎_elim (λ e. omega arith) (λ k. h.numbers j k) (in-cons m);
      }

  -- the rule is new
  pub pushed_new : find rule s.rules ≡ n → n < 2304 → Encodes rule
      → Holds o (push s.rules rule s.stack) (set (added w n (first_word o rule) (second_word 0 rule)) (STACK + d) n) (n + 1) (d + 1)
  unfolding push
  pushed_new l k e =
      let more = intern_new s.rules rule (omega (arith, h.count)) in
      let v = added w n (first_word o rule) (second_word 0 rule) in
      let rules = subst (λ (m : ℕ). Rules o (s.rules ++ (rule ∷ [])) (added w m (first_word o rule) (second_word 0 rule))) (sym h.count) (rules_added o s.rules w rule h.rules e (omega (arith, h.count))) in
      record {
        count = omega (arith, h.count, ap length more, length-append s.rules (rule ∷ []));
        depth = omega (arith, h.depth);
        rules = rw more (rules_put o (s.rules ++ (rule ∷ [])) v (STACK + d) n (omega arith) rules);
        stack = rw (add-one, l)
            (stack_put v d n (omega (arith, rules.long))
            ∙ ap {B = List ℕ} (λ y. n ∷ y) (stack_same w v d (omega arith) (added_below w n (first_word o rule) (second_word 0 rule) LINKS (omega arith)) ∙ h.stack));
        numbers = λ j m. ⊎_elim (λ q. omega arith) (λ q. omega (arith, h.numbers j q)) (in-cons m);
      }

-- ---- the two on top

-- the stack's two upper rules i and j, as the model and as the work slice have them
pub record Topped (o : Order) (s : State) (w : List ℕ) (n d : ℕ) : Type 0 where
  pub i : ℕ
  pub j : ℕ
  pub rest : List ℕ
  pub left : get_or w (STACK + d - 2) 0 ≡ i
  pub right : get_or w (STACK + d - 1) 0 ≡ j
  pub small_left : i < n
  pub small_right : j < n
  pub top : s.stack ≡ j ∷ i ∷ rest
  pub under : Holds o (record { rules = s.rules; stack = rest }) w n (d - 2)

pub topped : (o : Order) (s : State) (w : List ℕ) (n d : ℕ) → Holds o s w n d → 2 ≤ d → Topped o s w n d
unfolding stack_in
topped o s w n zero h l = absurd (omega arith)
topped o s w n (suc zero) h l = absurd (omega arith)
topped o s w n (suc (suc d)) h l =
    record {
      i = get_or w (STACK + d) 0;
      j = get_or w (STACK + suc d) 0;
      rest = stack_in w d;
      left = ap (λ (k : ℕ). get_or w k 0) (omega arith);
      right = ap (λ (k : ℕ). get_or w k 0) (omega arith);
      small_left = h.numbers (get_or w (STACK + d) 0) (subst (λ (y : List ℕ). In (get_or w (STACK + d) 0) y) h.stack (there (here refl)));
      small_right = h.numbers (get_or w (STACK + suc d) 0) (subst (λ (y : List ℕ). In (get_or w (STACK + suc d) 0) y) h.stack (here refl));
      top = sym h.stack;
      under = subst (Holds o (record { rules = s.rules; stack = stack_in w d }) w n) back
          (record {
            count = h.count;
            depth = omega (arith, h.depth, ap length h.stack);
            rules = h.rules;
            stack = refl;
            numbers = λ k m. h.numbers k (subst (λ (y : List ℕ). In k y) h.stack (there (there m)));
          });
    }
  where
    back : d ≡ suc (suc d) - 2
    back = omega arith

-- one join is a push of the pair
pub join_once : (o : Order) (s : State) (w : List ℕ) (n d : ℕ) (t : Topped o s w n d) → joins 1 s ≡ push s.rules (pair t.i t.j) t.rest
unfolding joins join_top
join_once o s w n d t = ap (join_top s.rules) t.top

-- so many joins are one and then the others
pub joins_less : (k : ℕ) (s : State) → 0 < k → joins k s ≡ joins (k - 1) (joins 1 s)
unfolding joins
joins_less zero s h = absurd (omega arith)
joins_less (suc k) s h = let e : k ≡ suc k - 1 = omega arith in ap (λ (m : ℕ). joins m (join_top s.rules s.stack)) e

-- the rules after some joins are no more than after all
pub joins_room : (k : ℕ) (s : State) → length s.rules ≤ length (joins k s).rules
joins_room k s = let (M, e) = joins_extends k s in omega (arith, ap length e, length-append s.rules M)
