-- Services that begin by opening a table: refused with it (`opening_refused`), or decided by the checks behind, once what is opened is known (`opening_done`) and the
-- work slice is cleared (`opening_served`; `opening_lent` where its front was lent before).
use mathlib.Core.Path.{◌≡◌, sym, ◌∙◌, ap, ap₂}
use mathlib.Core.Bool.{true}
use mathlib.Core.List.{List, ◌∷◌, ◌++◌, map}
use Prim.Native.Nat.{ℕ}
use native.Mathlib.Omega.{arith}
use lib.ListN.{length, take, drop, replicate}
use Rattle.definitions.specs.declared.Refusal.{Refusal}
use Rattle.definitions.specs.declared.Order.{Order}
use Rattle.std.specs.declared.result.Result.TheVariants.{Ok, Err}
use Rattle.definitions.specs.Words.{placed}
use Rattle.definitions.specs.Table.{table_of, text_of, chair_of}
use Rattle.definitions.specs.Services.{Answer, done, refused, outcome_of, Outcome, Check, Lent, work_slice, cleared, table_checks, Serves}
use Rattle.lists.specs.Decisions.{Passed, first_before}
use Rattle.lists.specs.Serving.{by, Refuses, refused_by, passed, Clear, worked}
use Rattle.lyndon.specs.Stored.{accepted_table}
use Rattle.layout.specs.Layout.{WORK}
use Rattle.checks.proofs.Fronts.{work_cleared}
use Rattle.state.specs.State.{Held}
use Rattle.opening.specs.Opening.{Opened, rules_opened, Admitted, turned_down, opened}

module _ {o : Order} {t work held : List ℕ} where
  -- its table is the one that was handed over
  pub opened_table : Opened o t work held → table_of o (text_of o t) (chair_of t) ≡ t
  opened_table p = accepted_table o t p.accepted

  -- refused
  pub opening_refused : {r : Answer} {f : Refusal} (rest : List Check) {success : Outcome} {others : List Lent} {A : Outcome → Type 0} {olds : List (List ℕ)}
      → Admitted o t work held r → r ≡ Err f → Refuses A r → ((d : Check) → olds ≡ map (λ x. x.if_refused d) others)
      → Serves (by (table_checks o t (length work) ++ rest) success (work_slice work ∷ others)) A (held ∷ olds)
  unfolding outcome_of
  opening_refused rest (turned_down d first e a) q refuses same =
      refused_by d (first_before rest first) (refuses d.number d.place a) (ap₂ {C = List (List ℕ)} (λ x l. x ∷ l) e (same d))
  opening_refused {r} {f} rest (opened p x a) q refuses same =
      let g : outcome_of (Err f) ≡ done (rules_opened o t) 0 = sym (ap outcome_of q) ∙ a in
      let z : ◌≡◌ {A = ℕ} 0 1 = cc in
      absurd (omega arith)

-- opened: none of its checks is met, and n rules are loaded
pub record Succeeded (o : Order) (t work held : List ℕ) (n : ℕ) : Type 0 where
  pub passes : Passed (table_checks o t (length work))
  pub loads : Opened o t work held
  pub rules : n ≡ rules_opened o t

module _ {o : Order} {t work held : List ℕ} {n : ℕ} where
  pub opening_done : {r : Answer} → Admitted o t work held r → r ≡ Ok n → Succeeded o t work held n
  unfolding outcome_of
  opening_done (opened p x a) q = let g : done n 0 ≡ done (rules_opened o t) 0 = sym (ap outcome_of q) ∙ a in record { passes = p; loads = x; rules = cc }
  opening_done (turned_down d first e a) q =
      let g : done n 0 ≡ refused d.number d.place = sym (ap outcome_of q) ∙ a in
      let z : ◌≡◌ {A = ℕ} 0 1 = cc in
      absurd (omega arith)

  module _ (x : Succeeded o t work held n) where
    -- what is opened is held, in the order that was asked for
    unfoldable pub opened_held : Held o n (take WORK held)
    opened_held = record { text = text_of o t; chair = chair_of t; loaded = x.loads.loaded; size = x.rules }

    module _ {rest : List Check} {success : Outcome} {others : List Lent} {A : Outcome → Type 0} {olds : List (List ℕ)} (clear : Clear true rest) {after : List ℕ} where
      -- decided by the checks behind, once the work slice is cleared
      pub opening_served : after ≡ cleared held → Serves (by rest success others) A olds
          → Serves (by (table_checks o t (length work) ++ rest) success (work_slice work ∷ others)) A (after ∷ olds)
      unfolding cleared placed
      opening_served e v = passed x.passes (worked work after clear (e ∙ ap (λ (l : List ℕ). replicate {A = ℕ} WORK 0 ++ l) x.loads.rest) v)

      -- the same where y came to stand in place of its first words
      pub opening_lent : (y : List ℕ) → length y ≡ length (take WORK held) → after ≡ cleared (y ++ drop WORK held) → Serves (by rest success others) A olds
          → Serves (by (table_checks o t (length work) ++ rest) success (work_slice work ∷ others)) A (after ∷ olds)
      opening_lent y size e v = opening_served (work_cleared held y after x.loads.long size e) v
