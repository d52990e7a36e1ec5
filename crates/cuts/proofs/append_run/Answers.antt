-- `append_run` writes nothing for a run that is broken; else its start, and then that of its last copy if it is to be listed.
use mathlib.Core.Path.{◌≡◌, refl, sym, ◌∙◌, ap, subst}
use mathlib.Core.Bool.{Bool, cond, ◌&&◌}
use mathlib.Core.List.{List, [], ◌∷◌}
use Prim.Native.Nat.{ℕ, ◌+◌, ◌≤◌, ◌<◌}
use native.Mathlib.Omega.{arith}
use lib.ListN.{length}
use lib.Dec.{ltb, eqb}
use Rattle.runs.specs.Runs.{run_cuts}
use Rattle.runs.proofs.Scanning.{run_cuts_broken, run_cuts_ended}
use Rattle.cuts.specs.Appending.{Appended}
use Rattle.cuts.proofs.Lists.{appended_none, appended_one, appended_both}
use Rattle.cuts.proofs.append_run.Goals.{After-is_last_listed}
use Rattle.cuts.proofs.append_run.Goals as goal

pub returns-then-run-m : goal.returns-then-run-m
returns-then-run-m c =
    let a = c.args in
    let r = a.run in
    subst (λ (l : List ℕ). Appended l a.n a.n a.cuts.now a.cuts.now) (sym (run_cuts_broken r.start r.back r.end r.next a.m c.if-run-m.true))
    (appended_none a.n a.cuts.now)

-- a run that reaches the end has room for its start
room : (start back end place m n k : ℕ) → m ≤ end → n + length (run_cuts start back end place m) ≤ k → n < k
room start back end place m n k h l = omega (arith, ap length (run_cuts_ended start back end place m h (ltb start back && eqb place m) refl))

pub put-requires : goal.put-requires
put-requires c =
    let a = c.args in
    let r = a.run in
    room r.start r.back r.end r.next a.m a.n (length a.cuts.now) c.if-run-m.false c.requires.0

-- the cuts of the run, once it is known whether its last copy is listed
ended : (c : After-is_last_listed) (b : Bool) → c.is_last_listed.result ≡ b
    → let r = c.args.run in run_cuts r.start r.back r.end r.next c.args.m ≡ r.start ∷ cond b (r.back ∷ []) []
ended c b e =
    let r = c.args.run in
    run_cuts_ended r.start r.back r.end r.next c.args.m c.if-run-m.false b (sym e ∙ c.is_last_listed.ensures)

-- its start is written
first : (c : After-is_last_listed) → Appended (c.args.run.start ∷ []) c.args.n (c.args.n + 1) c.args.cuts.now c.put.new.s
first c =
    let a = c.args in
    subst (Appended (a.run.start ∷ []) a.n (a.n + 1) a.cuts.now) (sym c.put.ensures) (appended_one a.n a.run.start a.cuts.now)

pub returns-then-not-is_last_listed : goal.returns-then-not-is_last_listed
returns-then-not-is_last_listed c =
    let a = c.args in
    let k = (goal.at.returns-then-not-is_last_listed c).After-is_last_listed in
    subst (λ (l : List ℕ). Appended l a.n (a.n + 1) a.cuts.now c.put.new.s) (sym (ended k _ c.if-not-is_last_listed.true)) (first k)

pub put-requires-2 : goal.put-requires-2
put-requires-2 c =
    omega (arith, c.requires.0, c.put.auto.s, ap length (ended (goal.at.put-requires-2 c).After-is_last_listed _ c.if-not-is_last_listed.false))

pub returns : goal.returns
returns c =
    let a = c.args in
    let r = a.run in
    let k = (goal.at.returns c).After-is_last_listed in
    let n : a.n + 1 + 1 ≡ a.n + 2 = omega arith in
    subst (λ (l : List ℕ). Appended l a.n (a.n + 2) a.cuts.now c.put-2.new.s) (sym (ended k _ c.if-not-is_last_listed.false))
    (appended_both (r.start ∷ []) (r.back ∷ []) a.n (a.n + 1) (a.n + 2) a.cuts.now c.put.new.s c.put-2.new.s (first k)
    (subst (λ (m : ℕ). Appended (r.back ∷ []) (a.n + 1) m c.put.new.s c.put-2.new.s) n
    (subst (Appended (r.back ∷ []) (a.n + 1) (a.n + 1 + 1) c.put.new.s) (sym c.put-2.ensures) (appended_one (a.n + 1) r.back c.put.new.s))))
