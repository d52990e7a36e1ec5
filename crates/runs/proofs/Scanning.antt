-- The scan at its positions in the pattern: a run begins, goes on and becomes one word (`scan_first`, `scan_agreed`, `scan_greater`). The scan starts at 1 (`scan_start`), leaves the
-- whole copies of a run, one after the other, with the run's listed cuts (`scan_left`), and at the end has passed every listed cut (`scan_done`).
use mathlib.Core.Path.{◌≡◌, sym, ◌∙◌, ap, ap₂, subst}
use mathlib.Core.Bool.{Bool, true, false, cond, ◌&&◌}
use mathlib.Core.Logic.{◌↔◌}
use mathlib.Core.List.{List, [], ◌∷◌, ◌++◌, append_assoc, append-nil}
use Prim.Native.Nat.{ℕ, suc, ◌+◌, ◌-◌, ◌≤◌, ◌<◌}
use native.Mathlib.Omega.{arith}
use lib.ListN.{length, take, drop, get_or, length-drop}
use lib.Seq.{drop-drop, get_or-drop}
use lib.Dec.{ltb, eqb}
use borrow.Author.Tests.{lt-ltb, le-ltb, ltb-true, eqb-true, eq-eqb}
use Rattle.definitions.specs.Words.{below}
use Rattle.definitions.specs.Occurrences.{is_live, is_listed, listed_cuts}
use Rattle.lists.specs.Bools.{contra, and_left, and_right, and_intro, not_so, cond_true, cond_false}
use Rattle.lists.specs.Numbers.{split_le, split_lt, below_stop, below_none}
use Rattle.lyndon.specs.Lexical.{Dif}
use Rattle.lyndon.specs.Differences.{live_best, live_from}
use Rattle.lyndon.specs.Listed.{listed_test, listed_apart}
use Rattle.runs.specs.Runs.{Repeats, Running, Stopped, Best, LiveFrom, Reached, Copies, no_copy, copy_more, run_cuts}
use Rattle.runs.proofs.Runs.{run_first, run_agreed, run_greater, run_broken, run_ended, run_behind}
use Rattle.runs.proofs.Starts.{inner, broken_first, broken_rest, ended_first, ended_rest}

-- ---- a run at its positions

pub scan_first : (s : List ℕ) (start : ℕ) → start < length s → Running s start start (start + 1)
scan_first s start h =
    record {
      low = omega arith;
      high = omega arith;
      inside = omega arith;
      run =
          let p : 1 ≡ start + 1 - start = omega arith in
          let m : 0 ≡ start - start = omega arith in
          subst (λ (n : ℕ). Repeats (drop start s) n (start - start)) p
          (subst (λ (n : ℕ). Repeats (drop start s) 1 n) m (run_first (drop start s) (simp length-drop (omega arith))));
    }

-- a word of the symbols up to `end` goes on for d symbols more
pub scan_agreed : (s : List ℕ) (start end d : ℕ) → Running s start start end → end + d ≤ length s → take d (drop end s) ≡ take d (drop start s) → Running s start (start + d) (end + d)
scan_agreed s start end d r h e =
    record {
      low = omega arith;
      high = omega (arith, r.high);
      inside = h;
      run =
          let z : start - start ≡ 0 = omega arith in
          let p : end - start ≡ end + d - (start + d) = omega arith in
          let m : d ≡ start + d - start = omega arith in
          let b : start + (end - start) ≡ end = omega (arith, r.high) in
          subst (λ (n : ℕ). Repeats (drop start s) n (start + d - start)) p
          (subst (λ (n : ℕ). Repeats (drop start s) (end - start) n) m
          (run_agreed (drop start s) (end - start) d (subst (λ (n : ℕ). Repeats (drop start s) (end - start) n) z r.run) (simp length-drop (omega (arith, r.high)))
          (ap (take d) (drop-drop (end - start) start s ∙ ap (λ (i : ℕ). drop i s) b) ∙ e)));
    }

module _ (s : List ℕ) (start back end : ℕ) (r : Running s start back end) where
  abbrev t : List ℕ
  t = drop start s

  abbrev period : ℕ
  period = end - back

  abbrev more : ℕ
  more = back - start

  next_inside : end < length s → period + more < length t
  next_inside h = simp length-drop (omega (arith, r.low, r.high))

  at_end : get_or t (period + more) 0 ≡ get_or s end 0
  at_end =
      let e : start + (period + more) ≡ end = omega (arith, r.low, r.high) in
      get_or-drop start s (period + more) 0 ∙ ap (λ (i : ℕ). get_or s i 0) e

  at_back : get_or t more 0 ≡ get_or s back 0
  at_back = let e : start + more ≡ back = omega (arith, r.low) in get_or-drop start s more 0 ∙ ap (λ (i : ℕ). get_or s i 0) e

  pub scan_greater : end < length s → get_or s back 0 < get_or s end 0 → Running s start start (end + 1)
  scan_greater h l =
      record {
        low = omega arith;
        high = omega (arith, r.low, r.high);
        inside = omega arith;
        run =
            let p : suc (period + more) ≡ end + 1 - start = omega (arith, r.low, r.high) in
            let m : 0 ≡ start - start = omega arith in
            subst (λ (n : ℕ). Repeats t n (start - start)) p
            (subst (λ (n : ℕ). Repeats t (suc (period + more)) n) m (run_greater t period more r.run (next_inside h) (omega (arith, at_end, at_back))));
      }

  -- without its first copy
  behind : start + period ≤ back → Running s (start + period) back end
  behind h =
      record {
        low = h;
        high = r.high;
        inside = r.inside;
        run =
            subst (λ (x : List ℕ). Repeats x period (back - (start + period))) (drop-drop period start s)
            (run_behind t period more r.run (back - (start + period)) (omega (arith, r.low, r.high)));
      }

-- ---- a copy is left

module _ (s : List ℕ) (start back end : ℕ) (live : LiveFrom s start) (stopped : Stopped s start back end) where
  abbrev whole : Running s start back end
  whole = stopped.running

  abbrev from : List ℕ
  from = drop start s

  abbrev copy : ℕ
  copy = end - back

  filled : 0 < copy
  filled = omega (arith, whole.high)

  inside : copy ≤ length from
  inside = simp length-drop (omega (arith, whole.low, whole.high, whole.inside))

  -- no cut inside the copy behind its start is live
  copy_none : (k : ℕ) → start < k → k < start + copy → is_live s k ≡ false
  copy_none k h l = not_so (is_live s k) (λ e. inner from copy filled inside whole.run.least (k - start) (omega arith) (omega arith) (best e))
    where
      best : is_live s k ≡ true → Best from (k - start)
      best e =
          let same : start + (k - start) ≡ k = omega arith in
          (live (k - start) (omega (arith, whole.low, whole.high, whole.inside))).0
          (subst (λ (i : ℕ). is_live s i ≡ true) (sym same) e)

  here : is_live s start ≡ true ↔ Best from 0
  here =
      let same : start + 0 ≡ start = omega arith in
      subst (λ (i : ℕ). is_live s i ≡ true ↔ Best from 0) same (live 0 (omega (arith, whole.low, whole.high, whole.inside)))

  -- where the run is broken
  smaller : end < length s → Dif (drop copy from) from
  smaller h =
      run_broken from copy (back - start) whole.run (next_inside s start back end whole h)
      (omega (arith, at_end s start back end whole, at_back s start back end whole, stopped.broken h))

  copy_broken : end < length s → is_live s start ≡ false
  copy_broken h = not_so (is_live s start) (λ e. broken_first from copy filled inside whole.run.least (smaller h) (here.0 e))

  -- where it reaches the end
  front : end ≡ length s → drop copy from ≡ take (back - start) from
  front h = run_ended from copy (back - start) whole.run (simp length-drop (omega (arith, whole.low, whole.high)))

  copy_ended : end ≡ length s → is_live s start ≡ true
  copy_ended h = here.1 (ended_first from copy filled inside whole.run.least (back - start) (front h))

  rest : (c : ℕ) → Best from (copy + c) ↔ Best (drop copy from) c
  rest c = split_le (length s) end
      (λ h. ended_rest from copy filled inside whole.run.least (back - start) (front (omega (arith, whole.inside))) c)
      (λ h. broken_rest from copy filled inside whole.run.least (smaller h) c)

  copy_live : LiveFrom s (start + copy)
  copy_live c h =
      let same : start + (copy + c) ≡ start + copy + c = omega arith in
      let old = live (copy + c) (omega arith) in (
        λ e. subst (λ (x : List ℕ). Best x c) (drop-drop copy start s) ((rest c).0 (old.0 (subst (λ (i : ℕ). is_live s i ≡ true) (sym same) e))),
        λ e. subst (λ (i : ℕ). is_live s i ≡ true) same (old.1 ((rest c).1 (subst (λ (x : List ℕ). Best x c) (sym (drop-drop copy start s)) e))),
      )

  copy_stopped : start + copy ≤ back → Stopped s (start + copy) back end
  copy_stopped l = record { running = behind s start back end whole l; broken = stopped.broken }

-- ---- the listed cuts of a run

pub run_cuts_broken : (start back end place n : ℕ) → end < n → run_cuts start back end place n ≡ []
unfolding run_cuts
run_cuts_broken start back end place n h = rw (lt-ltb end n h)

pub run_cuts_ended : (start back end place n : ℕ) → n ≤ end → (b : Bool) → b ≡ (ltb start back && eqb place n)
    → run_cuts start back end place n ≡ start ∷ cond b (back ∷ []) []
unfolding run_cuts
run_cuts_ended start back end place n h b e = rw (le-ltb end n h, e)

module _ (start back end place n : ℕ) (e : end ≡ n) where
  run_cuts_first : (start < back → place ≡ n → ⊥) → run_cuts start back end place n ≡ start ∷ []
  run_cuts_first h = run_cuts_ended start back end place n (omega arith) false (sym (not_so (ltb start back && eqb place n) (λ q. h
      (ltb-true start back (and_left (ltb start back) (eqb place n) q)) (eqb-true place n (and_right (ltb start back) (eqb place n) q)))))

  run_cuts_both : start < back → place ≡ n → run_cuts start back end place n ≡ start ∷ back ∷ []
  run_cuts_both h q = run_cuts_ended start back end place n (omega arith) true (sym (and_intro (ltb start back) (eqb place n) (lt-ltb start back h) (eq-eqb place n q)))

not_listed : (s : List ℕ) (c : ℕ) → is_live s c ≡ false → is_listed s c ≡ false
not_listed s c h = not_so (is_listed s c) (λ e. contra ((listed_test s c).0 e).0 h)

-- ---- the whole copies are left, one after the other

module _ (s : List ℕ) (start back end : ℕ) (reached : Reached s start) (stopped : Stopped s start back end) where
  -- those up to c: the live cuts among them stand a copy before c or earlier, if the run reaches the end one stands just there
  record Leaving (c : ℕ) : Type 0 where
    low : start ≤ c
    live : LiveFrom s c
    stopped_here : c ≤ back → Stopped s c back end
    far : (d : ℕ) → is_live s d ≡ true → start ≤ d → d < c → d + (end - back) ≤ c
    broken : end < length s → (d : ℕ) → is_live s d ≡ true → start ≤ d → d < c → ⊥
    ended : end ≡ length s → start < c → (is_live s (c - (end - back)) ≡ true) × (start + (end - back) ≤ c)
    listed : start < c → below (is_listed s) c ≡ below (is_listed s) start ++ run_cuts start back end c (length s)

  module _ (c : ℕ) (l : Leaving c) (h : c ≤ back) where
    there : Stopped s c back end
    there = l.stopped_here h

    high : back < end
    high = there.running.high

    within : end ≤ length s
    within = there.running.inside

    none_live : (k : ℕ) → c < k → k < c + (end - back) → is_live s k ≡ false
    none_live = copy_none s c back end l.live there

    -- which of the copy's cuts are listed: at most its start
    copy_listed : below (is_listed s) (c + (end - back)) ≡ below (is_listed s) c ++ cond (is_listed s c) (c ∷ []) []
    unfolding below
    copy_listed =
        let same : c + (end - back) ≡ suc c + (end - back - 1) = omega (arith, high) in
        ap (below (is_listed s)) same
        ∙ below_stop (is_listed s) (suc c) (end - back - 1) (λ k a b. not_listed s k (none_live k (omega arith) (omega (arith, high))))

    -- a copy's start is listed if it is the first or the last one and nothing follows
    first_listed : end ≡ length s → c ≡ start → is_listed s c ≡ true
    first_listed e q =
        (listed_apart s c (omega (arith, high))).1
        (copy_ended s c back end l.live there e, subst (λ (i : ℕ). (d : ℕ) → is_live s d ≡ true → d < i → length s - i ≤ i - d) (sym q) reached.apart)

    last_listed : end ≡ length s → c ≡ back → is_listed s c ≡ true
    last_listed e q =
        (listed_apart s c (omega (arith, high))).1
        (copy_ended s c back end l.live there e, λ d x m. split_le start d (λ k. omega (arith, l.far d x k m, high)) (λ k. omega (arith, l.low, reached.apart d x k)))

    inner_listed : end ≡ length s → start < c → c < back → is_listed s c ≡ false
    inner_listed e a b = not_so (is_listed s c) (λ q. omega (
      arith,
      high,
      (l.ended e a).1,
      ((listed_apart s c (omega (arith, high))).0 q).1 (c - (end - back)) (l.ended e a).0 (omega (arith, high, (l.ended e a).1)),
    ))

    leaving_listed : below (is_listed s) (c + (end - back)) ≡ below (is_listed s) start ++ run_cuts start back end (c + (end - back)) (length s)
    leaving_listed = copy_listed ∙ split_lt end (length s) broken_run ended_run (λ k. absurd (omega (arith, within)))
      where
        before : List ℕ
        before = below (is_listed s) start

        -- what was passed before the copy, with its own start
        passed : (x y : List ℕ) → below (is_listed s) c ≡ before ++ x → cond (is_listed s c) (c ∷ []) [] ≡ y
            → below (is_listed s) c ++ cond (is_listed s c) (c ∷ []) [] ≡ before ++ (x ++ y)
        passed x y e f = ap₂ {C = List ℕ} (λ a b. a ++ b) e f ∙ append_assoc before x y

        at_start : c ≡ start → below (is_listed s) c ≡ before ++ []
        at_start q = ap (below (is_listed s)) q ∙ sym (append-nil before)

        broken_run : end < length s → below (is_listed s) c ++ cond (is_listed s c) (c ∷ []) [] ≡ before ++ run_cuts start back end (c + (end - back)) (length s)
        broken_run b =
            passed [] [] (split_lt start c
            (λ k. l.listed k ∙ ap (λ (x : List ℕ). before ++ x) (run_cuts_broken start back end c (length s) b))
            (λ k. at_start (sym k))
            (λ k. absurd (omega (arith, l.low))))
            (cond_false (is_listed s c) (c ∷ []) [] (not_listed s c (copy_broken s c back end l.live there b)))
            ∙ ap (λ (x : List ℕ). before ++ x) (sym (run_cuts_broken start back end (c + (end - back)) (length s) b))

        ended_run : end ≡ length s → below (is_listed s) c ++ cond (is_listed s c) (c ∷ []) [] ≡ before ++ run_cuts start back end (c + (end - back)) (length s)
        ended_run e = split_lt start c
            (λ k. split_lt c back
            (λ b. passed (start ∷ []) [] (earlier k) (cond_false (is_listed s c) (c ∷ []) [] (inner_listed e k b))
            ∙ ap (λ (x : List ℕ). before ++ x) (sym (run_cuts_first start back end (c + (end - back)) (length s) e (λ a q. omega (arith, high)))))
            (λ b. passed (start ∷ []) (back ∷ []) (earlier k) (cond_true (is_listed s c) (c ∷ []) [] (last_listed e b) ∙ ap (λ (i : ℕ). i ∷ []) b)
            ∙ ap (λ (x : List ℕ). before ++ x) (sym (run_cuts_both start back end (c + (end - back)) (length s) e (omega arith) (omega (arith, high)))))
            (λ b. absurd (omega arith)))
            (λ k. passed [] (start ∷ []) (at_start (sym k)) (cond_true (is_listed s c) (c ∷ []) [] (first_listed e (sym k)) ∙ ap (λ (i : ℕ). i ∷ []) (sym k))
            ∙ ap (λ (x : List ℕ). before ++ x) (sym (run_cuts_first start back end (c + (end - back)) (length s) e (λ a q. omega (arith, high)))))
            (λ k. absurd (omega (arith, l.low)))
          where
            earlier : start < c → below (is_listed s) c ≡ before ++ (start ∷ [])
            earlier k = l.listed k ∙ ap (λ (x : List ℕ). before ++ x) (run_cuts_first start back end c (length s) e (λ a q. omega (arith, high)))

    leaving_more : Leaving (c + (end - back))
    leaving_more =
        record {
          low = omega (arith, l.low);
          live = copy_live s c back end l.live there;
          stopped_here = copy_stopped s c back end l.live there;
          far = λ d x k m. split_lt d c
              (λ b. omega (arith, l.far d x k b))
              (λ b. omega arith)
              (λ b. contra x (none_live d b m));
          broken = λ e d x k m. split_lt d c
              (λ b. l.broken e d x k b)
              (λ b. contra (subst (λ (i : ℕ). is_live s i ≡ true) b x) (copy_broken s c back end l.live there e))
              (λ b. contra x (none_live d b m));
          ended = λ e k.
              let same : c ≡ c + (end - back) - (end - back) = omega arith in
              (subst (λ (i : ℕ). is_live s i ≡ true) same (copy_ended s c back end l.live there e), omega (arith, l.low));
          listed = λ k. leaving_listed;
        }

  leaving : (c : ℕ) → Copies start back end c → Leaving c
  leaving _ no_copy =
      record {
        low = omega arith;
        live = reached.live;
        stopped_here = λ _. stopped;
        far = λ d x k m. absurd (omega arith);
        broken = λ e d x k m. absurd (omega arith);
        ended = λ e k. absurd (omega arith);
        listed = λ k. absurd (omega arith);
      }
  leaving _ (copy_more c r h) = leaving_more c (leaving c r) h

  -- all of them
  pub scan_left : (c : ℕ) → Copies start back end c → back < c → c ≤ end
      → Reached s c × (below (is_listed s) c ≡ below (is_listed s) start ++ run_cuts start back end c (length s))
  scan_left c r h k =
      let l = leaving c r in
      let run = stopped.running in (
        record {
          inside = omega (arith, run.inside);
          live = l.live;
          apart = λ d x m. split_le start d
              (λ a. split_lt end (length s)
              (λ b. absurd (l.broken b d x a m))
              (λ b. omega (arith, l.far d x a m))
              (λ b. absurd (omega (arith, run.inside))))
              (λ a. omega (arith, run.low, reached.apart d x a));
        },
        l.listed (omega (arith, run.low)),
      )

-- ---- its start and its end

pub scan_start : (s : List ℕ) → Reached s 1
scan_start s =
    record {
      inside = omega arith;
      live = λ c h. let (f, g) = live_best s (1 + c) (omega arith) h in (
        λ e d x. f e (1 + d) (omega arith) (subst (λ (y : List ℕ). Dif y (drop (1 + c) s)) (drop-drop d 1 s) (subst (λ (y : List ℕ). Dif (drop d (drop 1 s)) y) (drop-drop c 1 s) x)),
        λ b. g (λ d p x. b (d - 1) (earlier c d p x)),
      );
      apart = λ d x m. absurd (omega (arith, live_from s d x));
    }
  where
    earlier : (c d : ℕ) → 0 < d → Dif (drop d s) (drop (1 + c) s) → Dif (drop (d - 1) (drop 1 s)) (drop c (drop 1 s))
    earlier c d p x =
        let same : d ≡ 1 + (d - 1) = omega arith in
        subst (λ (y : List ℕ). Dif y (drop c (drop 1 s))) (ap (λ (i : ℕ). drop i s) same ∙ sym (drop-drop (d - 1) 1 s))
        (subst (λ (y : List ℕ). Dif (drop d s) y) (sym (drop-drop c 1 s)) x)

-- cut 0 is not listed
pub none_before : (s : List ℕ) → below (is_listed s) 1 ≡ []
none_before s = below_none (is_listed s) 1 (λ k h. not_listed s k (not_so (is_live s k) (λ e. omega (arith, live_from s k e))))

pub scan_done : (s : List ℕ) (start : ℕ) → Reached s start → length s ≤ start → below (is_listed s) start ≡ listed_cuts s
unfolding listed_cuts
scan_done s start r h = split_lt (length s) start
    (λ l. nothing (omega (arith, r.inside)) (omega (arith, r.inside)))
    (λ l. ap (below (is_listed s)) (sym l))
    (λ l. absurd (omega arith))
  where
    nothing : start ≡ 1 → length s ≡ 0 → below (is_listed s) start ≡ below (is_listed s) (length s)
    nothing e z = ap (below (is_listed s)) e ∙ none_before s ∙ sym (below_none (is_listed s) (length s) (λ k l. absurd (omega arith)))
