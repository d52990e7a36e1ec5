-- One symbol of the left-to-right pass, and the whole pass: from the state that is held, running over the rest of the text gives what
-- running over all of it gives (`Stage`).
use mathlib.Core.Path.{◌≡◌, refl, sym, ◌∙◌, ap, ap₂, subst}
use mathlib.Core.List.Memᴰ.{not-nil as in-nil}
use mathlib.Core.List.{List, []}
use Prim.Native.Nat.{ℕ, suc, ◌+◌, ◌-◌, ◌≤◌, ◌<◌}
use native.Mathlib.Omega.{arith}
use native.Mathlib.Numerals.{add-one}
use lib.ListN.{length, drop, get_or, length-append, drop_of_length-le}
use lib.Seq.{drop-cons, get_or-take}
use Rattle.definitions.specs.declared.Order.{Order}
use Rattle.definitions.specs.Grammar.{Rule, symbol}
use Rattle.definitions.specs.Table.{number_of_rank, words, word_of}
use Rattle.lists.specs.Parts.{part, part_length, part_at, part_none}
use Rattle.lyndon.specs.Encoding.{first_word, second_word}
use Rattle.lyndon.specs.Closings.{State, start, push, joins, run, Enough, joins_depth, run_extends}
use Rattle.layout.specs.Layout.{CLOSINGS, STACK, LINKS, TABLE, BESIDE_SYMBOL}
use Rattle.dict.specs.Links.{dict_none}
use Rattle.stack.specs.Areas.{Rules, stack_in, Holds, Pushable, Joinable, Below}
use Rattle.numbering.specs.Numbering.{stepped, Steppable, numbered, Numberable, Stage, Begun}
use Rattle.stack.proofs.Stacks.{joins_room}

-- below the stack the slices agree
pub below_at : (w v : List ℕ) (i : ℕ) → i < STACK → Below w v → get_or v i 0 ≡ get_or w i 0
below_at w v i h e =
    sym (get_or-take STACK v i 0 h) ∙ ap (λ (l : List ℕ). get_or l i 0) e ∙ get_or-take STACK w i 0 h

-- ---- one symbol

module _ (o : Order) (w : List ℕ) (n d i : ℕ) (p : Steppable o w n d i) where
  abbrev a : ℕ
  a = get_or w i 0

  abbrev after : State
  after = push p.s.rules (symbol a) p.s.stack

  -- the symbol's rule can be pushed
  step_pushes : (q : Pushable w n d (number_of_rank o (get_or w i 0)) BESIDE_SYMBOL) × (q.o ≡ o)
      × (push q.s.rules q.rule q.s.stack ≡ push p.s.rules (symbol (get_or w i 0)) p.s.stack)
  unfolding first_word second_word word_of stepped push
  step_pushes = (
    record {
      o = o;
      s = p.s;
      rule = symbol a;
      holds = p.holds;
      low = p.low;
      first = omega arith;
      second = refl;
      encodes = p.rank;
      room = omega (arith, joins_room (get_or w (CLOSINGS + i) 0) after, p.room);
    },
    refl,
    refl,
  )

  -- then its joins can be done
  step_joins : (v : List ℕ) (m e : ℕ) → Holds o (push p.s.rules (symbol (get_or w i 0)) p.s.stack) v m e
      → (q : Joinable v m e (get_or w (CLOSINGS + i) 0)) × (q.o ≡ o) × (joins (get_or w (CLOSINGS + i) 0) q.s ≡ stepped p.s w i)
  unfolding stepped push
  step_joins v m e h = (
    record {
      o = o;
      s = after;
      holds = h;
      low = omega (arith, h.depth, p.holds.depth, p.low);
      enough = omega (arith, h.depth, p.holds.depth, p.enough);
      room = p.room;
    },
    refl,
    refl,
  )

-- the same in the code's terms: x is the number of the symbol's rank
module _ (o : Order) (w : List ℕ) (n d i : ℕ) (p : Steppable o w n d i) (x : ℕ) (e : x ≡ number_of_rank o (get_or w i 0)) where
  pub step_push : Pushable w n d x BESIDE_SYMBOL
  step_push = subst (λ (y : ℕ). Pushable w n d y BESIDE_SYMBOL) (sym e) (step_pushes o w n d i p).0

  pub step_pushed : (v : List ℕ) (m f : ℕ)
      → ((q : Pushable w n d x BESIDE_SYMBOL) → Holds q.o (push q.s.rules q.rule q.s.stack) v m f)
      → Holds o (push p.s.rules (symbol (get_or w i 0)) p.s.stack) v m f
  step_pushed v m f h =
      let (q, a, b) = step_pushes o w n d i p in
      let h' : (q : Pushable w n d (number_of_rank o (get_or w i 0)) BESIDE_SYMBOL) → Holds q.o (push q.s.rules q.rule q.s.stack) v m f
      = subst (λ (y : ℕ). (q : Pushable w n d y BESIDE_SYMBOL) → Holds q.o (push q.s.rules q.rule q.s.stack) v m f) e h in
      subst (λ (s : State). Holds o s v m f) b (subst (λ (y : Order). Holds y (push q.s.rules q.rule q.s.stack) v m f) a (h' q))

  pub step_join : (v : List ℕ) (m f : ℕ)
      → ((q : Pushable w n d x BESIDE_SYMBOL) → Holds q.o (push q.s.rules q.rule q.s.stack) v m f)
      → Joinable v m f (get_or w (CLOSINGS + i) 0)
  step_join v m f h = (step_joins o w n d i p v m f (step_pushed v m f h)).0

  pub step_done : (v u : List ℕ) (m m' f f' : ℕ)
      → ((q : Pushable w n d x BESIDE_SYMBOL) → Holds q.o (push q.s.rules q.rule q.s.stack) v m f)
      → ((q : Joinable v m f (get_or w (CLOSINGS + i) 0)) → Holds q.o (joins (get_or w (CLOSINGS + i) 0) q.s) u m' f')
      → Holds o (stepped p.s w i) u m' f'
  step_done v u m m' f f' h k =
      let (q, a, b) = step_joins o w n d i p v m f (step_pushed v m f h) in
      subst (λ (s : State). Holds o s u m' f') b (subst (λ (y : Order). Holds y (joins (get_or w (CLOSINGS + i) 0) q.s) u m' f') a (k q))

-- ---- the whole pass

unfoldable pub stage_start : (o : Order) (n : ℕ) (w : List ℕ) → Numberable n w → ((b : ℕ) → b < 1024 → get_or w (LINKS + b) 0 ≡ 0) → Stage o n w w 0 0 0
unfolding stack_in words
stage_start o n w k z =
    record {
      s = start;
      holds = record {
        count = refl;
        depth = refl;
        rules = record {
          long = k.long;
          table = part_none TABLE w;
          dict = dict_none (part TABLE 4608 w) (part LINKS 3328 w) (λ b h. part_at LINKS 3328 w b 0 (omega arith) ∙ z b h);
          encodes = λ r h. absurd (omega arith);
        };
        stack = refl;
        numbers = λ j q. absurd (in-nil q);
      };
      rest = refl;
      enough = k.enough;
      low = omega arith;
    }

module _ (o : Order) (n : ℕ) (w v : List ℕ) (m d i : ℕ) (k : Numberable n w) (b : Below w v) (g : Stage o n w v m d i) (h : i < n) where
  text_size : length (part 0 n w) ≡ n
  text_size = part_length 0 n w (omega (arith, k.short, k.long))

  close_size : length (part CLOSINGS n w) ≡ n
  close_size = part_length CLOSINGS n w (omega (arith, k.short, k.long))

  -- what the code reads
  symbol_at : get_or v i 0 ≡ get_or (part 0 n w) i 0
  symbol_at = below_at w v i (omega (arith, k.short)) b ∙ ap (λ (q : ℕ). get_or w q 0) (omega arith) ∙ sym (part_at 0 n w i 0 h)

  closing_at : get_or v (CLOSINGS + i) 0 ≡ get_or (part CLOSINGS n w) i 0
  closing_at = below_at w v (CLOSINGS + i) (omega (arith, k.short)) b ∙ sym (part_at CLOSINGS n w i 0 h)

  -- running on is a step and then the rest
  pub ran : run g.s (drop i (part 0 n w)) (drop i (part CLOSINGS n w)) ≡ run (stepped g.s v i) (drop (suc i) (part 0 n w)) (drop (suc i) (part CLOSINGS n w))
  unfolding run stepped
  ran =
      ap₂ {C = State} (λ x y. run g.s x y) (drop-cons (part 0 n w) i 0 (omega (arith, text_size))) (drop-cons (part CLOSINGS n w) i 0 (omega (arith, close_size)))
      ∙ ap₂ {C = State} (λ c x. run (joins c (push g.s.rules (symbol x) g.s.stack)) (drop (suc i) (part 0 n w)) (drop (suc i) (part CLOSINGS n w))) (sym closing_at) (sym symbol_at)

  pub closing : (get_or v (CLOSINGS + i) 0 ≤ d) × Enough (suc d - get_or v (CLOSINGS + i) 0) (drop (suc i) (part CLOSINGS n w))
  closing =
      rw closing_at (subst (Enough d) (drop-cons (part CLOSINGS n w) i 0 (omega (arith, close_size))) g.enough)

  unfoldable pub stage_steps : Steppable o v m d i
  unfolding numbered
  stage_steps =
      let (M, e) = run_extends (stepped g.s v i) (drop (suc i) (part 0 n w)) (drop (suc i) (part CLOSINGS n w)) in
      record {
        s = g.s;
        holds = g.holds;
        low = omega (arith, g.low, k.short);
        place = omega (arith, k.short);
        rank = rw (below_at w v i (omega (arith, k.short)) b) (k.ranks i h);
        enough = closing.0;
        room = omega (
          arith,
          k.room,
          ap length e,
          length-append (stepped g.s v i).rules M,
          ap (λ (s : State). length s.rules) (sym ran ∙ g.rest),
        );
      }

  pub stage_next : (u : List ℕ) (m' d' : ℕ) → Holds o (stepped g.s v i) u m' d' → Stage o n w u m' d' (i + 1)
  unfolding stepped push
  stage_next u m' d' q =
      let size = joins_depth (get_or v (CLOSINGS + i) 0) (push g.s.rules (symbol (get_or v i 0)) g.s.stack) (omega (arith, g.holds.depth, closing.0)) in
      let depth : suc d - get_or v (CLOSINGS + i) 0 ≡ d' = omega (arith, q.depth, g.holds.depth, closing.0) in
      record {
        s = stepped g.s v i;
        holds = q;
        rest = rw add-one (sym ran ∙ g.rest);
        enough = rw add-one (subst (λ (x : ℕ). Enough x (drop (suc i) (part CLOSINGS n w))) depth closing.1);
        low = omega (arith, g.low, closing.0);
      }

-- ---- the mark

module _ (o : Order) (n : ℕ) (w : List ℕ) (k : Numberable n w) (z : (b : ℕ) → b < 1024 → get_or w (LINKS + b) 0 ≡ 0) where
  pub at_mark : Steppable o w 0 0 0
  at_mark = stage_steps o n w w 0 0 0 k refl (stage_start o n w k z) k.filled

  pub mark_number : 0 ≡ number_of_rank o (get_or w 0 0)
  unfolding number_of_rank
  mark_number = ap (number_of_rank o) (sym k.mark)

  -- its rule can be pushed on nothing
  pub mark_push : Pushable w 0 0 0 BESIDE_SYMBOL
  mark_push = step_push o w 0 0 0 at_mark 0 mark_number

  -- then the pass is behind it, since no join closes there
  unfoldable pub mark_pushed : (v : List ℕ) (m d : ℕ) → ((q : Pushable w 0 0 0 BESIDE_SYMBOL) → Holds q.o (push q.s.rules q.rule q.s.stack) v m d) → Below w v → Begun o n v m d
  unfolding at_mark stage_start stage_steps stepped joins
  mark_pushed v m d h b =
      record {
        origin = w;
        numberable = k;
        below = b;
        stage = stage_next o n w w 0 0 0 k refl (stage_start o n w k z) k.filled v m d
            (subst (λ (c : ℕ). Holds o (joins c (push [] (symbol (get_or w 0 0)) [])) v m d) (sym none) (step_pushed o w 0 0 0 at_mark 0 mark_number v m d h));
      }
    where
      none : get_or w (CLOSINGS + 0) 0 ≡ 0
      none = omega (arith, (closing o n w w 0 0 0 k refl (stage_start o n w k z) k.filled).0)

pub stage_end : (o : Order) (n : ℕ) (w v : List ℕ) (m d i : ℕ) → Numberable n w → Stage o n w v m d i → n ≤ i
    → Rules o (numbered n w) v × (m ≡ length (numbered n w))
unfolding numbered run
stage_end o n w v m d i k g h =
    let none : drop i (part 0 n w) ≡ [] = drop_of_length-le (part 0 n w) (over n i h (part_length 0 n w (omega (arith, k.short, k.long)))) in
    let e : g.s.rules ≡ (run start (part 0 n w) (part CLOSINGS n w)).rules
    = ap (λ (x : List ℕ). (run g.s x (drop i (part CLOSINGS n w))).rules) (sym none) ∙ ap (λ (s : State). s.rules) g.rest in
    (subst (λ (K : List Rule). Rules o K v) e g.holds.rules, g.holds.count ∙ ap length e)
  where
    over : (n i : ℕ) → n ≤ i → length (part 0 n w) ≡ n → length (part 0 n w) ≤ i
    over n i h e = omega arith
