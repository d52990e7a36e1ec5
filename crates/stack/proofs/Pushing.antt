-- A push in the code's terms: looking the words x and y up among the n rules finds rule r, which is pushed, or none, and then rule n is added and pushed.
use mathlib.Core.Path.{◌≡◌, refl, sym, ◌∙◌, ap, subst}
use mathlib.Core.List.{List, [], ◌∷◌}
use Prim.Native.Nat.{ℕ, suc, ◌+◌, ◌-◌, ◌≤◌, ◌<◌}
use native.Mathlib.Omega.{arith}
use lib.ListN.{length, take, get_or, set, length-append}
use lib.Seq.{take-set-le}
use Rattle.definitions.specs.declared.Order.{Order}
use Rattle.definitions.specs.Grammar.{Rule, pair}
use Rattle.definitions.specs.Table.{word_of}
use Rattle.lists.specs.Numbers.{split_le}
use Rattle.lists.specs.Newest.{latest, newest, has_words, latest_le, newest_found, newest_nothing}
use Rattle.lists.specs.Parts.{part}
use Rattle.lyndon.specs.Rules.{find, intern, intern_old, intern_new}
use Rattle.lyndon.specs.Encoding.{first_word, second_word}
use Rattle.lyndon.specs.Closings.{State, push, joins}
use Rattle.layout.specs.Layout.{STACK, LINKS, TABLE, KIND, RIGHT_HALF}
use Rattle.dict.specs.Dictionary.{Dict, IsLatest}
use Rattle.std.specs.Prelude.{None, Some}
use Rattle.stack.specs.Areas.{added, Holds, Pushable, Joinable, Below}
use Rattle.stack.proofs.Adding.{looked_up, added_below}
use Rattle.stack.proofs.Stacks.{pushed_old, pushed_new, topped, join_once, joins_less, joins_room}

-- adding a rule makes the list no shorter
intern_longer : (K : List Rule) (x : Rule) → length K ≤ length (intern K x)
intern_longer K x = split_le (length K) (find x K)
    (λ h. omega (arith, ap length (intern_new K x h), length-append K (x ∷ [])))
    (λ h. omega (arith, ap length (intern_old K x h)))

pub pushes_most : (w : List ℕ) (n d x y : ℕ) → Pushable w n d x y → n ≤ 2304
pushes_most w n d x y p = omega (arith, p.holds.count, intern_longer p.s.rules p.rule, p.room)

-- the links are those of the rules that are held
pub links : (w : List ℕ) (n d x y : ℕ) → Pushable w n d x y → Dict (part TABLE 4608 w) (part LINKS 3328 w) n
links w n d x y p = subst (Dict (part TABLE 4608 w) (part LINKS 3328 w)) (sym p.holds.count) p.holds.rules.dict

module _ (w : List ℕ) (n d x y : ℕ) (p : Pushable w n d x y) where
  at : newest (has_words (part TABLE 4608 w) x y) n ≡ find p.rule p.s.rules
  at =
      words
      ∙ ap (newest (has_words (part TABLE 4608 w) (first_word p.o p.rule) (second_word 0 p.rule))) p.holds.count
      ∙ looked_up p.o p.s.rules w p.rule p.holds.rules p.encodes (omega (arith, pushes_most w n d x y p, p.holds.count))
    where
      words : newest (has_words (part TABLE 4608 w) x y) n ≡ newest (has_words (part TABLE 4608 w) (first_word p.o p.rule) (second_word 0 p.rule)) n
      words = rw (p.first, p.second)

  -- rule r is found
  module _ (r : ℕ) (e : (m : ℕ) → Dict (part TABLE 4608 w) (part LINKS 3328 w) m → IsLatest (has_words (part TABLE 4608 w) x y) m (Some r)) where
    found : latest (has_words (part TABLE 4608 w) x y) n ≡ suc r
    found = e n (links w n d x y p)

    pub found_low : r < n
    found_low = omega (arith, found, latest_le (has_words (part TABLE 4608 w) x y) n)

    old : r ≡ find p.rule p.s.rules
    old = sym (newest_found (has_words (part TABLE 4608 w) x y) n r found) ∙ at

    pub push_found : Holds p.o (push p.s.rules p.rule p.s.stack) (set w (STACK + d) r) n (d + 1)
    push_found =
        subst (λ (q : ℕ). Holds p.o (push p.s.rules p.rule p.s.stack) (set w (STACK + d) q) n (d + 1)) (sym old)
        (pushed_old p.o p.s w n d p.rule p.holds p.low (omega (arith, old, found_low)))

  -- no rule is found
  module _ (e : (m : ℕ) → Dict (part TABLE 4608 w) (part LINKS 3328 w) m → IsLatest (has_words (part TABLE 4608 w) x y) m None) where
    new : n ≡ find p.rule p.s.rules
    new = sym (newest_nothing (has_words (part TABLE 4608 w) x y) n (e n (links w n d x y p))) ∙ at

    -- so there is room
    pub pushes_room : n < 2304
    pushes_room =
        omega (
          arith,
          p.room,
          p.holds.count,
          ap length (intern_new p.s.rules p.rule (omega (arith, new, p.holds.count))),
          length-append p.s.rules (p.rule ∷ []),
        )

    pub push_added : (u : List ℕ) → u ≡ added w n x y → Holds p.o (push p.s.rules p.rule p.s.stack) (set u (STACK + d) n) (n + 1) (d + 1)
    push_added u f =
        subst (λ (l : List ℕ). Holds p.o (push p.s.rules p.rule p.s.stack) (set l (STACK + d) n) (n + 1) (d + 1)) (sym (f ∙ words))
        (pushed_new p.o p.s w n d p.rule p.holds p.low (omega (arith, new)) pushes_room p.encodes)
      where
        words : added w n x y ≡ added w n (first_word p.o p.rule) (second_word 0 p.rule)
        words = rw (p.first, p.second)

-- ---- what stays below the stack

pub found_below : (w : List ℕ) (d r : ℕ) → Below w (set w (STACK + d) r)
found_below w d r = take-set-le STACK w (STACK + d) r (omega arith)

pub added_stays : (w u : List ℕ) (n d x y : ℕ) → u ≡ added w n x y → Below w (set u (STACK + d) n)
added_stays w u n d x y f = found_below u d n ∙ ap (take STACK) f ∙ added_below w n x y STACK (omega arith)

-- ---- a join is a push

-- so many rules have room
joins_most : (w : List ℕ) (n d k : ℕ) → Joinable w n d k → n ≤ 2304
joins_most w n d k p = omega (arith, p.holds.count, joins_room k p.s, p.room)

-- the pair of the two rules on top can be pushed on what stands below them, and that is the join
pub join_pushes : (w : List ℕ) (n d : ℕ) (p : Joinable w n d 1)
    → (q : Pushable w n (d - 2) (KIND + get_or w (STACK + d - 2) 0) (RIGHT_HALF + get_or w (STACK + d - 1) 0))
    × (q.o ≡ p.o) × (push q.s.rules q.rule q.s.stack ≡ joins 1 p.s)
unfolding first_word second_word word_of push
join_pushes w n d p =
    let t = topped p.o p.s w n d p.holds (omega (arith, p.enough)) in
    let most = joins_most w n d 1 p in
    let once = join_once p.o p.s w n d t in (
      record {
        o = p.o;
        s = record { rules = p.s.rules; stack = t.rest };
        rule = pair t.i t.j;
        holds = t.under;
        low = omega (arith, p.low, p.enough);
        first = omega (arith, t.left);
        second = omega (arith, t.right);
        encodes = (omega (arith, t.small_left), omega (arith, t.small_right));
        room = subst (λ (s : State). length s.rules ≤ 2304) once p.room;
      },
      refl,
      sym once,
    )

-- the numbers on top are small
pub tops_small : (w : List ℕ) (n d : ℕ) → Joinable w n d 1 → (get_or w (STACK + d - 2) 0 < 2304) × (get_or w (STACK + d - 1) 0 < 2304)
tops_small w n d p =
    let t = topped p.o p.s w n d p.holds (omega (arith, p.enough)) in
    let most = joins_most w n d 1 p in
    (omega (arith, t.left, t.small_left), omega (arith, t.right, t.small_right))

-- ---- joins left to do

-- some state is held from which the joins left give what all the joins give
pub record Left (w : List ℕ) (n d k : ℕ) (o : Order) (all : State) : Type 0 where
  pub s : State
  pub holds : Holds o s w n d
  pub low : d ≤ 2048
  pub enough : k < d
  pub rest : joins k s ≡ all

unfoldable pub left_joins : (w : List ℕ) (n d k : ℕ) (o : Order) (all : State) → Left w n d k o all → 0 < k → length all.rules ≤ 2304 → Joinable w n d 1
left_joins w n d k o all l h r =
    record {
      o = o;
      s = l.s;
      holds = l.holds;
      low = l.low;
      enough = omega (arith, l.enough);
      room = omega (
        arith,
        joins_room (k - 1) (joins 1 l.s),
        ap (λ (s : State). length s.rules) (sym (joins_less k l.s h) ∙ l.rest),
      );
    }

pub left_next : (w v : List ℕ) (n m d e k : ℕ) (o : Order) (all : State) (l : Left w n d k o all) → 0 < k
    → Holds o (joins 1 l.s) v m e → Left v m e (k - 1) o all
unfolding push
left_next w v n m d e k o all l h q =
    let t = topped o l.s w n d l.holds (omega (arith, l.enough)) in
    let size : e ≡ d - 1 = omega (arith, q.depth, ap (λ (s : State). length s.stack) (join_once o l.s w n d t), t.under.depth, l.enough) in
    record {
      s = joins 1 l.s;
      holds = q;
      low = omega (arith, l.low);
      enough = omega (arith, l.enough);
      rest = sym (joins_less k l.s h) ∙ l.rest;
    }
