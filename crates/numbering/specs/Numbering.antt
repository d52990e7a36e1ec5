-- What numbering the rules starts from, at one symbol and over all of a text, and what it comes to: ranks stand at the front of the work
-- slice, closings from CLOSINGS on. A state is that of the pass from left to right (`lyndon`, Closings.antt).
use Rattle.std.specs.Prelude.{ℕ, ◌+◌, ◌≤◌, ◌<◌, ◌≡◌, List, length, drop, get_or}
use Rattle.definitions.specs.declared.Order.{Order}
use Rattle.definitions.specs.Grammar.{Rule, symbol}
use Rattle.lists.specs.Parts.{part}
use Rattle.lyndon.specs.Closings.{State, start, push, joins, run, Enough}
use Rattle.layout.specs.Layout.{CLOSINGS, WORK}
use Rattle.stack.specs.Areas.{Holds, Below}

-- the state once symbol i is pushed and its joins are done
unfoldable pub stepped : State → List ℕ → ℕ → State
stepped s w i = joins (get_or w (CLOSINGS + i) 0) (push s.rules (symbol (get_or w i 0)) s.stack)

-- a state on which this can be done
pub record Steppable (o : Order) (w : List ℕ) (n d i : ℕ) : Type 0 where
  pub s : State
  pub holds : Holds o s w n d
  pub low : d < 2048
  pub place : i < 2048
  pub rank : get_or w i 0 < 257
  pub enough : get_or w (CLOSINGS + i) 0 ≤ d
  pub room : length (stepped s w i).rules ≤ 2304

-- the rules of the n ranks at the front, with the closings that stand in their area
unfoldable pub numbered : ℕ → List ℕ → List Rule
numbered n w = (run start (part 0 n w) (part CLOSINGS n w)).rules

-- these can be numbered: the mark, and samples behind it
pub record Numberable (n : ℕ) (w : List ℕ) : Type 0 where
  pub filled : 0 < n
  pub short : n ≤ 2048
  pub long : WORK ≤ length w
  pub mark : get_or w 0 0 ≡ 0
  pub samples : (i : ℕ) → 0 < i → i < n → 0 < get_or w i 0
  pub ranks : (i : ℕ) → i < n → get_or w i 0 < 257
  pub enough : Enough 0 (part CLOSINGS n w)
  pub room : length (numbered n w) ≤ 2304

-- the pass is behind i symbols: v holds its state s, and the rest of the run is that of the whole
pub record Stage (o : Order) (n : ℕ) (w v : List ℕ) (m d i : ℕ) : Type 0 where
  pub s : State
  pub holds : Holds o s v m d
  pub rest : run s (drop i (part 0 n w)) (drop i (part CLOSINGS n w)) ≡ run start (part 0 n w) (part CLOSINGS n w)
  pub enough : Enough d (drop i (part CLOSINGS n w))
  pub low : d ≤ i

-- it is behind the mark, on what stood in the slice before
pub record Begun (o : Order) (n : ℕ) (v : List ℕ) (m d : ℕ) : Type 0 where
  pub origin : List ℕ
  pub numberable : Numberable n origin
  pub below : Below origin v
  pub stage : Stage o n origin v m d 1
