-- What the areas of the work slice hold while rules are pushed and joined: the links from LINKS on, the table from TABLE on, the stack
-- of rule numbers from STACK on. A state is that of the pass from left to right (`lyndon`, Closings.antt).
use Rattle.std.specs.Prelude.{◌≡◌, ℕ, zero, suc, ◌+◌, ◌*◌, ◌≤◌, ◌<◌, length, take, get_or, set}
use mathlib.Core.List.{List, [], ◌∷◌, Memᴰ as In}
use Rattle.definitions.specs.declared.Order.{Order}
use Rattle.definitions.specs.Grammar.{Rule}
use Rattle.definitions.specs.Table.{words}
use Rattle.lists.specs.Parts.{part}
use Rattle.lyndon.specs.Rules.{intern}
use Rattle.lyndon.specs.Encoding.{first_word, second_word, Encodes, AllEncode}
use Rattle.lyndon.specs.Closings.{State, joins}
use Rattle.layout.specs.Layout.{STACK, LINKS, TABLE, WORK}
use Rattle.dict.specs.Dictionary.{bucket_of, Dict}

-- the table area and the links hold the rules K
pub record Rules (o : Order) (K : List Rule) (w : List ℕ) : Type 0 where
  pub long : WORK ≤ length w
  pub table : part TABLE (2 * length K) w ≡ words o 0 K
  pub dict : Dict (part TABLE 4608 w) (part LINKS 3328 w) (length K)
  pub encodes : AllEncode K

-- the slice once rule n with the words x and y is stored and linked
unfoldable pub added : List ℕ → ℕ → ℕ → ℕ → List ℕ
added w n x y =
    let v = set (set w (TABLE + 2 * n) x) (TABLE + 2 * n + 1) y in
    set (set v (LINKS + 1024 + n) (get_or v (LINKS + bucket_of x y) 0)) (LINKS + bucket_of x y) (n + 1)

-- the d rule numbers on the stack, the top first
unfoldable pub stack_in : List ℕ → ℕ → List ℕ
stack_in w zero = []
stack_in w (suc d) = get_or w (STACK + d) 0 ∷ stack_in w d

-- the work slice holds the state s, with n rules and a stack of d
pub record Holds (o : Order) (s : State) (w : List ℕ) (n d : ℕ) : Type 0 where
  pub count : n ≡ length s.rules
  pub depth : d ≡ length s.stack
  pub rules : Rules o s.rules w
  pub stack : stack_in w d ≡ s.stack
  pub numbers : (j : ℕ) → In j s.stack → j < n

-- x and y are the words of a rule that the table has or has room for, and the stack has room
pub record Pushable (w : List ℕ) (n d x y : ℕ) : Type 0 where
  pub o : Order
  pub s : State
  pub rule : Rule
  pub holds : Holds o s w n d
  pub low : d < 2048
  pub first : x ≡ first_word o rule
  pub second : y ≡ second_word 0 rule
  pub encodes : Encodes rule
  pub room : length (intern s.rules rule) ≤ 2304

-- a state on which k joins can be done
pub record Joinable (w : List ℕ) (n d k : ℕ) : Type 0 where
  pub o : Order
  pub s : State
  pub holds : Holds o s w n d
  pub low : d ≤ 2048
  pub enough : k < d
  pub room : length (joins k s).rules ≤ 2304

-- the areas below the stack stay
abbrev pub Below : List ℕ → List ℕ → Type 0
Below w v = take STACK v ≡ take STACK w
