-- Runs of a string, which cuts are live from a place on, what a scan by runs has reached, and the listed cuts of a run.
use Rattle.std.specs.Prelude.{◌≡◌, true, cond, ◌&&◌, ◌↔◌, List, [], ◌∷◌, ℕ, ◌+◌, ◌-◌, ◌≤◌, ◌<◌, length, take, drop, get_or, ltb, eqb}
use Rattle.definitions.specs.Occurrences.{is_live}
use Rattle.lyndon.specs.Lexical.{Dif}

-- w is smaller than each of its proper suffixes, and so at a difference: if not empty, a Lyndon word
abbrev pub Least : List ℕ → Type 0
Least w = (d : ℕ) → 0 < d → d < length w → Dif w (drop d w)

-- s begins with a run: a Lyndon word of `period` symbols, and `more` symbols which repeat those from the run's first on
pub record Repeats (s : List ℕ) (period more : ℕ) : Type 0 where
  pub filled : 0 < period
  pub inside : period + more ≤ length s
  pub least : Least (take period s)
  pub again : take more (drop period s) ≡ take more s

-- the run of s that starts at `start` and goes up to `end`; the symbol at `back` stands a period before `end`
pub record Running (s : List ℕ) (start back end : ℕ) : Type 0 where
  pub low : start ≤ back
  pub high : back < end
  pub inside : end ≤ length s
  pub run : Repeats (drop start s) (end - back) (back - start)

-- the same, and it goes no further: a smaller symbol breaks it, or it reaches the end of s
pub record Stopped (s : List ℕ) (start back end : ℕ) : Type 0 where
  pub running : Running s start back end
  pub broken : end < length s → get_or s end 0 < get_or s back 0

-- no tail of s is smaller, at a difference, than that from c on
abbrev pub Best : List ℕ → ℕ → Type 0
Best s c = (d : ℕ) → Dif (drop d s) (drop c s) → ⊥

-- which cuts are live from `start` on is a matter of the symbols from there on
abbrev pub LiveFrom : List ℕ → ℕ → Type 0
LiveFrom s start = (c : ℕ) → start + c < length s → is_live s (start + c) ≡ true ↔ Best (drop start s) c

-- the scan has reached `start`: that is so, and `start`, if it is live, is listed
pub record Reached (s : List ℕ) (start : ℕ) : Type 0 where
  pub inside : start ≤ 1 + (length s - 1)
  pub live : LiveFrom s start
  pub apart : (d : ℕ) → is_live s d ≡ true → d < start → length s - start ≤ start - d

-- whole copies of the run are left, one after the other, up to a place
pub data Copies (start back end : ℕ) : ℕ → Type 0 where
  no_copy : Copies start back end start
  copy_more : (c : ℕ) → Copies start back end c → c ≤ back → Copies start back end (c + (end - back))

-- such a run that goes no further, and the place behind its whole copies
pub record Scanned (s : List ℕ) (start back end next : ℕ) : Type 0 where
  pub stopped : Stopped s start back end
  pub copies : Copies start back end next
  pub low : back < next
  pub high : next ≤ end

-- the listed cuts of the run in n symbols, `place` being behind its whole copies: if it reaches the end its start, and the start of its last copy, if
-- that is another one and nothing follows it
unfoldable pub run_cuts : ℕ → ℕ → ℕ → ℕ → ℕ → List ℕ
run_cuts start back end place n = cond (ltb end n) [] (start ∷ cond (ltb start back && eqb place n) (back ∷ []) [])
