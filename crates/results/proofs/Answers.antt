-- The answer with a chair number stands for the outcome of the answer that it is made of, with the chair number; the record of a search has the outcome's answer, with
-- the number of tests.
use mathlib.Core.Path.{◌≡◌, refl, ap}
use Prim.Native.Nat.{ℕ}
use native.Mathlib.Omega.{arith}
use Rattle.std.specs.declared.result.Result.TheVariants.{Ok, Err}
use Rattle.definitions.specs.declared.Search.{Search}
use Rattle.definitions.specs.Services.{Answer, done, refused, outcome_of, read_outcome, alone, tests_made, Searches}
use Rattle.lists.specs.Serving.{Refuses}
use Rattle.results.specs.Results.{with_chair, with_tests}

pub chair_refused : (r : Answer) (beside x y : ℕ) → outcome_of r ≡ refused x y → read_outcome (with_chair r beside) ≡ refused x y
unfolding outcome_of read_outcome with_chair
chair_refused (Ok n) beside x y e = absurd (let z : ◌≡◌ {A = ℕ} 0 1 = cc in omega arith)
chair_refused (Err f) beside x y e = e

pub chair_done : (r : Answer) (beside n : ℕ) → outcome_of r ≡ done n 0 → read_outcome (with_chair r beside) ≡ done n beside
unfolding outcome_of read_outcome with_chair
chair_done (Ok m) beside n e = let q : m ≡ n = cc in ap (λ (k : ℕ). done k beside) q
chair_done (Err f) beside n e = absurd (let z : ◌≡◌ {A = ℕ} 0 1 = cc in omega arith)

pub tests_refused : (r : Answer) (tests x y : ℕ) → outcome_of r ≡ refused x y → Searches (with_tests r tests) (refused x y)
unfolding outcome_of with_tests alone tests_made
tests_refused (Ok n) tests x y e = absurd (let z : ◌≡◌ {A = ℕ} 0 1 = cc in omega arith)
tests_refused (Err f) tests x y e = record { answer = e; tests = refl }

pub tests_done : (r : Answer) (tests n : ℕ) → outcome_of r ≡ done n 0 → Searches (with_tests r tests) (done n tests)
unfolding outcome_of with_tests alone tests_made
tests_done (Ok m) tests n e = record { answer = e; tests = refl }
tests_done (Err f) tests n e = absurd (let z : ◌≡◌ {A = ℕ} 0 1 = cc in omega arith)

-- a search that is refused
pub search_refuses : (r : Answer) (s : Search) → s ≡ with_tests r 0 → Refuses (Searches s) r
search_refuses r s q x y e = rw q (tests_refused r 0 x y e)
