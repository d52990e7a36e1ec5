-- What each service answers and leaves in the slices lent to it (document 01, "When a request is turned down"; document 02, S-1 to S-8).
-- A service's checks are an ordered list; the first that is met decides number, place and what becomes of each lent slice.
use Rattle.std.specs.Prelude.{Result, Ok, Err, ℕ, ◌+◌, ◌%◌, Bool, true, false, cond, not, ◌||◌, ◌≡◌, List, [], ◌∷◌, ◌++◌, map, length, take, drop, replicate, ltb, eqb}
use Rattle.definitions.specs.declared.Order.{Order}
use Rattle.definitions.specs.declared.Order.TheVariants.{Unsigned, Signed}
use Rattle.definitions.specs.declared.Content.{Content}
use Rattle.definitions.specs.declared.Content.TheVariants.{Samples, Steps}
use Rattle.definitions.specs.declared.Refusal.{Refusal}
use Rattle.definitions.specs.declared.Refusal.TheVariants.{TextTooLong, PatternEmpty, PatternTooLong, WorkTooShort, TableLength, BadWord, NotATable, RangePastEnd, ResultTooShort, NoStep, OffHeading, NotAtRest, OddWindow}
use Rattle.definitions.specs.declared.ReadBack.{ReadBack}
use Rattle.definitions.specs.declared.Search.{Search}
use Rattle.definitions.specs.Words.{least, placed, lyndon_length, lyndon_array}
use Rattle.definitions.specs.Table.{rank_of, table_of, bad_word, is_table, text_of, chair_of, rule_count}
use Rattle.definitions.specs.SecondEdition.{bad_in_second, is_second}
use Rattle.definitions.specs.Occurrences.{pattern_cuts, tests}
use Rattle.definitions.specs.Steps.{to_steps, from_steps, searched, finds}
use Rattle.definitions.specs.Profile.{first_off, at_rest}
use Rattle.definitions.specs.Census.{census_runs, census_counts, joined}

-- ---- outcomes

pub data Outcome : Type 0 where
  -- success: the number that it gives, and one beside it: reading adds the chair number, a search the number of its tests; 0 elsewhere
  done : ℕ → ℕ → Outcome
  -- a refusal: its number and place
  refused : ℕ → ℕ → Outcome

-- the number of each refusal, and its place
unfoldable pub refusal_number : Refusal → ℕ
refusal_number TextTooLong = 1
refusal_number PatternEmpty = 2
refusal_number PatternTooLong = 3
refusal_number WorkTooShort = 4
refusal_number TableLength = 5
refusal_number (BadWord at) = 6
refusal_number NotATable = 7
refusal_number RangePastEnd = 8
refusal_number (ResultTooShort needed) = 9
refusal_number NoStep = 10
refusal_number (OffHeading at) = 11
refusal_number NotAtRest = 12
refusal_number OddWindow = 13

unfoldable pub refusal_place : Refusal → ℕ
refusal_place TextTooLong = 0
refusal_place PatternEmpty = 0
refusal_place PatternTooLong = 0
refusal_place WorkTooShort = 0
refusal_place TableLength = 0
refusal_place (BadWord at) = at
refusal_place NotATable = 0
refusal_place RangePastEnd = 0
refusal_place (ResultTooShort needed) = needed
refusal_place NoStep = 0
refusal_place (OffHeading at) = at
refusal_place NotAtRest = 0
refusal_place OddWindow = 0

-- what a service answers with, and reading a table back
abbrev pub Answer : Type 0
Answer = Result ℕ Refusal

abbrev pub ReadAnswer : Type 0
ReadAnswer = Result ReadBack Refusal

-- the outcome that each answer stands for
unfoldable pub outcome_of : Answer → Outcome
outcome_of (Ok n) = done n 0
outcome_of (Err r) = refused (refusal_number r) (refusal_place r)

unfoldable pub read_outcome : ReadAnswer → Outcome
read_outcome (Ok b) = done b.samples b.chair
read_outcome (Err r) = refused (refusal_number r) (refusal_place r)

-- an outcome without the number beside, and the number of tests of a search: a refused one makes none
unfoldable pub alone : Outcome → Outcome
alone (done n beside) = done n 0
alone (refused number place) = refused number place

unfoldable pub tests_made : Outcome → ℕ
tests_made (done n made) = made
tests_made (refused number place) = 0

-- ---- checks

-- a check: whether it is met, its number and place, and whether the work slice is cleared when it decides
pub record Check : Type 0 where
  pub met : Bool
  pub number : ℕ
  pub place : ℕ
  pub clears : Bool

abbrev pub check : Bool → ℕ → ℕ → Bool → Check
check met number place clears = record { met = met; number = number; place = place; clears = clears }

-- the first check that is met decides
unfoldable pub first_met {ℓ} : {A : Type ℓ} → List Check → (Check → A) → A → A
first_met [] refusal success = success
first_met (c ∷ checks) refusal success = cond c.met (refusal c) (first_met checks refusal success)

-- the work slice with its first 16,384 words zero
unfoldable pub cleared : List ℕ → List ℕ
cleared work = placed (replicate 16384 0) work

-- ---- services

-- a slice that is lent to a service: what it holds afterwards where a check refuses, and where the service is done
pub record Lent : Type 0 where
  pub if_refused : Check → List ℕ
  pub if_done : List ℕ

-- a result slice: a refusal leaves it as it is, success writes l at its front
abbrev pub result_slice : List ℕ → List ℕ → Lent
result_slice l result = record { if_refused = λ c. result; if_done = placed l result }

-- a work slice: as it was or cleared, by the check that decides; cleared after success
abbrev pub work_slice : List ℕ → Lent
work_slice work = record { if_refused = λ c. cond c.clears (cleared work) work; if_done = cleared work }

-- a service: its checks in order, what it answers where none is met, and the slices that are lent to it, a work slice first
pub record Service : Type 0 where
  pub checks : List Check
  pub success : Outcome
  pub lent : List Lent

-- what the service answers
unfoldable pub outcome : Service → Outcome
outcome s = first_met s.checks (λ c. refused c.number c.place) s.success

-- what the lent slices hold afterwards
unfoldable pub slices_after : Service → List (List ℕ)
slices_after s = map (λ x. first_met s.checks x.if_refused x.if_done) s.lent

-- THE PROMISE OF A CALL: what it answers stands for the service's outcome, and the lent slices then hold what the service leaves there
pub record Serves (s : Service) (answers : Outcome → Type 0) (held : List (List ℕ)) : Type 0 where
  pub answer : answers (outcome s)
  pub slices : held ≡ slices_after s

-- what each kind of answer stands for
abbrev pub Answers : Answer → Outcome → Type 0
Answers r o = outcome_of r ≡ o

abbrev pub Reads : ReadAnswer → Outcome → Type 0
Reads r o = read_outcome r ≡ o

-- of the record of a search, its answer and its tests
pub record Searches (s : Search) (o : Outcome) : Type 0 where
  pub answer : outcome_of s.answer ≡ alone o
  pub tests : s.tests ≡ tests_made o

-- ---- the checks: when met, number, place, whether the work slice is cleared

abbrev pub text_too_long : List ℕ → Check
text_too_long text = check (ltb 2047 (length text)) 1 0 false

abbrev pub pattern_empty : List ℕ → Check
pattern_empty p = check (eqb (length p) 0) 2 0 false

abbrev pub pattern_too_long : List ℕ → Check
pattern_too_long p = check (ltb 2047 (length p)) 3 0 false

abbrev pub no_step : List ℕ → Check
no_step p = check (eqb (length p) 1) 10 0 false

-- of a drive that is to be in the nine-heading profile; whether the work slice is cleared differs by service
abbrev pub off_heading : Bool → List ℕ → Check
off_heading clears text = let i = first_off text in check (ltb i (length text)) 11 i clears

abbrev pub not_at_rest : Bool → List ℕ → Check
not_at_rest clears text = check (not (at_rest text)) 12 0 clears

-- of a census of runs of q samples
abbrev pub odd_window : ℕ → Check
odd_window q = check (ltb q 1 || ltb 8 q) 13 0 false

-- of a work slice of n words
abbrev pub work_too_short : ℕ → Check
work_too_short n = check (ltb n 16384) 4 0 false

-- of a table of n words
abbrev pub table_length : ℕ → Check
table_length n = check (eqb n 0 || (eqb (n % 2) 1 || ltb 4608 n)) 5 0 false

abbrev pub has_bad_word : List ℕ → Check
has_bad_word t = let i = least (bad_word t) (length t) in check (ltb i (length t)) 6 i false

abbrev pub not_a_table : Order → List ℕ → Check
not_a_table o t = check (not (is_table o t)) 7 0 true

-- the same of a second-edition table
abbrev pub second_length : ℕ → Check
second_length n = check (eqb n 0 || (not (eqb (n % 3) 0) || ltb 6912 n)) 5 0 false

abbrev pub has_bad_in_second : List ℕ → Check
has_bad_in_second s = let i = least (bad_in_second s) (length s) in check (ltb i (length s)) 6 i false

abbrev pub not_a_second : Order → List ℕ → Check
not_a_second o s = check (not (is_second o s)) 7 0 true

-- in a drive of n samples; a position is a range of one sample
abbrev pub range_past_end : ℕ → ℕ → ℕ → Check
range_past_end n start count = check (ltb n (start + count)) 8 0 true

-- of a result slice of n entries
abbrev pub result_too_short : ℕ → ℕ → Check
result_too_short needed n = check (ltb n needed) 9 needed true

-- of two result slices of n and m entries, which must have so many
abbrev pub either_too_short : ℕ → ℕ → ℕ → ℕ → Check
either_too_short first n second m = check (ltb n first || ltb m second) 9 second true

-- ---- the services: t is a table, work and result are what the lent slices hold before

-- the order of samples that the services speak of, and the one that they spoke of before request S-2
abbrev pub sample_order : Order
sample_order = Signed

abbrev pub former_order : Order
former_order = Unsigned

-- what a table that is handed over must pass, with n words of work
unfoldable pub table_checks : Order → List ℕ → ℕ → List Check
table_checks o t n = work_too_short n ∷ table_length (length t) ∷ has_bad_word t ∷ not_a_table o t ∷ []

unfoldable pub pattern_checks : List ℕ → List Check
pattern_checks p = pattern_empty p ∷ pattern_too_long p ∷ []

-- of a pattern that is searched for in a table, by what the table holds
unfoldable pub search_checks : Content → List ℕ → List Check
search_checks Samples p = pattern_checks p
search_checks Steps p = pattern_checks p ++ (no_step p ∷ [])

-- of a drive that is to be a profile drive
unfoldable pub profile_checks : Bool → List ℕ → List Check
profile_checks clears text = off_heading clears text ∷ not_at_rest clears text ∷ []

-- of such a drive that is handed over: 1 first
unfoldable pub drive_checks : List ℕ → List Check
drive_checks text = text_too_long text ∷ profile_checks false text

-- what a service that answers alone gives; one that writes a list gives the number of its entries, and the number beside it
abbrev pub gives : List Check → Outcome → Service
gives checks success = record { checks = checks; success = success; lent = [] }

abbrev pub writes : List Check → List ℕ → ℕ → List ℕ → Service
writes checks l beside result =
    record { checks = checks ++ (result_too_short (length l) (length result) ∷ []); success = done (length l) beside; lent = result_slice l result ∷ [] }

-- one that writes two lists, each to a slice of its own, judges both slices before it writes, and gives the number of entries of the second
abbrev pub writes_both : List Check → List ℕ → List ℕ → List ℕ → List ℕ → Service
writes_both checks l m first second =
    record {
      checks = checks ++ (either_too_short (length l) (length first) (length m) (length second) ∷ []);
      success = done (length m) 0;
      lent = result_slice l first ∷ result_slice m second ∷ [];
    }

-- the same with a work slice, which is lent first
abbrev pub working : List ℕ → Service → Service
working work s = record { checks = s.checks; success = s.success; lent = work_slice work ∷ s.lent }

-- build the table of a drive and a chair number
unfoldable pub build_service : Order → List ℕ → ℕ → List ℕ → List ℕ → Service
build_service o text chair work result = working work (writes (text_too_long text ∷ work_too_short (length work) ∷ []) (table_of o text chair) 0 result)

-- check a table: success gives the number of rules
unfoldable pub check_service : Order → List ℕ → List ℕ → Service
check_service o t work = working work (gives (table_checks o t (length work)) (done (rule_count t) 0))

-- build and check in the nine-heading profile: before a work slice is judged the profile's checks leave it, behind the table's they clear it
unfoldable pub build_profile_service : Order → List ℕ → ℕ → List ℕ → List ℕ → Service
build_profile_service o text chair work result =
    working work (writes (drive_checks text ++ (work_too_short (length work) ∷ [])) (table_of o text chair) 0 result)

unfoldable pub check_profile_service : Order → List ℕ → List ℕ → Service
check_profile_service o t work = working work (gives (table_checks o t (length work) ++ profile_checks true (text_of o t)) (done (rule_count t) 0))

-- read a table back
unfoldable pub read_service : Order → List ℕ → List ℕ → List ℕ → Service
read_service o t work result = working work (writes (table_checks o t (length work)) (text_of o t) (chair_of t) result)

-- read the part of a drive that begins at start and has count samples
unfoldable pub extract_service : Order → List ℕ → ℕ → ℕ → List ℕ → List ℕ → Service
extract_service o t start count work result =
    let text = text_of o t in
    working work (writes (table_checks o t (length work) ++ (range_past_end (length text) start count ∷ [])) (take count (drop start text)) 0 result)

-- count the finds of a pattern in a table that holds samples or steps, and the tests: those of what is searched for
unfoldable pub count_service : Order → List ℕ → Content → List ℕ → List ℕ → Service
count_service o t c p work =
    working work (gives (search_checks c p ++ table_checks o t (length work)) (done (length (finds c p (text_of o t))) (length (tests o t (searched c p)))))

-- list the finds, and count the tests
unfoldable pub locate_service : Order → List ℕ → Content → List ℕ → List ℕ → List ℕ → Service
locate_service o t c p work result =
    working work (writes (search_checks c p ++ table_checks o t (length work)) (finds c p (text_of o t)) (length (tests o t (searched c p))) result)

-- list the live cuts of a pattern, but those that are dropped
unfoldable pub cuts_service : Order → List ℕ → List ℕ → Service
cuts_service o p result = writes (pattern_checks p) (pattern_cuts o p) 0 result

-- the length of the longest Lyndon word that begins at a position of a drive
unfoldable pub lyndon_length_service : Order → List ℕ → ℕ → List ℕ → Service
lyndon_length_service o t position work =
    let text = text_of o t in
    working work (gives (table_checks o t (length work) ++ (range_past_end (length text) position 1 ∷ [])) (done (lyndon_length (map (rank_of o) text) position) 0))

-- the Lyndon array of a drive: these lengths at all positions
unfoldable pub lyndon_array_service : Order → List ℕ → List ℕ → List ℕ → Service
lyndon_array_service o t work result = working work (writes (table_checks o t (length work)) (lyndon_array (map (rank_of o) (text_of o t))) 0 result)

-- convert a table from one order of samples to another: the table of its drive and chair number there
unfoldable pub convert_order_service : Order → Order → List ℕ → List ℕ → List ℕ → Service
convert_order_service o p t work result = working work (writes (table_checks o t (length work)) (table_of p (text_of o t) (chair_of t)) 0 result)

-- rearrange a drive to its steps, and restore it
unfoldable pub to_steps_service : List ℕ → List ℕ → Service
to_steps_service text result = writes (text_too_long text ∷ []) (to_steps text) 0 result

unfoldable pub from_steps_service : List ℕ → List ℕ → Service
from_steps_service text result = writes (text_too_long text ∷ []) (from_steps text) 0 result

-- a census of the runs of q samples: the runs one behind the other in one slice, their counts in another
unfoldable pub census_service : Order → List ℕ → ℕ → List ℕ → List ℕ → List ℕ → Service
census_service o t q work runs counts =
    let text = text_of o t in
    working work (writes_both (odd_window q ∷ table_checks o t (length work)) (joined (census_runs o q text)) (census_counts o q text) runs counts)
