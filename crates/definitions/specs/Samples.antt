-- The samples of document 01 that are marked P, its live cuts, its two examples of a cut at a join, its table of `abab` for chair 40, tables that it says are
-- foreign, some of its edges as outcomes of services, and what its program prints; the arrays of S-1; drives whose tables, cuts and lengths the order of S-2 changes; patterns
-- with live cuts that S-3 does not list; and the tests of S-4, in `abab` those of a rule that stands twice in the tree and of one whose left half is the mark;
-- first differences of tails (S-5); drives rearranged to steps and searched by them (S-6); drives in the nine-heading profile and others, and what the desk report prints of them (S-7);
-- and censuses of drives on both sides of 128, of drives shorter than the runs or just as long, and of equal samples, and what the census report prints (S-8): by computation, under one claim.
use Rattle.std.specs.Prelude.{Ok, Err, ℕ, ◌+◌, ◌-◌, Bool, true, false, cond, not, ◌&&◌, List, [], ◌∷◌, ◌++◌, map, length, drop, get_or, replicate, eqb}
use Rattle.definitions.specs.declared.Content.TheVariants.{Samples, Steps}
use Rattle.definitions.specs.declared.Refusal.TheVariants.{TextTooLong, PatternEmpty, PatternTooLong, WorkTooShort, TableLength, BadWord, NotATable, RangePastEnd, ResultTooShort, NoStep, OffHeading, NotAtRest, OddWindow}
use Rattle.definitions.specs.Words.{least, same, lexlt, first_difference, lyndon, lyndon_length, lyndon_array}
use Rattle.definitions.specs.Grammar.{rules_of}
use Rattle.definitions.specs.Table.{rank_of, marked, table_of, bad_word, is_pair, left_half, right_half, text_of, chair_of, is_drive, is_table}
use Rattle.definitions.specs.Occurrences.{occurrences, live_cuts, pattern_cuts, straddling, cut_at, Test, tests}
use Rattle.definitions.specs.Steps.{to_steps, from_steps, step_finds, searched, finds}
use Rattle.definitions.specs.Profile.{first_off, is_profile}
use Rattle.definitions.specs.Census.{census_runs, census_counts, joined, total}
use Rattle.definitions.specs.Services.{Answer, ReadAnswer, Outcome, done, refused, read_outcome, alone, tests_made, Service, outcome, outcome_of, slices_after, sample_order, former_order, build_service, check_service, build_profile_service, check_profile_service, read_service, extract_service, count_service, locate_service, cuts_service, lyndon_length_service, lyndon_array_service, convert_order_service, to_steps_service, from_steps_service, census_service}
use Rattle.definitions.specs.Replies.{reply_of, search_reply_of, content_of}
use Rattle.definitions.specs.Programs.{decimal, motif_output, desk_output, census_output}

abbrev pub a : ℕ
a = 97

abbrev pub b : ℕ
b = 98

abbrev pub abab : List ℕ
abab = a ∷ b ∷ a ∷ b ∷ []

abbrev pub of_abab : List ℕ
of_abab =
    0x00000000 ∷ 0xC0000028 ∷ 0x00000062 ∷ 0xC0000000 ∷ 0x00000063 ∷ 0xC0000000
    ∷ 0x40000001 ∷ 0x80000002 ∷ 0x40000000 ∷ 0x80000003 ∷ 0x40000004 ∷ 0x80000003 ∷ []

-- the same strings, with the rules of `a` and `b` in the other order
abbrev pub other_order : List ℕ
other_order =
    0x00000000 ∷ 0xC0000028 ∷ 0x00000063 ∷ 0xC0000000 ∷ 0x00000062 ∷ 0xC0000000
    ∷ 0x40000002 ∷ 0x80000001 ∷ 0x40000000 ∷ 0x80000003 ∷ 0x40000004 ∷ 0x80000003 ∷ []

-- the same drive, with two rules that spell `ab`
abbrev pub two_rules : List ℕ
two_rules =
    0x00000000 ∷ 0xC0000028 ∷ 0x00000062 ∷ 0xC0000000 ∷ 0x00000063 ∷ 0xC0000000 ∷ 0x40000001 ∷ 0x80000002
    ∷ 0x40000000 ∷ 0x80000003 ∷ 0x40000001 ∷ 0x80000002 ∷ 0x40000004 ∷ 0x80000005 ∷ []

-- the samples -1 and 1: a Lyndon word
abbrev pub rising : List ℕ
rising = 255 ∷ 1 ∷ []

abbrev pub of_rising : List ℕ
of_rising =
    0x00000000 ∷ 0xC0000028 ∷ 0x00000100 ∷ 0xC0000000 ∷ 0x00000002 ∷ 0xC0000000 ∷ 0x40000001 ∷ 0x80000002 ∷ 0x40000000 ∷ 0x80000003 ∷ []

-- its table in the former order, where 255 is the greater sample
abbrev pub of_rising_before : List ℕ
of_rising_before =
    0x00000000 ∷ 0xC0000028 ∷ 0x00000100 ∷ 0xC0000000 ∷ 0x40000000 ∷ 0x80000001 ∷ 0x00000002 ∷ 0xC0000000 ∷ 0x40000002 ∷ 0x80000003 ∷ []

-- a drive, and the table of its steps
abbrev pub moved : List ℕ
moved = 5 ∷ 7 ∷ 9 ∷ 3 ∷ 5 ∷ []

abbrev pub of_steps : List ℕ
of_steps = table_of sample_order (5 ∷ 2 ∷ 2 ∷ 250 ∷ 2 ∷ []) 40

-- a profile drive: forward and back to rest
abbrev pub ahead : List ℕ
ahead = 0 ∷ 1 ∷ 0 ∷ []

-- work slices: one word more than enough
abbrev pub room : List ℕ
room = replicate 16385 7

-- what the program prints: `refused N`; and `rules R`, `found F` and positions
abbrev pub refused_with : ℕ → List ℕ
refused_with n = 114 ∷ 101 ∷ 102 ∷ 117 ∷ 115 ∷ 101 ∷ 100 ∷ 32 ∷ (48 + n) ∷ 10 ∷ []

-- `refused 1N`
abbrev pub refused_with_ten : ℕ → List ℕ
refused_with_ten n = 114 ∷ 101 ∷ 102 ∷ 117 ∷ 115 ∷ 101 ∷ 100 ∷ 32 ∷ 49 ∷ (48 + n) ∷ 10 ∷ []

abbrev pub found_in : ℕ → ℕ → List ℕ → List ℕ
found_in r n rest = 114 ∷ 117 ∷ 108 ∷ 101 ∷ 115 ∷ 32 ∷ (48 + r) ∷ 10 ∷ 102 ∷ 111 ∷ 117 ∷ 110 ∷ 100 ∷ 32 ∷ (48 + n) ∷ 10 ∷ rest

pub data Sample : Type 0 where
  -- the drive has so many rules, its table is accepted and gives the drive and the chair number back
  rules : List ℕ → ℕ → Sample
  -- in the drive the pattern has just these occurrences
  occurs : List ℕ → List ℕ → List ℕ → Sample
  -- the pattern has just these live cuts, or just these listed ones
  live : List ℕ → List ℕ → Sample
  cuts : List ℕ → List ℕ → Sample
  -- in this pair rule of the drive's table the pattern straddles the join at just these places, and is cut there at listed cuts
  joins : List ℕ → ℕ → List ℕ → List ℕ → Sample
  -- in the drive's table the search for the pattern makes just these tests: rule and cut, rule and cut, ..
  tries : List ℕ → List ℕ → List ℕ → Sample
  -- the tails of the pattern from these two places on differ first at this index
  differ : List ℕ → ℕ → ℕ → ℕ → Sample
  -- the drive rearranged is this, and this restored is the drive
  rearranged : List ℕ → List ℕ → Sample
  -- in the drive just these positions are found by the steps of the pattern, also once it is rearranged
  follow : List ℕ → List ℕ → List ℕ → Sample
  -- whether the form says that a table holds steps
  says : ℕ → Bool → Sample
  -- the lowest index of the drive that is off heading, and whether the drive is a profile drive
  profile : List ℕ → ℕ → Bool → Sample
  -- the drive has just these runs of so many samples, one behind the other, with just these counts, and that many runs in all
  census : List ℕ → ℕ → List ℕ → List ℕ → ℕ → Sample
  -- whether x is smaller than y; whether the string is a Lyndon word; the length of the longest that begins at the position of the string
  smaller : List ℕ → List ℕ → Bool → Sample
  is_word : List ℕ → Bool → Sample
  longest : List ℕ → ℕ → ℕ → Sample
  -- whether the text is a drive
  drive : List ℕ → Bool → Sample
  -- the Lyndon array of the drive
  lengths : List ℕ → List ℕ → Sample
  -- the ranks of the bytes
  ranks : List ℕ → List ℕ → Sample
  -- the table of the drive and chair number, word by word
  table : List ℕ → ℕ → List ℕ → Sample
  -- the service ends with this number, place and count, and this number beside the count
  ends : Service → ℕ → ℕ → ℕ → ℕ → Sample
  -- the slice that is lent last holds this afterwards; the last but one
  leaves : Service → List ℕ → Sample
  first : Service → List ℕ → Sample
  -- whether the work slice of words 7, which is lent first, is cleared, by its first word; its first word and those from 16,383 on
  clears : Service → Bool → Sample
  works : Service → List ℕ → Sample
  -- the answer stands for this number, place and count
  answers : Answer → ℕ → ℕ → ℕ → Sample
  -- the same of an answer to reading, with the chair number
  reads : ReadAnswer → ℕ → ℕ → ℕ → ℕ → Sample
  -- a search with this outcome answers this, and so many tests
  searches : Outcome → Answer → ℕ → Sample
  -- the outcome's reply to C has this number, chair number, place and count; a search's reply to C has these and so many tests
  replies : Outcome → ℕ → ℕ → ℕ → ℕ → Sample
  found : Outcome → ℕ → ℕ → ℕ → ℕ → ℕ → Sample
  -- the number in decimal
  spells : ℕ → List ℕ → Sample
  -- the input makes the program `motif` print this, or the program `desk_report`
  prints : List ℕ → List ℕ → Sample
  reports : List ℕ → List ℕ → Sample
  -- or the program `census_report`
  lists : List ℕ → List ℕ → Sample

unfoldable pub last : List (List ℕ) → List ℕ
last slices = get_or slices (length slices - 1) []

-- the first word of a slice, and those from word 16,383 on
unfoldable pub edges : List ℕ → List ℕ
edges [] = []
edges (x ∷ l) = x ∷ drop 16382 l

-- number, place and count, and the number beside the count
unfoldable pub parts : Outcome → List ℕ
parts (done n beside) = 0 ∷ 0 ∷ n ∷ beside ∷ []
parts (refused number place) = number ∷ place ∷ 0 ∷ 0 ∷ []

-- rule and cut of each test
unfoldable pub flat : List Test → List ℕ
flat [] = []
flat (x ∷ l) = x.rule ∷ x.cut ∷ flat l

unfoldable pub holds : Sample → Bool
holds (rules text n) =
    let t = table_of sample_order text 40 in
    eqb (length (rules_of (marked sample_order text))) n
    && (eqb (least (bad_word t) (length t)) (length t)
    && (is_table sample_order t && (same (text_of sample_order t) text && eqb (chair_of t) 40)))
holds (occurs text p places) = same (occurrences p text) places
holds (live p places) = same (live_cuts (map (rank_of sample_order) p)) places
holds (cuts p places) = same (pattern_cuts sample_order p) places
holds (joins text r p places) =
    let t = table_of sample_order text 40 in
    let u = left_half sample_order t r in
    let v = right_half sample_order t r in
    let q = map (rank_of sample_order) p in
    is_pair t r && (same (straddling q u v) places && same (cut_at q (pattern_cuts sample_order p) u v) places)
holds (tries text p l) = same (flat (tests sample_order (table_of sample_order text 40) p)) l
holds (differ p i j d) = eqb (first_difference (drop i p) (drop j p)) d
holds (rearranged text l) = same (to_steps text) l && same (from_steps l) text
holds (follow text p places) = same (step_finds p text) places && same (finds Steps p (to_steps text)) places
holds (says form b) = eqb (length (searched (content_of form) (a ∷ []))) (cond b 0 1)
holds (profile text i b) = eqb (first_off text) i && cond (is_profile text) b (not b)
holds (census text q runs counts n) =
    same (joined (census_runs sample_order q text)) runs && (same (census_counts sample_order q text) counts && eqb (total counts) n)
holds (smaller x y b) = cond (lexlt x y) b (not b)
holds (is_word w b) = cond (lyndon w) b (not b)
holds (longest s i n) = eqb (lyndon_length s i) n
holds (drive text b) = cond (is_drive text) b (not b)
holds (lengths text l) = same (lyndon_array (map (rank_of sample_order) text)) l
holds (ranks bytes l) = same (map (rank_of sample_order) bytes) l
holds (table text chair t) = same (table_of sample_order text chair) t
holds (ends s number place count beside) = same (parts (outcome s)) (number ∷ place ∷ count ∷ beside ∷ [])
holds (leaves s after) = same (last (slices_after s)) after
holds (first s after) = same (get_or (slices_after s) (length (slices_after s) - 2) []) after
holds (clears s b) = eqb (get_or (get_or (slices_after s) 0 []) 0 8) (cond b 0 7)
holds (works s l) = same (edges (get_or (slices_after s) 0 [])) l
holds (answers r number place count) = same (parts (outcome_of r)) (number ∷ place ∷ count ∷ 0 ∷ [])
holds (reads r number place count chair) = same (parts (read_outcome r)) (number ∷ place ∷ count ∷ chair ∷ [])
holds (searches o r tests) = same (parts (alone o)) (parts (outcome_of r)) && eqb (tests_made o) tests
holds (replies o number chair place count) = let r = reply_of o in same (r.number ∷ r.chair ∷ r.place ∷ r.count ∷ []) (number ∷ chair ∷ place ∷ count ∷ [])
holds (found o number chair place count tests) =
    let r = search_reply_of o in same (r.number ∷ r.chair ∷ r.place ∷ r.count ∷ r.tests ∷ []) (number ∷ chair ∷ place ∷ count ∷ tests ∷ [])
holds (spells n bytes) = same (decimal n) bytes
holds (prints input output) = same (motif_output sample_order input) output
holds (reports input output) = same (desk_output input) output
holds (lists input output) = same (census_output sample_order input) output

unfoldable pub all : List Sample → Bool
all [] = true
all (s ∷ samples) = holds s && all samples

unfoldable pub samples : List Sample
samples =
    rules [] 1
    ∷ occurs [] (a ∷ []) []
    ∷ rules (a ∷ []) 3
    ∷ occurs (a ∷ []) (a ∷ []) (0 ∷ [])
    ∷ occurs (a ∷ []) (a ∷ a ∷ []) []
    ∷ rules (a ∷ a ∷ a ∷ a ∷ []) 6
    ∷ occurs (a ∷ a ∷ a ∷ a ∷ []) (a ∷ a ∷ []) (0 ∷ 1 ∷ 2 ∷ [])
    ∷ rules abab 6
    ∷ occurs abab (a ∷ b ∷ []) (0 ∷ 2 ∷ [])
    ∷ occurs abab (b ∷ a ∷ []) (1 ∷ [])
    ∷ rules (b ∷ a ∷ b ∷ a ∷ []) 7
    ∷ occurs (b ∷ a ∷ b ∷ a ∷ []) (b ∷ a ∷ []) (0 ∷ 2 ∷ [])
    ∷ occurs (b ∷ a ∷ b ∷ a ∷ []) (a ∷ []) (1 ∷ 3 ∷ [])
    ∷ rules (a ∷ b ∷ b ∷ b ∷ []) 7
    ∷ occurs (a ∷ b ∷ b ∷ b ∷ []) (b ∷ b ∷ b ∷ []) (1 ∷ [])
    ∷ rules (a ∷ a ∷ b ∷ b ∷ []) 7
    ∷ occurs (a ∷ a ∷ b ∷ b ∷ []) (a ∷ a ∷ b ∷ []) (0 ∷ [])
    ∷ cuts abab (2 ∷ [])
    ∷ cuts (a ∷ a ∷ b ∷ a ∷ []) (1 ∷ 3 ∷ [])
    ∷ cuts (a ∷ a ∷ a ∷ []) (1 ∷ 2 ∷ [])
    ∷ cuts (a ∷ []) []
    ∷ cuts (97 ∷ 200 ∷ 100 ∷ []) (1 ∷ [])
    ∷ cuts (0 ∷ 127 ∷ 128 ∷ []) (2 ∷ [])
    ∷ cuts (0 ∷ 255 ∷ 1 ∷ []) (1 ∷ [])
    ∷ live abab (2 ∷ [])
    ∷ live (a ∷ a ∷ b ∷ a ∷ []) (1 ∷ 3 ∷ [])
    ∷ live (a ∷ a ∷ a ∷ []) (1 ∷ 2 ∷ [])
    ∷ live (a ∷ []) []
    ∷ live (a ∷ a ∷ a ∷ a ∷ []) (1 ∷ 2 ∷ 3 ∷ [])
    ∷ cuts (a ∷ a ∷ a ∷ a ∷ []) (1 ∷ 3 ∷ [])
    ∷ live (120 ∷ abab ++ abab) (1 ∷ 3 ∷ 5 ∷ 7 ∷ [])
    ∷ cuts (120 ∷ abab ++ abab) (1 ∷ 7 ∷ [])
    ∷ live (120 ∷ abab ++ a ∷ []) (1 ∷ 3 ∷ 5 ∷ [])
    ∷ cuts (120 ∷ abab ++ a ∷ []) (1 ∷ 5 ∷ [])
    ∷ ranks (128 ∷ 255 ∷ 0 ∷ 1 ∷ 127 ∷ []) (1 ∷ 128 ∷ 129 ∷ 130 ∷ 256 ∷ [])
    ∷ rules (255 ∷ 0 ∷ []) 5
    ∷ joins (a ∷ a ∷ b ∷ b ∷ []) 5 (a ∷ a ∷ b ∷ []) (0 ∷ [])
    ∷ joins (a ∷ b ∷ b ∷ b ∷ []) 5 (b ∷ b ∷ b ∷ []) (1 ∷ [])
    ∷ joins (a ∷ b ∷ b ∷ b ∷ []) 5 (b ∷ []) []
    ∷ joins abab 5 (a ∷ b ∷ []) []
    ∷ joins (128 ∷ []) 2 (128 ∷ 128 ∷ []) []
    ∷ smaller [] (a ∷ []) true
    ∷ smaller (a ∷ []) (a ∷ []) false
    ∷ is_word [] false
    ∷ is_word (a ∷ b ∷ []) true
    ∷ longest [] 0 0
    ∷ drive (replicate 2048 a) false
    ∷ drive (255 ∷ []) true
    ∷ drive (256 ∷ []) false
    ∷ tries abab (b ∷ a ∷ []) (3 ∷ 1 ∷ 4 ∷ 1 ∷ 5 ∷ 1 ∷ [])
    ∷ tries abab (b ∷ a ∷ b ∷ []) (4 ∷ 1 ∷ 5 ∷ 1 ∷ [])
    ∷ tries abab (a ∷ []) []
    ∷ tries (0 ∷ 1 ∷ 0 ∷ 1 ∷ []) (1 ∷ 0 ∷ []) (3 ∷ 1 ∷ 4 ∷ 1 ∷ 5 ∷ 1 ∷ [])
    ∷ tries (a ∷ a ∷ b ∷ a ∷ a ∷ b ∷ []) (a ∷ a ∷ b ∷ a ∷ []) (5 ∷ 1 ∷ 6 ∷ 1 ∷ 6 ∷ 3 ∷ [])
    ∷ tries (a ∷ a ∷ a ∷ b ∷ a ∷ a ∷ a ∷ b ∷ []) (a ∷ a ∷ a ∷ a ∷ []) (5 ∷ 1 ∷ 6 ∷ 1 ∷ 7 ∷ 1 ∷ 7 ∷ 3 ∷ [])
    ∷ tries (a ∷ []) (a ∷ a ∷ []) (2 ∷ 1 ∷ [])
    ∷ tries [] (a ∷ a ∷ []) []
    ∷ differ (a ∷ a ∷ b ∷ a ∷ a ∷ a ∷ []) 0 3 2
    ∷ differ (a ∷ a ∷ b ∷ a ∷ a ∷ a ∷ []) 3 0 2
    ∷ differ (a ∷ a ∷ b ∷ a ∷ a ∷ a ∷ []) 0 2 0
    ∷ differ abab 0 2 2
    ∷ differ abab 2 0 2
    ∷ differ abab 1 4 0
    ∷ differ (a ∷ 0 ∷ []) 1 2 0
    ∷ differ abab 1 1 3
    ∷ rearranged moved (5 ∷ 2 ∷ 2 ∷ 250 ∷ 2 ∷ [])
    ∷ rearranged (0 ∷ 255 ∷ 0 ∷ 128 ∷ 127 ∷ []) (0 ∷ 255 ∷ 1 ∷ 128 ∷ 255 ∷ [])
    ∷ rearranged (200 ∷ []) (200 ∷ [])
    ∷ rearranged [] []
    ∷ follow moved (0 ∷ 2 ∷ []) (0 ∷ 1 ∷ 3 ∷ [])
    ∷ follow moved (254 ∷ 0 ∷ 2 ∷ []) (0 ∷ [])
    ∷ follow (2 ∷ 3 ∷ []) (0 ∷ 2 ∷ []) []
    ∷ follow (2 ∷ 4 ∷ 6 ∷ []) (0 ∷ 2 ∷ []) (0 ∷ 1 ∷ [])
    ∷ follow (250 ∷ 4 ∷ 254 ∷ 8 ∷ []) (100 ∷ 110 ∷ []) (0 ∷ 2 ∷ [])
    ∷ follow (a ∷ a ∷ a ∷ a ∷ []) (b ∷ b ∷ []) (0 ∷ 1 ∷ 2 ∷ [])
    ∷ follow (a ∷ b ∷ []) (a ∷ b ∷ a ∷ []) []
    ∷ follow [] (a ∷ a ∷ []) []
    ∷ says 0 false
    ∷ says 1 true
    ∷ says 2 false
    ∷ says 4294967294 false
    ∷ says 4294967295 true
    ∷ profile (0 ∷ []) 1 true
    ∷ profile (0 ∷ 3 ∷ 8 ∷ 0 ∷ []) 4 true
    ∷ profile [] 0 false
    ∷ profile (0 ∷ 9 ∷ 0 ∷ []) 1 false
    ∷ profile (0 ∷ 1 ∷ 255 ∷ 9 ∷ 0 ∷ []) 2 false
    ∷ profile (128 ∷ 127 ∷ []) 0 false
    ∷ profile (1 ∷ 0 ∷ []) 2 false
    ∷ profile (0 ∷ 8 ∷ []) 2 false
    ∷ census abab 2 (a ∷ b ∷ b ∷ a ∷ []) (2 ∷ 1 ∷ []) 3
    ∷ census abab 1 (a ∷ b ∷ []) (2 ∷ 2 ∷ []) 4
    ∷ census abab 4 abab (1 ∷ []) 1
    ∷ census abab 5 [] [] 0
    ∷ census [] 1 [] [] 0
    ∷ census (a ∷ a ∷ a ∷ a ∷ []) 2 (a ∷ a ∷ []) (3 ∷ []) 3
    ∷ census (1 ∷ 255 ∷ 128 ∷ 127 ∷ 255 ∷ []) 1 (128 ∷ 255 ∷ 1 ∷ 127 ∷ []) (1 ∷ 2 ∷ 1 ∷ 1 ∷ []) 5
    ∷ census (1 ∷ 255 ∷ 1 ∷ 127 ∷ 0 ∷ 128 ∷ 0 ∷ []) 2 (128 ∷ 0 ∷ 255 ∷ 1 ∷ 0 ∷ 128 ∷ 1 ∷ 255 ∷ 1 ∷ 127 ∷ 127 ∷ 0 ∷ []) (1 ∷ 1 ∷ 1 ∷ 1 ∷ 1 ∷ 1 ∷ []) 6
    ∷ lengths abab (2 ∷ 1 ∷ 2 ∷ 1 ∷ [])
    ∷ lengths (a ∷ a ∷ b ∷ []) (3 ∷ 2 ∷ 1 ∷ [])
    ∷ lengths (a ∷ a ∷ a ∷ a ∷ []) (1 ∷ 1 ∷ 1 ∷ 1 ∷ [])
    ∷ lengths (b ∷ a ∷ a ∷ b ∷ []) (1 ∷ 3 ∷ 2 ∷ 1 ∷ [])
    ∷ lengths (97 ∷ 200 ∷ 100 ∷ []) (1 ∷ 2 ∷ 1 ∷ [])
    ∷ lengths (1 ∷ 255 ∷ []) (1 ∷ 1 ∷ [])
    ∷ lengths rising (2 ∷ 1 ∷ [])
    ∷ lengths (127 ∷ 128 ∷ []) (1 ∷ 1 ∷ [])
    ∷ lengths (128 ∷ 127 ∷ []) (2 ∷ 1 ∷ [])
    ∷ lengths (128 ∷ 255 ∷ 0 ∷ 127 ∷ []) (4 ∷ 3 ∷ 2 ∷ 1 ∷ [])
    ∷ lengths [] []
    ∷ table abab 40 of_abab
    ∷ table rising 40 of_rising
    ∷ rules (1 ∷ 255 ∷ []) 5
    ∷ rules (127 ∷ 128 ∷ 127 ∷ 128 ∷ []) 7
    ∷ rules (128 ∷ 127 ∷ 128 ∷ 127 ∷ []) 6
    ∷ joins (1 ∷ 255 ∷ 1 ∷ []) 5 (1 ∷ 255 ∷ []) (1 ∷ [])
    ∷ ends (build_service sample_order abab 40 room (replicate 12 7)) 0 0 12 0
    ∷ ends (build_service sample_order abab 40 room (replicate 11 7)) 9 12 0 0
    ∷ ends (check_service sample_order of_abab room) 0 0 6 0
    ∷ ends (check_service sample_order [] (drop 2 room)) 4 0 0 0
    ∷ ends (check_service sample_order [] (drop 1 room)) 5 0 0 0
    ∷ ends (check_service sample_order (0 ∷ []) room) 5 0 0 0
    ∷ ends (check_service sample_order (drop 1 of_abab) room) 5 0 0 0
    ∷ ends (check_service sample_order (drop 3 of_abab) room) 5 0 0 0
    ∷ ends (check_service sample_order (drop 2 of_abab) room) 6 5 0 0
    ∷ ends (check_service sample_order (0x101 ∷ 0xC0000000 ∷ []) room) 6 0 0 0
    ∷ ends (check_service sample_order (0x100 ∷ 0xC0000000 ∷ []) room) 7 0 0 0
    ∷ ends (check_service sample_order (0x000 ∷ 0xC0010000 ∷ []) room) 6 1 0 0
    ∷ ends (check_service sample_order (0x000 ∷ 0xC000FFFF ∷ []) room) 0 0 1 0
    ∷ ends (check_service sample_order (0x000 ∷ 0xC0000000 ∷ 0x40000001 ∷ 0x80000000 ∷ []) room) 6 2 0 0
    ∷ ends (check_service sample_order (0x000 ∷ 0xC0000000 ∷ 0x40000000 ∷ 0x80000001 ∷ []) room) 6 3 0 0
    ∷ ends (check_service sample_order (0x000 ∷ 0xC0000000 ∷ 0x00000062 ∷ 0xC0000001 ∷ []) room) 6 3 0 0
    ∷ ends (check_service sample_order (0x000 ∷ 0x80000000 ∷ []) room) 6 1 0 0
    ∷ ends (check_service sample_order (0x000 ∷ 0xC0000000 ∷ 0x80000000 ∷ 0x80000000 ∷ []) room) 6 2 0 0
    ∷ ends (check_service sample_order (0x000 ∷ 0xC0000000 ∷ 0x40000000 ∷ 0x40000000 ∷ []) room) 6 3 0 0
    ∷ ends (check_service sample_order (0x000 ∷ 0xC0000000 ∷ 0x40000000 ∷ 0xC0000000 ∷ []) room) 6 3 0 0
    ∷ ends (check_service sample_order other_order room) 7 0 0 0
    ∷ ends (check_service sample_order two_rules room) 7 0 0 0
    ∷ rules ahead 6
    ∷ ends (build_profile_service sample_order ahead 40 room (replicate 12 7)) 0 0 12 0
    ∷ ends (build_profile_service sample_order ahead 40 room (replicate 11 7)) 9 12 0 0
    ∷ ends (build_profile_service sample_order ahead 40 (drop 2 room) []) 4 0 0 0
    ∷ ends (build_profile_service sample_order (1 ∷ 0 ∷ []) 40 [] []) 12 0 0 0
    ∷ ends (build_profile_service sample_order (0 ∷ 1 ∷ []) 40 [] []) 12 0 0 0
    ∷ ends (build_profile_service sample_order [] 40 [] []) 12 0 0 0
    ∷ ends (build_profile_service sample_order (1 ∷ 128 ∷ 9 ∷ []) 40 [] []) 11 1 0 0
    ∷ ends (check_profile_service sample_order (table_of sample_order ahead 40) room) 0 0 6 0
    ∷ ends (check_profile_service sample_order (table_of sample_order (0 ∷ 1 ∷ []) 40) room) 12 0 0 0
    ∷ ends (check_profile_service sample_order (table_of sample_order [] 40) room) 12 0 0 0
    ∷ ends (check_profile_service sample_order (table_of sample_order (0 ∷ 255 ∷ 9 ∷ 1 ∷ []) 40) room) 11 1 0 0
    ∷ ends (check_profile_service sample_order of_abab room) 11 0 0 0
    ∷ ends (check_profile_service sample_order two_rules room) 7 0 0 0
    ∷ ends (check_profile_service sample_order (drop 2 of_abab) room) 6 5 0 0
    ∷ ends (check_profile_service sample_order [] room) 5 0 0 0
    ∷ ends (check_profile_service sample_order [] (drop 2 room)) 4 0 0 0
    ∷ ends (read_service sample_order of_abab room (replicate 4 7)) 0 0 4 40
    ∷ ends (read_service sample_order of_abab room (replicate 3 7)) 9 4 0 0
    ∷ ends (read_service sample_order two_rules room (replicate 4 7)) 7 0 0 0
    ∷ ends (check_service sample_order (0x20000062 ∷ 0xC0000000 ∷ []) room) 6 0 0 0
    ∷ ends (check_service sample_order (of_abab ++ 0x00000000 ∷ 0xC0000000 ∷ []) room) 7 0 0 0
    ∷ ends (extract_service sample_order two_rules 0 1 room (replicate 1 7)) 7 0 0 0
    ∷ ends (extract_service sample_order of_abab 2 5 room (replicate 1 7)) 8 0 0 0
    ∷ ends (extract_service sample_order of_abab 4 0 room []) 0 0 0 0
    ∷ ends (extract_service sample_order of_abab 4 1 room []) 8 0 0 0
    ∷ ends (extract_service sample_order of_abab 18446744073709551615 2 room (replicate 2 7)) 8 0 0 0
    ∷ ends (count_service sample_order of_abab Samples (b ∷ a ∷ []) room) 0 0 1 3
    ∷ ends (count_service sample_order of_abab Samples (a ∷ []) room) 0 0 2 0
    ∷ ends (count_service sample_order [] Samples [] []) 2 0 0 0
    ∷ ends (count_service sample_order two_rules Samples (a ∷ []) room) 7 0 0 0
    ∷ ends (locate_service sample_order of_abab Samples (b ∷ a ∷ b ∷ []) room (replicate 1 7)) 0 0 1 2
    ∷ ends (locate_service sample_order [] Samples [] [] []) 2 0 0 0
    ∷ ends (locate_service sample_order two_rules Samples (a ∷ []) room (replicate 2 7)) 7 0 0 0
    ∷ ends (count_service sample_order of_steps Steps (0 ∷ 2 ∷ []) room) 0 0 3 0
    ∷ ends (count_service sample_order of_steps Samples (0 ∷ 2 ∷ []) room) 0 0 0 5
    ∷ ends (count_service sample_order of_steps Steps (254 ∷ 0 ∷ 2 ∷ []) room) 0 0 1 5
    ∷ ends (count_service sample_order [] Steps [] []) 2 0 0 0
    ∷ ends (count_service sample_order [] Steps (a ∷ []) []) 10 0 0 0
    ∷ ends (count_service sample_order [] Steps (a ∷ a ∷ []) []) 4 0 0 0
    ∷ ends (count_service sample_order [] Samples (a ∷ []) []) 4 0 0 0
    ∷ ends (locate_service sample_order [] Steps (a ∷ []) [] []) 10 0 0 0
    ∷ ends (locate_service sample_order of_steps Steps (254 ∷ 0 ∷ 2 ∷ []) room (replicate 1 7)) 0 0 1 5
    ∷ ends (locate_service sample_order of_steps Steps (0 ∷ 2 ∷ []) room (replicate 2 7)) 9 3 0 0
    ∷ ends (to_steps_service moved (replicate 5 7)) 0 0 5 0
    ∷ ends (to_steps_service moved (replicate 4 7)) 9 5 0 0
    ∷ ends (from_steps_service moved (replicate 5 7)) 0 0 5 0
    ∷ ends (from_steps_service moved (replicate 4 7)) 9 5 0 0
    ∷ ends (cuts_service sample_order [] []) 2 0 0 0
    ∷ ends (locate_service sample_order (table_of sample_order (a ∷ a ∷ a ∷ a ∷ []) 0) Samples (a ∷ a ∷ []) room (replicate 2 7)) 9 3 0 0
    ∷ ends (cuts_service sample_order (a ∷ a ∷ b ∷ a ∷ []) (replicate 1 7)) 9 2 0 0
    ∷ ends (cuts_service sample_order (a ∷ a ∷ b ∷ a ∷ []) (replicate 2 7)) 0 0 2 0
    ∷ ends (cuts_service sample_order (a ∷ a ∷ a ∷ a ∷ []) (replicate 1 7)) 9 2 0 0
    ∷ ends (census_service sample_order of_abab 2 room (replicate 4 7) (replicate 2 7)) 0 0 2 0
    ∷ ends (census_service sample_order of_abab 2 room (replicate 3 7) (replicate 2 7)) 9 2 0 0
    ∷ ends (census_service sample_order of_abab 2 room (replicate 4 7) (replicate 1 7)) 9 2 0 0
    ∷ ends (census_service sample_order of_abab 5 room [] []) 0 0 0 0
    ∷ ends (census_service sample_order of_abab 8 room [] []) 0 0 0 0
    ∷ ends (census_service sample_order of_abab 9 room [] []) 13 0 0 0
    ∷ ends (census_service sample_order of_abab 0 room [] []) 13 0 0 0
    ∷ ends (census_service sample_order [] 18446744073709551615 [] [] []) 13 0 0 0
    ∷ ends (census_service sample_order [] 1 (drop 2 room) [] []) 4 0 0 0
    ∷ ends (census_service sample_order [] 1 room [] []) 5 0 0 0
    ∷ ends (census_service sample_order (drop 2 of_abab) 1 room [] []) 6 5 0 0
    ∷ ends (census_service sample_order two_rules 1 room [] []) 7 0 0 0
    ∷ ends (lyndon_length_service sample_order of_abab 2 room) 0 0 2 0
    ∷ ends (lyndon_length_service sample_order of_abab 3 room) 0 0 1 0
    ∷ ends (lyndon_length_service sample_order of_abab 4 room) 8 0 0 0
    ∷ ends (lyndon_length_service sample_order of_abab 18446744073709551615 room) 8 0 0 0
    ∷ ends (lyndon_length_service sample_order (table_of sample_order [] 40) 0 room) 8 0 0 0
    ∷ ends (lyndon_length_service sample_order two_rules 4 room) 7 0 0 0
    ∷ ends (lyndon_length_service sample_order [] 0 (drop 2 room)) 4 0 0 0
    ∷ ends (lyndon_array_service sample_order (table_of sample_order [] 40) room []) 0 0 0 0
    ∷ ends (lyndon_array_service sample_order of_abab room (replicate 3 7)) 9 4 0 0
    ∷ ends (lyndon_array_service sample_order two_rules room []) 7 0 0 0
    ∷ ends (check_service sample_order of_rising_before room) 7 0 0 0
    ∷ ends (check_service former_order of_rising_before room) 0 0 5 0
    ∷ ends (read_service sample_order of_rising room (replicate 2 7)) 0 0 2 40
    ∷ ends (lyndon_length_service sample_order of_rising 0 room) 0 0 2 0
    ∷ ends (convert_order_service former_order sample_order of_rising_before room (replicate 10 7)) 0 0 10 0
    ∷ ends (convert_order_service former_order sample_order of_rising_before room (replicate 9 7)) 9 10 0 0
    ∷ ends (convert_order_service former_order sample_order of_rising room []) 7 0 0 0
    ∷ ends (convert_order_service former_order sample_order (drop 2 of_rising) room []) 6 5 0 0
    ∷ ends (convert_order_service former_order sample_order (drop 1 of_rising) room []) 5 0 0 0
    ∷ ends (convert_order_service former_order sample_order [] (drop 2 room) []) 4 0 0 0
    ∷ leaves (convert_order_service former_order sample_order of_rising_before room (replicate 11 7)) (of_rising ++ (7 ∷ []))
    ∷ leaves (convert_order_service former_order sample_order of_abab room (replicate 12 7)) of_abab
    ∷ leaves (convert_order_service former_order sample_order of_rising room (replicate 10 7)) (replicate 10 7)
    ∷ leaves (lyndon_array_service sample_order of_abab room (replicate 5 7)) (2 ∷ 1 ∷ 2 ∷ 1 ∷ 7 ∷ [])
    ∷ leaves (lyndon_array_service sample_order of_rising room (replicate 3 7)) (2 ∷ 1 ∷ 7 ∷ [])
    ∷ leaves (build_service sample_order rising 40 room (replicate 11 7)) (of_rising ++ 7 ∷ [])
    ∷ leaves (read_service sample_order of_rising room (replicate 3 7)) (rising ++ 7 ∷ [])
    ∷ leaves (extract_service sample_order of_abab 1 2 room (replicate 3 7)) (b ∷ a ∷ 7 ∷ [])
    ∷ leaves (locate_service sample_order of_abab Samples (a ∷ b ∷ []) room (replicate 1 7)) (7 ∷ [])
    ∷ leaves (locate_service sample_order of_abab Samples (a ∷ b ∷ []) room (replicate 3 7)) (0 ∷ 2 ∷ 7 ∷ [])
    ∷ leaves (locate_service sample_order of_steps Steps (0 ∷ 2 ∷ []) room (replicate 4 7)) (0 ∷ 1 ∷ 3 ∷ 7 ∷ [])
    ∷ leaves (build_profile_service sample_order ahead 40 room (replicate 13 7)) (table_of sample_order ahead 40 ++ (7 ∷ []))
    ∷ leaves (to_steps_service moved (replicate 6 7)) (5 ∷ 2 ∷ 2 ∷ 250 ∷ 2 ∷ 7 ∷ [])
    ∷ leaves (from_steps_service (5 ∷ 2 ∷ 2 ∷ 250 ∷ 2 ∷ []) (replicate 6 7)) (moved ++ 7 ∷ [])
    ∷ leaves (cuts_service sample_order (a ∷ a ∷ b ∷ a ∷ []) (replicate 3 7)) (1 ∷ 3 ∷ 7 ∷ [])
    ∷ leaves (cuts_service sample_order (0 ∷ 255 ∷ 1 ∷ []) (replicate 2 7)) (1 ∷ 7 ∷ [])
    ∷ leaves (cuts_service sample_order (a ∷ a ∷ a ∷ a ∷ []) (replicate 3 7)) (1 ∷ 3 ∷ 7 ∷ [])
    ∷ first (census_service sample_order of_abab 2 room (replicate 5 7) (replicate 3 7)) (a ∷ b ∷ b ∷ a ∷ 7 ∷ [])
    ∷ leaves (census_service sample_order of_abab 2 room (replicate 5 7) (replicate 3 7)) (2 ∷ 1 ∷ 7 ∷ [])
    ∷ first (census_service sample_order (table_of sample_order (1 ∷ 255 ∷ 1 ∷ []) 40) 1 room (replicate 2 7) (replicate 2 7)) (255 ∷ 1 ∷ [])
    ∷ leaves (census_service sample_order (table_of sample_order (1 ∷ 255 ∷ 1 ∷ []) 40) 1 room (replicate 2 7) (replicate 2 7)) (1 ∷ 2 ∷ [])
    ∷ first (census_service sample_order of_abab 2 room (replicate 4 7) (replicate 1 7)) (replicate 4 7)
    ∷ leaves (census_service sample_order of_abab 2 room (replicate 3 7) (replicate 2 7)) (replicate 2 7)
    ∷ clears (census_service sample_order of_abab 9 room [] []) false
    ∷ clears (census_service sample_order of_abab 2 room [] []) true
    ∷ clears (census_service sample_order of_abab 2 (7 ∷ []) (8 ∷ []) (8 ∷ [])) false
    ∷ clears (check_service sample_order (drop 2 of_abab) room) false
    ∷ clears (check_service sample_order [] room) false
    ∷ leaves (check_service sample_order of_abab (7 ∷ [])) (7 ∷ [])
    ∷ clears (build_profile_service sample_order (9 ∷ []) 40 room []) false
    ∷ clears (build_profile_service sample_order [] 40 room []) false
    ∷ clears (build_profile_service sample_order ahead 40 room []) true
    ∷ clears (check_profile_service sample_order of_abab room) true
    ∷ clears (check_profile_service sample_order (table_of sample_order [] 40) room) true
    ∷ clears (check_profile_service sample_order (drop 2 of_abab) room) false
    ∷ clears (count_service sample_order of_abab Samples [] room) false
    ∷ clears (count_service sample_order of_abab Steps (a ∷ []) room) false
    ∷ clears (count_service sample_order of_abab Steps (a ∷ a ∷ []) room) true
    ∷ clears (extract_service sample_order of_abab 4 1 room []) true
    ∷ works (check_service sample_order of_abab room) (0 ∷ 0 ∷ 7 ∷ [])
    ∷ works (check_service sample_order two_rules room) (0 ∷ 0 ∷ 7 ∷ [])
    ∷ clears (build_service sample_order abab 40 (7 ∷ []) (8 ∷ [])) false
    ∷ clears (build_profile_service sample_order ahead 40 (7 ∷ []) (8 ∷ [])) false
    ∷ clears (read_service sample_order of_abab (7 ∷ []) (8 ∷ [])) false
    ∷ clears (extract_service sample_order of_abab 0 1 (7 ∷ []) (8 ∷ [])) false
    ∷ clears (locate_service sample_order of_abab Samples (a ∷ []) (7 ∷ []) (8 ∷ [])) false
    ∷ clears (lyndon_array_service sample_order of_abab (7 ∷ []) (8 ∷ [])) false
    ∷ clears (convert_order_service former_order sample_order of_rising_before (7 ∷ []) (8 ∷ [])) false
    ∷ clears (lyndon_length_service sample_order of_abab 4 room) true
    ∷ clears (lyndon_array_service sample_order of_abab room (replicate 3 7)) true
    ∷ clears (build_service sample_order abab 40 room (replicate 11 7)) true
    ∷ clears (convert_order_service former_order sample_order of_rising room []) true
    ∷ clears (convert_order_service former_order sample_order of_rising_before room (replicate 9 7)) true
    ∷ clears (convert_order_service former_order sample_order (drop 2 of_rising) room []) false
    ∷ answers (Ok 5) 0 0 5
    ∷ answers (Err TextTooLong) 1 0 0
    ∷ answers (Err PatternEmpty) 2 0 0
    ∷ answers (Err PatternTooLong) 3 0 0
    ∷ answers (Err WorkTooShort) 4 0 0
    ∷ answers (Err TableLength) 5 0 0
    ∷ answers (Err (BadWord 5)) 6 5 0
    ∷ answers (Err NotATable) 7 0 0
    ∷ answers (Err RangePastEnd) 8 0 0
    ∷ answers (Err (ResultTooShort 5)) 9 5 0
    ∷ answers (Err NoStep) 10 0 0
    ∷ answers (Err (OffHeading 5)) 11 5 0
    ∷ answers (Err NotAtRest) 12 0 0
    ∷ answers (Err OddWindow) 13 0 0
    ∷ reads (Ok (record { samples = 5; chair = 40 })) 0 0 5 40
    ∷ reads (Err (BadWord 5)) 6 5 0 0
    ∷ searches (done 5 8) (Ok 5) 8
    ∷ searches (refused 6 5) (Err (BadWord 5)) 0
    ∷ replies (done 5 40) 0 40 0 5
    ∷ replies (refused 6 5) 6 0 5 0
    ∷ found (done 5 8) 0 0 0 5 8
    ∷ found (refused 6 5) 6 0 5 0 0
    ∷ spells 0 (48 ∷ [])
    ∷ spells 9 (57 ∷ [])
    ∷ spells 10 (49 ∷ 48 ∷ [])
    ∷ spells 99 (57 ∷ 57 ∷ [])
    ∷ spells 100 (49 ∷ 48 ∷ 48 ∷ [])
    ∷ spells 999 (57 ∷ 57 ∷ 57 ∷ [])
    ∷ spells 1000 (49 ∷ 48 ∷ 48 ∷ 48 ∷ [])
    ∷ spells 2304 (50 ∷ 51 ∷ 48 ∷ 52 ∷ [])
    ∷ spells 9999 (57 ∷ 57 ∷ 57 ∷ 57 ∷ [])
    ∷ spells 10000 (49 ∷ 48 ∷ 48 ∷ 48 ∷ 48 ∷ [])
    ∷ spells 65535 (54 ∷ 53 ∷ 53 ∷ 51 ∷ 53 ∷ [])
    ∷ spells 1000000000 (49 ∷ 48 ∷ 48 ∷ 48 ∷ 48 ∷ 48 ∷ 48 ∷ 48 ∷ 48 ∷ 48 ∷ [])
    ∷ spells 2147483647 (50 ∷ 49 ∷ 52 ∷ 55 ∷ 52 ∷ 56 ∷ 51 ∷ 54 ∷ 52 ∷ 55 ∷ [])
    ∷ prints (a ∷ b ∷ 10 ∷ abab) (found_in 6 2 (48 ∷ 10 ∷ 50 ∷ 10 ∷ []))
    ∷ prints [] (refused_with 2)
    ∷ prints (10 ∷ replicate 2048 a) (refused_with 1)
    ∷ prints (replicate 2048 a) (refused_with 3)
    ∷ prints (a ∷ []) (found_in 1 0 [])
    ∷ prints (a ∷ 10 ∷ 10 ∷ []) (found_in 3 0 [])
    ∷ prints (9 ∷ 10 ∷ 9 ∷ []) (found_in 3 1 (48 ∷ 10 ∷ []))
    ∷ prints (replicate 4096 a) (refused_with 1)
    ∷ prints (replicate 4095 a) (refused_with 3)
    ∷ reports (0 ∷ 1 ∷ 2 ∷ 3 ∷ 4 ∷ 5 ∷ 6 ∷ 7 ∷ 8 ∷ 0 ∷ []) (114 ∷ 101 ∷ 115 ∷ 116 ∷ 10 ∷ 102 ∷ 111 ∷ 114 ∷ 119 ∷ 97 ∷ 114 ∷ 100 ∷ 10 ∷ 102 ∷ 111 ∷ 114 ∷ 119 ∷ 97 ∷ 114 ∷ 100 ∷ 45 ∷ 114 ∷ 105 ∷ 103 ∷ 104 ∷ 116 ∷ 10 ∷ 114 ∷ 105 ∷ 103 ∷ 104 ∷ 116 ∷ 10 ∷ 98 ∷ 97 ∷ 99 ∷ 107 ∷ 45 ∷ 114 ∷ 105 ∷ 103 ∷ 104 ∷ 116 ∷ 10 ∷ 98 ∷ 97 ∷ 99 ∷ 107 ∷ 10 ∷ 98 ∷ 97 ∷ 99 ∷ 107 ∷ 45 ∷ 108 ∷ 101 ∷ 102 ∷ 116 ∷ 10 ∷ 108 ∷ 101 ∷ 102 ∷ 116 ∷ 10 ∷ 102 ∷ 111 ∷ 114 ∷ 119 ∷ 97 ∷ 114 ∷ 100 ∷ 45 ∷ 108 ∷ 101 ∷ 102 ∷ 116 ∷ 10 ∷ 114 ∷ 101 ∷ 115 ∷ 116 ∷ 10 ∷ [])
    ∷ reports [] (refused_with_ten 2)
    ∷ reports (0 ∷ 1 ∷ []) (refused_with_ten 2)
    ∷ reports (1 ∷ 9 ∷ []) (refused_with_ten 1)
    ∷ reports (replicate 2048 9) (refused_with 1)
    ∷ lists (2 ∷ 255 ∷ 10 ∷ 255 ∷ 10 ∷ []) (50 ∷ 53 ∷ 53 ∷ 32 ∷ 49 ∷ 48 ∷ 32 ∷ 50 ∷ 10 ∷ 49 ∷ 48 ∷ 32 ∷ 50 ∷ 53 ∷ 53 ∷ 32 ∷ 49 ∷ 10 ∷ 51 ∷ 10 ∷ [])
    ∷ lists (1 ∷ 1 ∷ []) (49 ∷ 32 ∷ 49 ∷ 10 ∷ 49 ∷ 10 ∷ [])
    ∷ lists (2 ∷ a ∷ []) (48 ∷ 10 ∷ [])
    ∷ lists (8 ∷ []) (48 ∷ 10 ∷ [])
    ∷ lists [] (refused_with_ten 3)
    ∷ lists (9 ∷ a ∷ []) (refused_with_ten 3)
    ∷ lists (9 ∷ replicate 2048 a) (refused_with 1)
    ∷ lists (9 ∷ replicate 2047 a) (refused_with_ten 3)
    ∷ ends (build_profile_service sample_order (replicate 2048 9) 40 [] []) 1 0 0 0
    ∷ ends (build_profile_service sample_order (replicate 2047 9) 40 [] []) 11 0 0 0
    ∷ ends (build_service sample_order (replicate 2048 a) 40 (drop 2 room) []) 1 0 0 0
    ∷ ends (build_service sample_order (replicate 2047 a) 40 (drop 2 room) []) 4 0 0 0
    ∷ ends (count_service sample_order [] Samples (replicate 2048 a) []) 3 0 0 0
    ∷ ends (count_service sample_order [] Samples (replicate 2047 a) []) 4 0 0 0
    ∷ ends (locate_service sample_order [] Samples (replicate 2048 a) [] []) 3 0 0 0
    ∷ ends (count_service sample_order [] Steps (replicate 2048 a) []) 3 0 0 0
    ∷ ends (to_steps_service (replicate 2048 a) []) 1 0 0 0
    ∷ ends (to_steps_service (replicate 2047 a) []) 9 2047 0 0
    ∷ ends (from_steps_service (replicate 2048 a) []) 1 0 0 0
    ∷ ends (cuts_service sample_order (replicate 2048 a) []) 3 0 0 0
    ∷ clears (build_service sample_order (replicate 2048 a) 40 room []) false
    ∷ clears (count_service sample_order [] Samples (replicate 2048 a) room) false
    ∷ ends (check_service sample_order (replicate 4610 0) room) 5 0 0 0
    ∷ ends (check_service sample_order (replicate 4608 0) room) 6 1 0 0
    ∷ []
