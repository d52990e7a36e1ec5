-- Every sample of specs/Samples holds, by computation.
use Rattle.std.specs.Prelude.{◌≡◌, refl, true}
use Rattle.definitions.specs.Words.{every, below, least, placed, same, begins, lexlt, first_difference, lyndon, cut_of, greatest, lyndon_length, lyndon_array}
use Rattle.definitions.specs.Grammar.{left_of, right_of, word, split, lyndon_tree, index_of, meet, visit, order, rule_of, rules_of}
use Rattle.definitions.specs.Table.{rank_of, byte_of, number_of_rank, rank_of_number, marked, word_of, kind_of, number_of, rule_words, words, table_of, bad_first, bad_second, bad_word, string_of, strings, rule_string, is_pair, left_half, right_half, spelled, text_of, chair_of, is_drive, is_chair, is_table}
use Rattle.definitions.specs.Occurrences.{occurrences, not_greater_at_difference, is_live, live_cuts, word_again, is_listed, listed_cuts, pattern_cuts, straddles, straddling, cut_in, cut_at, fits_join, is_tested, tests_of, tests_below, tests}
use Rattle.definitions.specs.Steps.{step, steps_of, to_steps, samples_from, from_steps, step_finds, searched, finds}
use Rattle.definitions.specs.Profile.{on_heading, first_off, at_rest, is_profile}
use Rattle.definitions.specs.Census.{runs_of, comes_before, entered, distinct, census_runs, count_in, census_counts, joined, total}
use Rattle.definitions.specs.Services.{read_outcome, alone, tests_made, refusal_number, refusal_place, first_met, outcome, outcome_of, cleared, slices_after, table_checks, pattern_checks, search_checks, profile_checks, drive_checks, build_service, check_service, build_profile_service, check_profile_service, read_service, extract_service, count_service, locate_service, cuts_service, lyndon_length_service, lyndon_array_service, convert_order_service, to_steps_service, from_steps_service, census_service}
use Rattle.definitions.specs.Replies.{reply_of, search_reply_of, content_of}
use Rattle.definitions.specs.Programs.{digits, digits_up_to, digit_count, decimal, line, named, lines_of, refused_line, printed, motif_of, drive_of, found_lines, motif_output, heading_name, desk_output, window_of, census_drive, spaced, census_lines, census_output}
use Rattle.definitions.specs.Samples.{last, edges, parts, flat, holds, all, samples}

-- every sample holds
pub samples_hold : all samples ≡ true
unfolding edges holds all samples parts read_outcome alone tests_made refusal_number refusal_place reply_of search_reply_of every below least placed same begins lexlt first_difference lyndon cut_of greatest lyndon_length lyndon_array left_of right_of word split lyndon_tree index_of meet visit order rule_of rules_of rank_of byte_of number_of_rank rank_of_number marked word_of kind_of number_of rule_words words table_of bad_first bad_second bad_word string_of strings rule_string is_pair left_half right_half spelled text_of chair_of is_drive is_chair is_table occurrences not_greater_at_difference is_live live_cuts word_again is_listed listed_cuts pattern_cuts straddles straddling cut_in cut_at fits_join is_tested tests_of tests_below tests step steps_of to_steps samples_from from_steps step_finds searched finds on_heading first_off at_rest is_profile runs_of comes_before entered distinct census_runs count_in census_counts joined total flat first_met outcome outcome_of cleared slices_after last table_checks pattern_checks search_checks profile_checks drive_checks build_service check_service build_profile_service check_profile_service read_service extract_service count_service locate_service cuts_service lyndon_length_service lyndon_array_service convert_order_service to_steps_service from_steps_service census_service content_of digits digits_up_to digit_count decimal line named lines_of refused_line printed motif_of drive_of found_lines motif_output heading_name desk_output window_of census_drive spaced census_lines census_output
samples_hold = refl
