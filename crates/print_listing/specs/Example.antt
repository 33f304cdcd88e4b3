-- Document 01, "The lister", its worked example, with the line of document 02, order 2: what is printed of two circles, computed by the checker from the
-- chart's bytes. Assumes nothing.
use Rattle.std.specs.Prelude.{ℕ, zero, suc, ◌/◌, ◌%◌, ◌≡◌, refl, List, [], ◌∷◌, ◌++◌}
use Rattle.print_text.specs.Text.{ascii}
use Rattle.std.specs.Float.Ieee.{add, climb, div, eq, le, lt, mul, ne, neg, odd, of_bits, of_fields, of_int, rem, round, size, span, sub, sum, to_bits, to_signed}
use Rattle.num_floats.specs.Compare.{abs_of, clamp_of, max_of, min_of}
use Rattle.num_floats.specs.Fields.{f32_at, f64_at, u32_at, u64_at}
use Rattle.num_roots.specs.Root.{root_drop, root_kept, root_of}
use Rattle.num_whole.specs.Whole.{ceil_of, trunc_of}
use Rattle.num_elementary.specs.Log.{log_bits, log_of}
use Rattle.num_elementary.specs.Power.{exp_of, log10_of, power_of, power_other}
use Rattle.num_elementary.specs.Two.{two_of, two_root, two_round}
use Rattle.osu_pos.specs.Pos.{length_of}
use Rattle.chart_fields.specs.Objects.{bad_fields, falls, fields_at, fields_of, fields_ok, stated_length}
use Rattle.chart_fields.specs.Search.{first_below, first_from}
use Rattle.chart_entries.specs.Entries.{bad_entries, length_ok, nested_at}
use Rattle.osu_object.specs.Base.{base_of, repeats_of}
use Rattle.osu_object.specs.Osu.{count_below, end_pos, kind_of, last_below, list_from, object_of, osu_object, repeat_count, runs_of}
use Rattle.chart_opening.specs.Header.{counts_ok, flags_ok, frame_ok, header_ok, layout_of, offsets_ok, settings_at, settings_ok, size_for, too_long}
use Rattle.osu_difficulty_object.specs.Reading.{doubletapness, fade_in, fade_out}
use Rattle.osu_difficulty_object.specs.Record.{angle_to, end_cursor, jump_dist, jump_from, jump_of, last_cursor, min_jump_dist, min_jump_time, new_record, placed_of, plain_of, record_of as objectRecordOf}
use Rattle.num_util.specs.Difficulty.{logistic, milliseconds_to_bpm, reverse_lerp, smootherstep}
use Rattle.num_util.specs.FloatExt.{eq as nearlyEqual}
use Rattle.eval_aim.specs.Aim.{aim_of, all_parts, angles_of}
use Rattle.eval_speed.specs.Speed.{dist_bonus, speed_bonus, speed_by, speed_of, strain_time}
use Rattle.eval_rhythm.specs.Rhythm.{cell_of, rhythm_by, run_of, start_from, start_of, value_of as rhythmValueOf}
use Rattle.eval_rhythm.specs.Step.{factor_of, faster_twice, fresh_state as rhythmFreshState, fresh_walk, last_ratio, progressed_of}
use Rattle.eval_flashlight.specs.Flashlight.{added_of, evaluator_of, flashlight_of, fresh_state as flashlightFreshState, hidden_of, opacity_bonus, repeated_of, shared_of, slider_bonus, small_dist_nerf, step_of, turns_of, value_of as flashlightValueOf}
use Rattle.eval_values.specs.Values.{values_of}
use Rattle.num_sort.specs.Sort.{insert, sort_desc}
use Rattle.skills.specs.Strains.{base, close_one, close_to, column, current, elapsed, initial_strain, joined, multiplier, peaks_to, reached, strain_at, strain_decay, strain_next, strains, total, total_to, walk}
use Rattle.skills.specs.Value.{clamped, difficulty_of, difficulty_value, lerp, positives, reduced, reduction, sum_from, weighted}
use Rattle.skills_counts.specs.Lists.{count_top_weighted_sliders, count_top_weighted_strains, get_difficult_sliders, max_from, relevant_note_count, share, slider_weight, top_strain, total_key, total_max, total_max_from, weight}
use Rattle.skills_counts.specs.Counts.{counts, counts_by, list_from as strains_from}
use Rattle.skills_counts.specs.Chart.{slider_at}
use Rattle.print_text.specs.Text.{decimal_text, decimal_up_to, digit, f64_text, hex_text}
use Rattle.print_lines.specs.Lines.{count_numbers, count_text, counts_text, number_text, numbers_text, place_text, refusal_text, skills_text, totals_text}
use Rattle.chart_opening.specs.Conditions.{first_of, if_accepted, body_conditions, chart_conditions}
use Rattle.osu_difficulty_object.specs.Record.{chart_record}
use Rattle.skills.specs.Chart.{start_at, delta_at}
use Rattle.calls.specs.Afresh.{counts_of, fresh_values, totals_of}
use Rattle.print_listing.specs.List.{afresh_text, beyond_text, chart_text, list_text, met_text, opened_text, places_text}

-- v in n bytes, lowest first
unfoldable pub little : ℕ → ℕ → List ℕ
little zero v = []
little (suc n) v = v % 256 ∷ little n (v / 256)

-- a u32 or the bits of an f32, and the bits of an f64
abbrev word : ℕ → List ℕ
word v = little 4 v

abbrev long : ℕ → List ℕ
long v = little 8 v

-- a circle at (100, 100), stack offset 0, at a time
abbrev circle : ℕ → List ℕ
circle time = long time ++ long time ++ word 0x42C80000 ++ word 0x42C80000 ++ little 32 0

-- counts, offsets, length and the zero; clock 1, radius 40, window 50, preempt 600, fade-in 400; factor 1.25, flags 0; circles at 1000 and 2000
abbrev pub two_circles : List ℕ
two_circles =
    word 2 ++ word 0 ++ word 0 ++ word 80 ++ word 192 ++ word 192 ++ word 192 ++ word 0
    ++ long 0x3FF0000000000000 ++ long 0x4044000000000000 ++ long 0x4049000000000000 ++ long 0x4082C00000000000 ++ long 0x4079000000000000
    ++ word 0x3FA00000 ++ word 0
    ++ circle 0x408F400000000000 ++ circle 0x409F400000000000

abbrev pub printed : List ℕ
printed =
    ascii "objects 2\n"
    ++ ascii "1 0000000000000000 0000000000000000 3FF0000000000000 3FF0000000000000 0000000000000000\n"
    ++ ascii "totals 0000000000000000 0000000000000000 3FF1A3D70A3D70A4 0000000000000000\n"
    ++ ascii "counts 3FF0000000000000 3FF0000000000000 3FF199999999999A 0000000000000000 0000000000000000 0000000000000000 3FEFEBBE888D058D\n"

-- the definitions named here are those that the computation runs through
pub two_circles_lem : list_text two_circles ≡ printed
unfolding little add climb div eq le lt mul ne neg odd of_bits of_fields of_int rem round size span sub sum to_bits to_signed abs_of clamp_of max_of min_of f32_at f64_at u32_at u64_at root_drop root_kept root_of ceil_of trunc_of log_bits log_of exp_of log10_of power_of power_other two_of two_root two_round length_of bad_fields falls fields_at fields_of fields_ok stated_length first_below first_from bad_entries length_ok nested_at base_of repeats_of count_below end_pos kind_of last_below list_from object_of osu_object repeat_count runs_of counts_ok flags_ok frame_ok header_ok layout_of offsets_ok settings_at settings_ok size_for too_long doubletapness fade_in fade_out angle_to end_cursor jump_dist jump_from jump_of last_cursor min_jump_dist min_jump_time new_record placed_of plain_of objectRecordOf logistic milliseconds_to_bpm reverse_lerp smootherstep nearlyEqual aim_of all_parts angles_of dist_bonus speed_bonus speed_of strain_time speed_by cell_of rhythm_by run_of start_from start_of rhythmValueOf factor_of faster_twice rhythmFreshState fresh_walk last_ratio progressed_of added_of evaluator_of flashlight_of flashlightFreshState hidden_of opacity_bonus repeated_of shared_of slider_bonus small_dist_nerf step_of turns_of flashlightValueOf values_of insert sort_desc base close_one close_to column current elapsed initial_strain joined multiplier peaks_to reached strain_at strain_decay strain_next strains total total_to walk clamped difficulty_of difficulty_value lerp positives reduced reduction sum_from weighted count_top_weighted_sliders count_top_weighted_strains get_difficult_sliders max_from relevant_note_count share slider_weight top_strain total_key total_max total_max_from weight counts counts_by strains_from slider_at decimal_text decimal_up_to digit f64_text hex_text count_numbers count_text counts_text number_text numbers_text place_text refusal_text skills_text totals_text delta_at start_at chart_record counts_of totals_of if_accepted fresh_values body_conditions chart_conditions first_of afresh_text beyond_text chart_text list_text met_text opened_text places_text
two_circles_lem = refl
