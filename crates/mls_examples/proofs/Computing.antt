-- The definitions by which the examples are computed.
use Rattle.std.specs.Fmt.{digits}
use Rattle.mls_model.specs.Places.{gathered, any_place, all_places}
use Rattle.mls_model.specs.Frames.{piece_head, body, spelling, samples_in, fixed_frame, piece_in, fixed_sight, piece_sight, sized_sight, sight}
use Rattle.mls_model.specs.Lanes.{end_at, frames_in, lane_of, lane_at, lanes_at, samples_byte, lane_bytes_of, with_events, tape_of, lane_spelling, tape_bytes}
use Rattle.mls_model.specs.Schedules.{plain_order, plain, is_legal_order, is_legal, is_complete, schedule_text}
use Rattle.mls_model.specs.Histories.{history}
use Rattle.mls_model.specs.Survival.{survives, surviving, last_save, crash_after_save}
use Rattle.mls_model.specs.Fitting.{fitting}
use Rattle.mls_model.specs.Completion.{makes_whole, is_completed, completes}
use Rattle.mls_model.specs.Outcomes.{piece_outcome, outcome, outcomes, tally, counts}
use Rattle.mls_model.specs.AcceptedRows.{completions, accepted, sample_rows}
use Rattle.mls_model.specs.Statistics.{variance_top, third_top, covariance_top}
use Rattle.mls_model.specs.Designs.{drawn, word, word_of, values, design_line, group_lines, design_text, inputs, solve}
use Rattle.mls_model.specs.ResultText.{study_line, rank_line, rank_lines, lane_line, lane_lines, step_line, power_line, variance_line, third_line, extrema_line, exceed_words, exceed_line, millionths_words, power_lines, extrema_lines, exceed_lines, lines_of}
use Rattle.mls_orders.specs.Tapes.{rank_events}
use Rattle.mls_orders.specs.OrderFree.{some_life_has_all, is_order_free}
use Rattle.mls_text.specs.Decimals.{number_below}
use Rattle.mls_text.specs.Fronts.{number_in, number_before}
use Rattle.mls_tape.specs.ScheduleLines.{orders_of}
use Rattle.mls_tape.specs.ScheduleReading.{line_in, line_refusal, lines_from, schedule_of}
use Rattle.mls_model.specs.SumsText.{sums_powers, sums_extrema}

-- what the bytes of a frame, a lane and a tape are
unfoldable pub of_bytes : Unit {0}
unfolding piece_head body spelling samples_in fixed_frame piece_in fixed_sight piece_sight sized_sight sight end_at frames_in lane_of lane_at lanes_at samples_byte lane_bytes_of with_events tape_of lane_spelling tape_bytes
of_bytes = tt

-- what happens at a rank
unfoldable pub of_events : Unit {0}
unfolding gathered any_place all_places plain_order plain is_legal_order is_legal is_complete history survives surviving fitting makes_whole is_completed completes piece_outcome outcome outcomes tally counts completions accepted sample_rows last_save crash_after_save
of_events = tt

-- when the order of a tape doesn't matter
unfoldable pub of_premise : Unit {0}
unfolding of_events rank_events some_life_has_all is_order_free
of_premise = tt

-- what is printed
unfoldable pub of_texts : Unit {0}
unfolding of_events digits schedule_text variance_top third_top covariance_top study_line rank_line rank_lines lane_line lane_lines step_line power_line variance_line third_line extrema_line exceed_words exceed_line millionths_words power_lines extrema_lines exceed_lines lines_of sums_powers sums_extrema
of_texts = tt

-- what a design has
unfoldable pub of_designs : Unit {0}
unfolding digits drawn word word_of values design_line group_lines design_text inputs solve
of_designs = tt

-- how a schedule's text is read
unfoldable pub of_schedules : Unit {0}
unfolding digits number_below number_in number_before orders_of line_in line_refusal lines_from schedule_of
of_schedules = tt
