-- The definitions by which the examples of trial are computed.
use Rattle.mls_model.specs.Designs.{solved_row, solved_piece}
use Rattle.mls_design.specs.Trial.{rank_routes, routes, is_restarted, life_pieces, life_frames, group_frames, planned, sent, words_before, first_lane, first_lanes, control_lanes, resent_frames, resent_lanes, earlier_lanes, trial_lanes, trial_bytes, lane_events}
use Rattle.mls_design.specs.TrialSchedule.{stocks, left, mixed, picks, whole_lanes, mixing_from, trial_order, trial_orders}
use Rattle.mls_design.specs.TrialSizes.{is_over, is_too_large}
use Rattle.mls_design.specs.TrialText.{trial_title, lanes_line, accepted_counts, groups_text, groups_line, over_cells, sum_line, histories_summary, trial_summary}
use Rattle.mls_examples.proofs.Computing.{of_bytes, of_events, of_texts, of_designs}

-- the lanes and the bytes of a tape
unfoldable pub of_trial_tapes : Unit {0}
unfolding of_designs of_bytes of_events solved_row solved_piece rank_routes routes is_restarted life_pieces life_frames group_frames planned sent words_before first_lane first_lanes control_lanes resent_frames resent_lanes earlier_lanes trial_lanes trial_bytes lane_events is_too_large is_over
of_trial_tapes = tt

-- the schedule
unfoldable pub of_trial_orders : Unit {0}
unfolding of_trial_tapes of_texts stocks left mixed picks whole_lanes mixing_from trial_order trial_orders
of_trial_orders = tt

-- the summary
unfoldable pub of_trial_texts : Unit {0}
unfolding of_texts lane_events trial_title lanes_line accepted_counts groups_text groups_line over_cells sum_line histories_summary trial_summary
of_trial_texts = tt
