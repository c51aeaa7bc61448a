-- The definitions by which the examples are computed.
use Rattle.std.specs.Fmt.{digits}
use Rattle.mls_model.specs.Pasts.{time_of, has_done, life_of, is_finished, last_of, rank_last}
use Rattle.mls_model.specs.Launcher.{with_actions, rank_restarts, group_answers, running, starts, answers, tick_actions, actions_at, past_with, past_after, timed_after}
use Rattle.mls_model.specs.WatchText.{group_count, watch_title, life_line, number_line, action_line, action_lines, pair_words, line_end, end_words, end_line, watch_text}

unfoldable pub of_watches : Unit {0}
unfolding digits time_of has_done life_of is_finished last_of rank_last with_actions rank_restarts group_answers running starts answers tick_actions actions_at past_with past_after timed_after group_count watch_title life_line number_line action_line action_lines pair_words line_end end_words end_line watch_text
of_watches = tt
