-- Saves and crashes among the pieces of one group.
use Rattle.std.specs.Prelude.{ℕ, List, [], ◌∷◌, codes}
use Rattle.mls_model.specs.declared.lanes.LaneKind.TheVariants.{Client, Control}
use Rattle.mls_model.specs.Numbers.{joined}
use Rattle.mls_model.specs.Frames.{Frame, save, crash}
use Rattle.mls_model.specs.Lanes.{Lane}
use Rattle.mls_model.specs.Histories.{LaneEvent}
use Rattle.mls_examples.specs.Small.{sent, client_lane, control_lane}
use Rattle.mls_examples.specs.Assembly.{part_sent}

-- a group's piece sent twice, with these frames on a control lane
abbrev pub group_0 : Frame
group_0 = sent 0 1 (1 ∷ 3 ∷ 3 ∷ [])

abbrev pub twice_with : List Frame → List Lane
twice_with frames = client_lane (group_0 ∷ group_0 ∷ []) ∷ control_lane frames ∷ []

abbrev pub the_piece : LaneEvent
the_piece = record { kind = Client; frame = group_0 }

abbrev pub the_save : LaneEvent
the_save = record { kind = Control; frame = save }

abbrev pub the_crash : LaneEvent
the_crash = record { kind = Control; frame = crash }

-- the schedules, named by what they make of the two pieces, the saves and the crashes
abbrev pub sent_saved_lost_sent : List (List ℕ)
sent_saved_lost_sent = (0 ∷ 1 ∷ 1 ∷ 0 ∷ []) ∷ []

abbrev pub sent_lost : List (List ℕ)
sent_lost = (0 ∷ 1 ∷ []) ∷ []

abbrev pub sent_lost_sent : List (List ℕ)
sent_lost_sent = (0 ∷ 1 ∷ 0 ∷ []) ∷ []

abbrev pub saved_sent_lost_lost_sent : List (List ℕ)
saved_sent_lost_lost_sent = (1 ∷ 0 ∷ 1 ∷ 1 ∷ 0 ∷ []) ∷ []

abbrev pub study_words : List ℕ
study_words = codes "melissa-result 1\nstudy cells 1 steps 1 groups 2 parameters 1 ranks 1 clients 1\n"

-- the lines of the group's samples 1, 3
abbrev pub group_0_lines : List ℕ
group_0_lines = joined (codes "step 0 cell 0 groups 1\n" ∷ codes "power 4 10 28 82\n" ∷ codes "variance 4/2\n" ∷ codes "third 0/8\n" ∷ codes "sobol x - - 0 0 0 0 0\n" ∷ codes "end\n" ∷ [])

-- the lines of no group
abbrev pub no_group_lines : List ℕ
no_group_lines = joined (codes "step 0 cell 0 groups 0\n" ∷ codes "power -\n" ∷ codes "variance -\n" ∷ codes "third -\n" ∷ codes "sobol x - - 0 0 0 0 0\n" ∷ codes "end\n" ∷ [])

abbrev pub replayed_text : List ℕ
replayed_text = joined (study_words ∷ codes "rank 0 accepted 1 kept 0 replay 1 stale 0 repeated 0 foreign 0 0 0 0 0 0\n" ∷ codes "lane 0 rank 0 client events 2 clean\n" ∷ codes "lane 1 rank 0 control events 2 clean\n" ∷ group_0_lines ∷ [])

abbrev pub lost_text : List ℕ
lost_text = joined (study_words ∷ codes "rank 0 accepted 0 kept 0 replay 0 stale 0 repeated 0 foreign 0 0 0 0 0 0\n" ∷ codes "lane 0 rank 0 client events 2 clean\n" ∷ codes "lane 1 rank 0 control events 1 clean\n" ∷ no_group_lines ∷ [])

abbrev pub sent_anew_text : List ℕ
sent_anew_text = joined (study_words ∷ codes "rank 0 accepted 1 kept 0 replay 0 stale 0 repeated 0 foreign 0 0 0 0 0 0\n" ∷ codes "lane 0 rank 0 client events 2 clean\n" ∷ codes "lane 1 rank 0 control events 1 clean\n" ∷ group_0_lines ∷ [])

abbrev pub crashed_twice_text : List ℕ
crashed_twice_text = joined (study_words ∷ codes "rank 0 accepted 1 kept 0 replay 0 stale 0 repeated 0 foreign 0 0 0 0 0 0\n" ∷ codes "lane 0 rank 0 client events 2 clean\n" ∷ codes "lane 1 rank 0 control events 3 clean\n" ∷ group_0_lines ∷ [])

-- a piece of group 0 from one of two clients, with a life
abbrev pub from_client : ℕ → ℕ → LaneEvent
from_client client life = record { kind = Client; frame = part_sent client life (1 ∷ 2 ∷ 3 ∷ []) }

-- client 0's piece is saved, a greater life is lost, and client 1's piece completes what was saved
abbrev pub later_life_lost : List LaneEvent
later_life_lost = from_client 0 1 ∷ the_save ∷ from_client 1 2 ∷ the_crash ∷ from_client 1 1 ∷ []

-- client 0's piece is lost before the save
abbrev pub lost_before_the_save : List LaneEvent
lost_before_the_save = from_client 0 1 ∷ the_crash ∷ the_save ∷ the_crash ∷ []

-- the key is completed and lost twice
abbrev pub completed_and_lost : List LaneEvent
completed_and_lost = from_client 0 1 ∷ the_save ∷ from_client 1 1 ∷ the_crash ∷ from_client 1 1 ∷ the_crash ∷ []

-- a greater life is saved too, so that the lesser one is stale after the crash
abbrev pub later_life_saved : List LaneEvent
later_life_saved = from_client 0 1 ∷ the_save ∷ from_client 1 2 ∷ the_save ∷ the_crash ∷ from_client 1 1 ∷ from_client 0 2 ∷ []
