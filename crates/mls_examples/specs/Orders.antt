-- Tapes of which the order matters, and one of which it doesn't.
use Rattle.std.specs.Prelude.{ℕ, Bool, ◌&&◌, List, [], ◌∷◌}
use Rattle.std.specs.List.{list_all}
use Rattle.mls_model.specs.Studies.{Sizes}
use Rattle.mls_model.specs.Frames.{crash}
use Rattle.mls_model.specs.Lanes.{Lane}
use Rattle.mls_model.specs.Schedules.{is_complete}
use Rattle.mls_orders.specs.Tapes.{tape_pieces}
use Rattle.mls_orders.specs.OrderFree.{is_crash_free, all_carry_the_same, all_settled}
use Rattle.mls_examples.specs.Small.{sent, client_lane, control_lane}
use Rattle.mls_examples.specs.Assembly.{part_sent}

-- the three tests of the premise at rank 0: no crash, the same samples, each key settled
abbrev pub premise_tests : Sizes → List Lane → List Bool
premise_tests s lanes = list_all is_crash_free lanes ∷ all_carry_the_same (tape_pieces s lanes 0) ∷ all_settled s 0 (tape_pieces s lanes 0) ∷ []

-- a group's piece, and a crash on a control lane
abbrev pub piece_and_crash : List Lane
piece_and_crash = client_lane (sent 0 1 (1 ∷ 3 ∷ 3 ∷ []) ∷ []) ∷ control_lane (crash ∷ []) ∷ []

-- two pieces of one group with different samples
abbrev pub two_samples : List Lane
two_samples = client_lane (sent 0 1 (1 ∷ 3 ∷ 3 ∷ []) ∷ []) ∷ client_lane (sent 0 1 (5 ∷ 1 ∷ 1 ∷ []) ∷ []) ∷ []

-- life 1 from both clients, and life 2 from client 0 alone
abbrev pub half_a_life : List Lane
half_a_life = client_lane (part_sent 0 1 (1 ∷ 3 ∷ 3 ∷ []) ∷ []) ∷ client_lane (part_sent 1 1 (5 ∷ 1 ∷ 1 ∷ []) ∷ []) ∷ client_lane (part_sent 0 2 (1 ∷ 3 ∷ 3 ∷ []) ∷ []) ∷ []

-- schedules of two and of three lanes, by the lane that comes first
abbrev pub first_of_two : List (List ℕ)
first_of_two = (0 ∷ 1 ∷ []) ∷ []

abbrev pub second_of_two : List (List ℕ)
second_of_two = (1 ∷ 0 ∷ []) ∷ []

abbrev pub first_of_three : List (List ℕ)
first_of_three = (0 ∷ 1 ∷ 2 ∷ []) ∷ []

abbrev pub last_of_three : List (List ℕ)
last_of_three = (2 ∷ 0 ∷ 1 ∷ []) ∷ []

-- whether two schedules of one rank are complete
abbrev pub both_complete : List Lane → List (List ℕ) → List (List ℕ) → Bool
both_complete lanes a b = is_complete 1 lanes a && is_complete 1 lanes b
