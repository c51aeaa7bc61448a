-- How many bytes and events the tape of trial has, and when it is too large.
use Rattle.std.specs.Prelude.{◌≡◌, ℕ, zero, suc, ◌+◌, ◌*◌, ◌/◌, Bool, ◌||◌, cond, List, length, map, sum_by, nat_lt}
use Rattle.mls_model.specs.Numbers.{below}
use Rattle.mls_model.specs.Studies.{Study, planes}
use Rattle.mls_model.specs.Blocks.{overlap, width}
use Rattle.mls_model.specs.Lanes.{Lane, tape_bytes, most_events}
use Rattle.mls_model.specs.Designs.{word, generator, drawn}
use Rattle.rand_pcg.specs.Lcg.{Lcg}
use Rattle.mls_tape.specs.Tapes.{longest_tape}
use Rattle.mls_design.specs.declared.trial.route.Route.{Route}
use Rattle.mls_design.specs.declared.trial.size.Size.{Size}
use Rattle.mls_design.specs.declared.trial.plan.Plan.{Plan}
use Rattle.mls_design.specs.Trial.{is_restarted, copies, version_of, spelled, trial_lanes, lane_events, frame_bytes}

-- n words of the number were drawn
abbrev pub HasDrawn : ℕ → ℕ → Lcg → Type 0
HasDrawn number n g = g ≡ drawn (generator number) n

-- how often so many pieces are written in all, the first of which takes word number n
unfoldable pub copies_from : ℕ → ℕ → ℕ → ℕ
copies_from number n zero = 0
copies_from number n (suc k) = copies_from number n k + copies (word number (n + k))

-- the beats and pieces that a group plans to send on a route, by whether it is restarted
abbrev pub beats_by : Bool → ℕ
beats_by again = cond again 2 1

abbrev pub pieces_by : Study → Bool → ℕ
pieces_by study again = cond again ((study.sizes.steps / 2) * study.sizes.fields + planes study.sizes) (planes study.sizes)

-- the plan has the beats and pieces of all groups
pub record IsPlan (study : Study) (number : ℕ) (plan : Plan) : Type 0 where
  pub beats : plan.beats ≡ sum_by (λ group. beats_by (is_restarted number group)) (below study.sizes.groups)
  pub pieces : plan.pieces ≡ sum_by (λ group. pieces_by study (is_restarted number group)) (below study.sizes.groups)

-- the bytes of a piece on a route, with the length before its body
abbrev pub piece_bytes : Study → Route → ℕ
piece_bytes study route = 29 + 2 * ((2 + study.sizes.parameters) * width (overlap study.sizes route.rank route.client))

-- the size of a lane's frames, and that of a tape with these lanes
abbrev pub lane_size : Lane → Size
lane_size lane = record { bytes = length (frame_bytes lane.frames); events = length lane.frames }

abbrev pub size_of : Bool → List Lane → Size
size_of signed lanes = record { bytes = length (tape_bytes signed (version_of signed) (map spelled lanes)); events = lane_events lanes }

-- the size with one lane more, whose kind, rank and length are seven bytes
abbrev pub grown : Size → Size → Size
grown total lane = record { bytes = total.bytes + (7 + lane.bytes); events = total.events + lane.events }

-- a tape of this size would pass the limit of bytes or of events
unfoldable pub is_over : Size → Bool
is_over size = nat_lt longest_tape size.bytes || nat_lt most_events size.events

-- The made tape would pass a limit.
unfoldable pub is_too_large : Study → ℕ → Bool
is_too_large study number = is_over (size_of study.sizes.signed (trial_lanes study number))
