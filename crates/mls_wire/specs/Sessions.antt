-- What is said on a connection: the group's Hello, the server's answer, and what the group then sends.
use Rattle.std.specs.Prelude.{ℕ, ◌<◌, Bool, not, cond, List, [], ◌∷◌, ◌++◌, Option, Some, None, IsTrue, nat_lt, ◌==◌}
use Rattle.std.specs.List.{find, flat_map}
use Rattle.mls_model.specs.Numbers.{below}
use Rattle.mls_model.specs.Studies.{Sizes, Study}
use Rattle.mls_model.specs.Blocks.{overlaps}
use Rattle.mls_model.specs.Frames.{Frame, piece, beat, bye, save, crash, hello, welcome, refuse, spelling, Sight, whole, more, bad, sight}
use Rattle.mls_model.specs.Designs.{solved_piece}
use Rattle.mls_wire.specs.declared.greeting.Greeting.{Greeting}
use Rattle.mls_wire.specs.declared.greeting.Greeting.TheVariants as greetings
use Rattle.mls_wire.specs.declared.reply.Reply.{Reply}
use Rattle.mls_wire.specs.declared.reply.Reply.TheVariants as replies
use Rattle.mls_wire.specs.declared.pairing.Pair.{Pair}

-- a line of the handshake's table: whether it holds, its reason and its value
pub record Line : Type 0 where
  pub holds : Bool
  pub reason : ℕ
  pub value : ℕ

abbrev pub line : Bool → ℕ → ℕ → Line
line holds reason value = record { holds = holds; reason = reason; value = value }

-- The lines for a Hello, in their order: the version isn't 1, there is no such group, no such client, no such rank, or
-- the client's part doesn't meet the rank's block.
abbrev pub hello_lines : Sizes → (version group client rank : ℕ) → List Line
hello_lines s version group client rank =
    line (not (version == 1)) 1 version
    ∷ line (not (nat_lt group s.groups)) 2 group
    ∷ line (not (nat_lt client s.clients)) 3 client
    ∷ line (not (nat_lt rank s.ranks)) 4 rank
    ∷ line (not (overlaps s rank client)) 5 client
    ∷ []

-- the first line that holds decides
abbrev pub decided : Option Line → Greeting → Greeting
decided (Some first) welcomed = greetings.Refuse first.reason first.value
decided None welcomed = welcomed

-- The answer to the first frame of a connection.
unfoldable pub greeting : Sizes → Frame → Greeting
greeting s (hello version group life client rank) = decided (find (λ (l : Line). l.holds) (hello_lines s version group client rank)) (greetings.Welcome group life client rank)
greeting s (piece p) = greetings.Refuse 6 0
greeting s (beat group life) = greetings.Refuse 6 0
greeting s (bye group life) = greetings.Refuse 6 0
greeting s save = greetings.Refuse 6 0
greeting s crash = greetings.Refuse 6 0
greeting s (welcome lane) = greetings.Refuse 6 0
greeting s (refuse reason value) = greetings.Refuse 6 0

-- what a frame says to the group that reads it as the answer
abbrev pub reply_of : Frame → Reply
reply_of (welcome lane) = replies.Welcome lane
reply_of (refuse reason value) = replies.Refused reason value
reply_of (piece p) = replies.Other
reply_of (beat group life) = replies.Other
reply_of (bye group life) = replies.Other
reply_of save = replies.Other
reply_of crash = replies.Other
reply_of (hello version group life client rank) = replies.Other

-- a rank with a client whose part meets the rank's block
pub record IsPair (s : Sizes) (p : Pair) : Type 0 where
  pub rank : p.rank < s.ranks
  pub client : p.client < s.clients
  pub overlap : IsTrue (overlaps s p.rank p.client)

-- a rank with a client, where they overlap
abbrev pub pair_of : Sizes → ℕ → ℕ → List Pair
pair_of s rank client = cond (overlaps s rank client) (record { rank = rank; client = client } ∷ []) []

unfoldable pub rank_pairs : Sizes → ℕ → List Pair
rank_pairs s rank = flat_map (pair_of s rank) (below s.clients)

-- all pairs that overlap, rank by rank and client by client
unfoldable pub pairs_of : Sizes → List Pair
pairs_of s = flat_map (rank_pairs s) (below s.ranks)

-- The bytes that a group sends on a pair. First Hello, in version 1.
unfoldable pub hello_bytes : (group life : ℕ) → Pair → List ℕ
hello_bytes group life pair = spelling (hello 1 group life pair.client pair.rank)

-- the piece of a step and field, with the solver's samples
unfoldable pub piece_bytes : Study → (group life : ℕ) → Pair → (step field : ℕ) → List ℕ
piece_bytes study group life pair step field = spelling (piece (solved_piece study group life step field pair.rank pair.client))

-- the pieces of all planes in rising order: for each step the fields
unfoldable pub step_bytes : Study → (group life : ℕ) → Pair → (step : ℕ) → List ℕ
step_bytes study group life pair step = flat_map (piece_bytes study group life pair step) (below study.sizes.fields)

unfoldable pub pieces_bytes : Study → (group life : ℕ) → Pair → List ℕ
pieces_bytes study group life pair = flat_map (step_bytes study group life pair) (below study.sizes.steps)

-- Bye on the last pair
unfoldable pub bye_bytes : (group life : ℕ) → Bool → List ℕ
bye_bytes group life last = cond last (spelling (bye group life)) []

-- after Welcome: Beat, the pieces, and Bye on the last pair
unfoldable pub welcomed_bytes : Study → (group life : ℕ) → Pair → Bool → List ℕ
welcomed_bytes study group life pair last = spelling (beat group life) ++ (pieces_bytes study group life pair ++ bye_bytes group life last)

unfoldable pub session : Study → (group life : ℕ) → Pair → Bool → List ℕ
session study group life pair last = hello_bytes group life pair ++ welcomed_bytes study group life pair last

-- What the bytes that were read say to the group, once it is known: bytes that are no frame's front are no welcome either.
abbrev pub reply_by : Sight → Option Reply
reply_by (whole frame used) = Some (reply_of frame)
reply_by more = None
reply_by (bad fault) = Some replies.Other

abbrev pub reply_in : List ℕ → Option Reply
reply_in bytes = reply_by (sight bytes)
