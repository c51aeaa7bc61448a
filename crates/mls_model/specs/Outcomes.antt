-- What becomes of each surviving event, and how many have each outcome.
use Rattle.std.specs.Prelude.{ℕ, ◌+◌, Bool, true, false, cond, List, [], ◌∷◌, Some, None, count_by}
use Rattle.std.specs.List.{list_any}
use Rattle.mls_model.specs.declared.lanes.LaneKind.{LaneKind}
use Rattle.mls_model.specs.declared.lanes.LaneKind.TheVariants.{Client, Control}
use Rattle.mls_model.specs.declared.outcomes.Reason.{Reason}
use Rattle.mls_model.specs.declared.outcomes.Reason.TheVariants as reason
use Rattle.mls_model.specs.declared.outcomes.Outcome.{Outcome}
use Rattle.mls_model.specs.declared.outcomes.Outcome.TheVariants.{Accepted, Kept, Replay, Stale, Repeated, Foreign, Quiet, Save, Crash}
use Rattle.mls_model.specs.declared.outcomes.Counts.{Counts}
use Rattle.mls_model.specs.Places.{gathered}
use Rattle.mls_model.specs.Studies.{Sizes}
use Rattle.mls_model.specs.Frames.{Frame, Piece, piece, save, crash}
use Rattle.mls_model.specs.Histories.{LaneEvent}
use Rattle.mls_model.specs.Fitting.{frame_reason, fitting}
use Rattle.mls_model.specs.Completion.{key_of, is_later_life, is_share, is_completed, completes}

-- the outcome of a fitting piece after others: the first that holds
unfoldable pub piece_outcome : Sizes → ℕ → List Piece → Piece → Outcome
piece_outcome s rank before p =
    cond (is_completed s rank (key_of p) before) Replay
    (cond (list_any (is_later_life (key_of p) p.life) before) Stale
    (cond (list_any (is_share (key_of p) p.life p.client) before) Repeated
    (cond (completes s rank before p) Accepted
    Kept)))

-- the outcome of an event for which no foreign reason holds
abbrev pub native_outcome : Sizes → ℕ → List Piece → LaneKind → Frame → Outcome
native_outcome s rank before Client (piece p) = piece_outcome s rank before p
native_outcome s rank before Control save = Save
native_outcome s rank before Control crash = Crash
native_outcome s rank before _ _ = Quiet

-- the outcome of an event after surviving ones
unfoldable pub outcome : Sizes → ℕ → List LaneEvent → LaneEvent → Outcome
outcome s rank before e = elim (frame_reason s rank e.kind e.frame) [
  | Some r ↦ Foreign r
  | None ↦ native_outcome s rank (fitting s rank before) e.kind e.frame
]

-- the outcomes of surviving events, in order
unfoldable pub outcomes : Sizes → ℕ → List LaneEvent → List Outcome
outcomes s rank events = gathered (λ before e. outcome s rank before e ∷ []) [] events

abbrev pub is_accepted : Outcome → Bool
is_accepted Accepted = true
is_accepted _ = false

abbrev pub is_kept : Outcome → Bool
is_kept Kept = true
is_kept _ = false

abbrev pub is_replay : Outcome → Bool
is_replay Replay = true
is_replay _ = false

abbrev pub is_stale : Outcome → Bool
is_stale Stale = true
is_stale _ = false

abbrev pub is_repeated : Outcome → Bool
is_repeated Repeated = true
is_repeated _ = false

abbrev pub is_same_reason : Reason → Reason → Bool
is_same_reason reason.LaneKind reason.LaneKind = true
is_same_reason reason.Rows reason.Rows = true
is_same_reason reason.Group reason.Group = true
is_same_reason reason.Step reason.Step = true
is_same_reason reason.Client reason.Client = true
is_same_reason reason.Cells reason.Cells = true
is_same_reason _ _ = false

-- whether an event is foreign for a reason
abbrev pub is_foreign_by : Reason → Outcome → Bool
is_foreign_by r (Foreign q) = is_same_reason r q
is_foreign_by r _ = false

-- how many of these outcomes are of each sort
unfoldable pub tally : List Outcome → Counts
tally all = record {
  accepted = count_by is_accepted all;
  kept = count_by is_kept all;
  replay = count_by is_replay all;
  stale = count_by is_stale all;
  repeated = count_by is_repeated all;
  f1 = count_by (is_foreign_by reason.LaneKind) all;
  f2 = count_by (is_foreign_by reason.Rows) all;
  f3 = count_by (is_foreign_by reason.Group) all;
  f4 = count_by (is_foreign_by reason.Step) all;
  f5 = count_by (is_foreign_by reason.Client) all;
  f6 = count_by (is_foreign_by reason.Cells) all;
}

-- the numbers of surviving events with each outcome
unfoldable pub counts : Sizes → ℕ → List LaneEvent → Counts
counts s rank events = tally (outcomes s rank events)

-- one more where a test holds
abbrev pub raised : Bool → ℕ → ℕ
raised true n = n + 1
raised false n = n

-- the counts with one more outcome
abbrev pub counted : Counts → Outcome → Counts
counted c o = record {
  accepted = raised (is_accepted o) c.accepted;
  kept = raised (is_kept o) c.kept;
  replay = raised (is_replay o) c.replay;
  stale = raised (is_stale o) c.stale;
  repeated = raised (is_repeated o) c.repeated;
  f1 = raised (is_foreign_by reason.LaneKind o) c.f1;
  f2 = raised (is_foreign_by reason.Rows o) c.f2;
  f3 = raised (is_foreign_by reason.Group o) c.f3;
  f4 = raised (is_foreign_by reason.Step o) c.f4;
  f5 = raised (is_foreign_by reason.Client o) c.f5;
  f6 = raised (is_foreign_by reason.Cells o) c.f6;
}

-- the number of events that the counts count
abbrev pub total_count : Counts → ℕ
total_count c = c.accepted + c.kept + c.replay + c.stale + c.repeated + c.f1 + c.f2 + c.f3 + c.f4 + c.f5 + c.f6
