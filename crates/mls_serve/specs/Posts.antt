-- What a post is given, and what is posted of a lane.
use Rattle.std.specs.Prelude.{◌≡◌, ℕ, List, [], ◌∷◌, ◌++◌, Option, Some, None, Result, MatchResult}
use Rattle.std.specs.List.{flat_map}
use Rattle.mls_base.specs.Told.{Rose}
use Rattle.mls_model.specs.declared.lanes.LaneKind.{LaneKind}
use Rattle.mls_model.specs.declared.lanes.LaneKind.TheVariants as kinds
use Rattle.mls_model.specs.Frames.{Frame, piece, beat, bye, save, crash, hello, welcome, refuse}
use Rattle.mls_book.specs.declared.faults.BookFault.{BookFault}
use Rattle.mls_book.specs.declared.faults.BookFault.TheVariants.{KeeperFault, CheckpointBad, Memory}
use Rattle.mls_serve.specs.declared.post.Note.{Note}
use Rattle.mls_serve.specs.declared.post.Note.TheVariants as notes
use Rattle.mls_serve.specs.declared.served.LaneFault.{LaneFault}

-- an offer, or a note for the watch
pub data Posted : Type 0 where
  offered : (rank lane : ℕ) → (kind : LaneKind) → (frame : Frame) → Posted
  noted : (note : Note) → Posted

-- what is told after more posts
abbrev pub posted : Option (List Posted) → List Posted → Option (List Posted)
posted None posts = None
posted (Some before) posts = Some (before ++ posts)

-- A front of the posts was posted.
pub record PostedFront (old new : Option (List Posted)) (posts : List Posted) : Type 0 where
  pub front : List Posted
  pub rest : List Posted
  pub are_posts : front ++ rest ≡ posts
  pub is_posted : new ≡ posted old front

-- a post's count of faults rose where its answer is a store fault, and else stands
abbrev pub PostCounts : BookFault → ℕ → ℕ → Type 0
PostCounts KeeperFault before now = Rose before now
PostCounts (CheckpointBad at why) before now = Rose before now
PostCounts Memory before now = now ≡ before

abbrev pub CountsPost : {A : Type 0} → Result A LaneFault → ℕ → ℕ → Type 0
CountsPost result before now = MatchResult result (λ _. now ≡ before) (λ (fault : LaneFault). PostCounts fault.fault before now)

-- what the watch is told of a frame
abbrev pub sign_of : Frame → List Posted
sign_of (beat group life) = noted (notes.Beat group life) ∷ []
sign_of (bye group life) = noted (notes.Done group life) ∷ []
sign_of (piece p) = []
sign_of save = []
sign_of crash = []
sign_of (hello version group life client rank) = []
sign_of (welcome lane) = []
sign_of (refuse reason value) = []

-- each frame of a client lane is offered to the lane's rank, and after a Beat or a Bye the watch is told
abbrev pub frame_posts : (rank lane : ℕ) → Frame → List Posted
frame_posts rank lane frame = offered rank lane kinds.Client frame ∷ sign_of frame

-- the frames of a lane, one after another
abbrev pub frames_posts : (rank lane : ℕ) → List Frame → List Posted
frames_posts rank lane frames = flat_map (frame_posts rank lane) frames

-- at a lane's end the rank saves its state, and the watch is told that the rank runs
abbrev pub end_posts : (rank : ℕ) → List Posted
end_posts rank = offered rank rank kinds.Control save ∷ noted (notes.RankBeat rank) ∷ []

-- All posts of a lane with these frames, which a group's Hello began.
abbrev pub lane_posts : (group life rank lane : ℕ) → List Frame → List Posted
lane_posts group life rank lane frames = noted (notes.Beat group life) ∷ (frames_posts rank lane frames ++ end_posts rank)
