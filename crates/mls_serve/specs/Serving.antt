-- What the frames of a lane that is served lead to.
use Rattle.std.specs.Prelude.{◌≡◌, ℕ, List, ◌++◌, length, Option}
use Rattle.mls_model.specs.declared.lanes.LaneEnd.{LaneEnd}
use Rattle.mls_model.specs.Lanes.{lane_frames}
use Rattle.mls_wire.specs.Links.{Talk}
use Rattle.mls_serve.specs.Posts.{posted, PostedFront, frames_posts}
use Rattle.mls_serve.specs.Readings.{HasRead, EndsLane}
use Rattle.mls_serve.specs.Steps.{Moving}

-- More bytes were read after the first ones, up to the lane's end, and all frames of these bytes were posted in order.
pub record FramesServed (rank lane events : ℕ) (end : LaneEnd) (first : List ℕ) (old new : Moving) : Type 0 where
  pub bytes : List ℕ
  pub said : Option Talk
  pub read : HasRead bytes old.told said
  pub count : events ≡ length (lane_frames (first ++ bytes))
  pub ended : EndsLane end (first ++ bytes) said new.told old.faults new.faults
  pub posts : new.posts ≡ posted old.posts (frames_posts rank lane (lane_frames (first ++ bytes)))

-- The same up to a fault: a front of their posts was posted.
pub record FramesStopped (rank lane : ℕ) (first : List ℕ) (old new : Moving) : Type 0 where
  pub bytes : List ℕ
  pub read : HasRead bytes old.told new.told
  pub part : PostedFront old.posts new.posts (frames_posts rank lane (lane_frames (first ++ bytes)))
