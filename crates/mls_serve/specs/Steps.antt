-- What a step of a lane that is served does.
use Rattle.std.specs.Prelude.{◌≡◌, ℕ, List, Option, ◌⊎◌}
use Rattle.mls_model.specs.declared.lanes.LaneEnd.{LaneEnd}
use Rattle.mls_model.specs.Frames.{sight}
use Rattle.mls_frame.specs.Feeding.{Fed, after_next, IsNoFrame}
use Rattle.mls_wire.specs.Links.{Talk}
use Rattle.mls_serve.specs.Posts.{Posted}
use Rattle.mls_serve.specs.Readings.{ReadMore, ReadLost, EndsFed}
use Rattle.mls_serve.specs.Takings.{TookFrame, LostFrame}
use Rattle.mls_serve.specs.declared.stepping.Step.{Step}
use Rattle.mls_serve.specs.declared.stepping.Step.TheVariants as steps

-- What moves while a lane is served: what the link tells and its count of faults, what the post tells, and what the feeder
-- holds.
pub record Moving : Type 0 where
  pub told : Option Talk
  pub faults : ℕ
  pub posts : Option (List Posted)
  pub fed : Fed

-- a frame was taken off and posted
pub record StepTook (rank lane : ℕ) (old new : Moving) : Type 0 where
  pub took : TookFrame rank lane (sight old.fed.rest) old.posts new.posts
  pub fed : new.fed ≡ after_next old.fed
  pub link : new.told ≡ old.told
  pub faultless : new.faults ≡ old.faults

-- more bytes were read
pub record StepRead (head : ℕ) (old new : Moving) : Type 0 where
  pub read : ReadMore old.told new.told old.fed new.fed head
  pub posts : new.posts ≡ old.posts
  pub faultless : new.faults ≡ old.faults

-- the lane ended
pub record StepEnded (end : LaneEnd) (head : ℕ) (old new : Moving) : Type 0 where
  pub ended : EndsFed end head old.fed old.told new.told old.faults new.faults
  pub none : IsNoFrame (sight old.fed.rest)
  pub posts : new.posts ≡ old.posts

abbrev pub HasStepped : Step → (rank lane head : ℕ) → Moving → Moving → Type 0
HasStepped steps.Took rank lane head old new = StepTook rank lane old new
HasStepped steps.Read rank lane head old new = StepRead head old new
HasStepped (steps.Ended end) rank lane head old new = StepEnded end head old new

-- a frame wasn't posted whole
pub record FrameStopped (rank lane : ℕ) (old new : Moving) : Type 0 where
  pub lost : LostFrame rank lane (sight old.fed.rest) old.posts new.posts
  pub link : new.told ≡ old.told

-- bytes were read for which there was no memory
pub record ReadStopped (old new : Moving) : Type 0 where
  pub lost : ReadLost old.told new.told
  pub posts : new.posts ≡ old.posts

-- the step was stopped
abbrev pub StepStopped : (rank lane : ℕ) → Moving → Moving → Type 0
StepStopped rank lane old new = FrameStopped rank lane old new ⊎ ReadStopped old new
