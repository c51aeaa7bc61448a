-- What a look at a lane's bytes is, and what is posted of it.
use Rattle.std.specs.Prelude.{◌≡◌, ℕ, List, Option}
use Rattle.mls_model.specs.Frames.{Frame, Sight, whole, more, bad}
use Rattle.mls_serve.specs.Posts.{Posted, posted, PostedFront, frame_posts}
use Rattle.mls_serve.specs.declared.taking.Look.{Look}
use Rattle.mls_serve.specs.declared.taking.Look.TheVariants as looks

-- A whole frame was seen and posted.
pub record TookFrame (rank lane : ℕ) (seen : Sight) (old new : Option (List Posted)) : Type 0 where
  pub frame : Frame
  pub used : ℕ
  pub is_seen : seen ≡ whole frame used
  pub is_posted : new ≡ posted old (frame_posts rank lane frame)

-- A whole frame was seen, and a front of its posts was posted.
pub record LostFrame (rank lane : ℕ) (seen : Sight) (old new : Option (List Posted)) : Type 0 where
  pub frame : Frame
  pub used : ℕ
  pub is_seen : seen ≡ whole frame used
  pub part : PostedFront old new (frame_posts rank lane frame)

-- something else than a frame was seen, and nothing was posted
pub record SawNone (seen is : Sight) (old new : Option (List Posted)) : Type 0 where
  pub is_seen : seen ≡ is
  pub none : new ≡ old

abbrev pub HasLooked : Look → (rank lane : ℕ) → Sight → Option (List Posted) → Option (List Posted) → Type 0
HasLooked looks.Took rank lane seen old new = TookFrame rank lane seen old new
HasLooked looks.More rank lane seen old new = SawNone seen more old new
HasLooked (looks.Bad fault) rank lane seen old new = SawNone seen (bad fault) old new
