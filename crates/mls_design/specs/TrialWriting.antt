-- How the lanes of trial are written, one frame after another.
use Rattle.std.specs.Prelude.{◌≡◌, ℕ, ◌+◌, List, ◌++◌, map}
use Rattle.std.specs.List.{flat_map}
use Rattle.rand_pcg.specs.Lcg.{Lcg}
use Rattle.mls_model.specs.Frames.{Frame}
use Rattle.mls_model.specs.Lanes.{Lane, lane_spelling}
use Rattle.mls_design.specs.Trial.{piece_count, sent, frame_bytes, spelled}
use Rattle.mls_design.specs.TrialSizes.{HasDrawn}

-- Behind the old bytes stands what is written of planned frames, the first piece of which takes word number n; the words of all of them were drawn.
pub record Sends (number n : ℕ) (frames : List Frame) (old new : List ℕ) (g : Lcg) : Type 0 where
  pub bytes : new ≡ old ++ frame_bytes (sent number n frames)
  pub words : HasDrawn number (n + piece_count frames) g

-- the bytes of lanes, one after another
unfoldable pub lanes_bytes : List Lane → List ℕ
lanes_bytes lanes = flat_map lane_spelling (map spelled lanes)
