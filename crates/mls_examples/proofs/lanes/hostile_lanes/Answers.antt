use Rattle.mls_examples.proofs.Computing.{of_bytes, of_texts}
use Rattle.mls_examples.proofs.Texts.{by_tests}
use Rattle.mls_examples.specs.Lanes.{empty_piece}
use Rattle.mls_examples.specs.Small.{client_lane, small_study}
use Rattle.mls_model.specs.Frames.{piece}
use Rattle.mls_model.specs.Schedules.{plain}
use Rattle.std.proofs.Common.{refl}
use Rattle.std.specs.Prelude.{[], ◌∷◌}
use Rattle.mls_examples.proofs.lanes.hostile_lanes.Goals as goal

pub returns-clause-prefixes : goal.returns-clause-prefixes
unfolding of_bytes
returns-clause-prefixes c = refl

pub returns-clause-no_length : goal.returns-clause-no_length
unfolding of_bytes
returns-clause-no_length c = refl

pub returns-clause-too_long : goal.returns-clause-too_long
unfolding of_bytes
returns-clause-too_long c = refl

pub returns-clause-unknown : goal.returns-clause-unknown
unfolding of_bytes
returns-clause-unknown c = refl

pub returns-clause-even : goal.returns-clause-even
unfolding of_bytes
returns-clause-even c = refl

pub returns-clause-huge : goal.returns-clause-huge
unfolding of_bytes
returns-clause-huge c = refl

pub returns-clause-empty : goal.returns-clause-empty
unfolding of_bytes
returns-clause-empty c = refl

pub returns-clause-empty_text : goal.returns-clause-empty_text
unfolding of_texts
returns-clause-empty_text c = by_tests small_study (client_lane (piece empty_piece ∷ []) ∷ []) (plain 1 (client_lane (piece empty_piece ∷ []) ∷ []))

pub returns-clause-bad_size : goal.returns-clause-bad_size
unfolding of_bytes
returns-clause-bad_size c = refl

pub returns-clause-cut_after_one : goal.returns-clause-cut_after_one
unfolding of_bytes
returns-clause-cut_after_one c = refl

pub returns-clause-bad_after_one : goal.returns-clause-bad_after_one
unfolding of_bytes
returns-clause-bad_after_one c = refl
