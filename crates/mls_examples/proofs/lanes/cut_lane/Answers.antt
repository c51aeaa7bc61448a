use Rattle.mls_examples.proofs.Computing.{of_bytes, of_texts}
use Rattle.mls_examples.proofs.Texts.{by_tests}
use Rattle.mls_examples.specs.Lanes.{ended}
use Rattle.mls_examples.specs.Small.{small_study}
use Rattle.mls_model.specs.Schedules.{plain}
use Rattle.mls_model.specs.declared.lanes.LaneEnd.TheVariants.{BadKind, Cut}
use Rattle.std.proofs.Common.{refl}
use Rattle.std.specs.Prelude.{[], ◌∷◌}
use Rattle.mls_examples.proofs.lanes.cut_lane.Goals as goal

pub returns-clause-cut : goal.returns-clause-cut
unfolding of_bytes
returns-clause-cut c = refl

pub returns-clause-bad_kind : goal.returns-clause-bad_kind
unfolding of_bytes
returns-clause-bad_kind c = refl

pub returns-clause-cut_text : goal.returns-clause-cut_text
unfolding of_texts
returns-clause-cut_text c = by_tests small_study (ended (Cut 70) ∷ []) (plain 1 (ended (Cut 70) ∷ []))

pub returns-clause-bad_kind_text : goal.returns-clause-bad_kind_text
unfolding of_texts
returns-clause-bad_kind_text c = by_tests small_study (ended (BadKind 70) ∷ []) (plain 1 (ended (BadKind 70) ∷ []))
