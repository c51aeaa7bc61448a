use Rattle.std.proofs.Common.{◌≡◌, Bool, true, false, refl}
use Rattle.std.specs.Prelude.{◌&&◌}
use Rattle.mls_model.specs.Schedules.{is_complete}
use Rattle.mls_trial.proofs.laws.complete_schedules_are_legal.Goals as goal

first_of_both : (a b : Bool) → (a && b) ≡ true → a ≡ true
first_of_both true b e = refl
first_of_both false b e = e

pub returns : goal.returns
unfolding is_complete
returns c = λ ranks lanes orders complete. first_of_both _ _ complete
