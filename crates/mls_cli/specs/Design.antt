-- What is right of a design.
use Rattle.std.specs.Prelude.{ℕ, List, Result, Ok}
use Rattle.mls_base.specs.Told.{Names}
use Rattle.mls_model.specs.Designs.{design_text}
use Rattle.mls_result.specs.declared.status.Status.{Status}
use Rattle.mls_cli.specs.Inputs.{◌>>=◌, right_study}

-- the text of a design
unfoldable pub right_design : (study : List ℕ) → Names → Result (List ℕ) Status
right_design study_name held = right_study study_name held >>= (λ study. Ok (design_text study))
