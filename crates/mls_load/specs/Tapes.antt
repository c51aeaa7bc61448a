-- What is right of the tape of a name.
use Rattle.std.specs.Prelude.{ℕ, List, Result, Ok, Err}
use Rattle.mls_base.specs.Told.{Names}
use Rattle.mls_model.specs.Studies.{Study}
use Rattle.mls_model.specs.Lanes.{Lane, TapeRefusal, tape_of}
use Rattle.mls_tape.specs.Tapes.{longest_tape}
use Rattle.mls_result.specs.declared.status.Status.{Status}
use Rattle.mls_result.specs.declared.status.Status.TheVariants as status
use Rattle.mls_result.specs.declared.status.FileRole.TheVariants as role
use Rattle.mls_load.specs.Inputs.{◌>>=◌, limited}

abbrev pub tape_answer : Result (List Lane) TapeRefusal → Result (List Lane) Status
tape_answer (Ok lanes) = Ok lanes
tape_answer (Err refusal) = Err (status.Tape refusal.at refusal.why)

-- the lanes that bytes spell under a study
abbrev pub content_lanes : Study → List ℕ → Result (List Lane) Status
content_lanes study bytes = tape_answer (tape_of study.sizes.ranks study.sizes.signed bytes)

-- the lanes of a name
unfoldable pub right_lanes : Study → (tape : List ℕ) → Names → Result (List Lane) Status
right_lanes study tape_name held = limited role.Tape longest_tape (held tape_name) >>= content_lanes study
