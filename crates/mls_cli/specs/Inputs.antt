-- What is right of the files that a command reads first.
use Rattle.std.specs.Prelude.{ℕ, cond, List, length, Option, Some, None, Result, Ok, Err, nat_lt}
use Rattle.mls_base.specs.Told.{Names}
use Rattle.mls_model.specs.Studies.{Study}
use Rattle.mls_study.specs.declared.fault.StudyFault.{StudyFault}
use Rattle.mls_study.specs.StudyFile.{study_of}
use Rattle.mls_result.specs.declared.status.Status.{Status}
use Rattle.mls_result.specs.declared.status.Status.TheVariants as status
use Rattle.mls_result.specs.declared.status.FileRole.{FileRole}
use Rattle.mls_result.specs.declared.status.FileRole.TheVariants as role

-- steps one after another; the first refusal ends them
infixl 10 ◌>>=◌
abbrev pub ◌>>=◌ : {A B : Type 0} → Result A Status → (A → Result B Status) → Result B Status
(Ok x) >>= f = f x
(Err e) >>= f = Err e

-- the most bytes of a study
abbrev pub study_limit : ℕ
study_limit = 65536

-- the bytes of a name, of which there are at most so many
abbrev pub limited : FileRole → ℕ → Option (List ℕ) → Result (List ℕ) Status
limited file max None = Err status.ReadFault
limited file max (Some bytes) = cond (nat_lt max (length bytes)) (Err (status.TooLong file)) (Ok bytes)

abbrev pub study_answer : Result Study StudyFault → Result Study Status
study_answer (Ok study) = Ok study
study_answer (Err fault) = Err (status.Study fault)

-- the study that bytes spell
abbrev pub content_study : List ℕ → Result Study Status
content_study bytes = study_answer (study_of bytes)

-- the study of a name
unfoldable pub right_study : (study : List ℕ) → Names → Result Study Status
right_study study_name held = limited role.Study study_limit (held study_name) >>= content_study
