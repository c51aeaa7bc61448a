-- Why a command has no inputs, against what is right.
use Rattle.std.specs.Prelude.{◌≡◌, ℕ, Bool, IsTrue, Option, Some, Result, Ok, Err, MatchResult, ⊤}
use Rattle.mls_base.specs.Told.{Names, MayCease, Rose, StaysSound}
use Rattle.mls_export.specs.Files.{FileState}
use Rattle.mls_result.specs.declared.status.Status.{Status}
use Rattle.mls_result.specs.declared.status.Status.TheVariants as status
use Rattle.mls_study.specs.declared.fault.StudyFault.{StudyFault}
use Rattle.mls_study.specs.declared.fault.StudyFault.TheVariants as study
use Rattle.mls_cli.specs.declared.refusal.Refusal.{Refusal}
use Rattle.mls_cli.specs.declared.refusal.Refusal.TheVariants as refusal

-- the answer of a command that is refused so
abbrev pub status_of : Refusal → Status
status_of refusal.ReadFault = status.ReadFault
status_of refusal.Memory = status.Memory
status_of (refusal.Study fault) = status.Study fault
status_of (refusal.Tape at why) = status.Tape at why
status_of (refusal.Schedule line why) = status.Schedule line why
status_of (refusal.TooLong file) = status.TooLong file
status_of (refusal.Events line) = status.Events line
status_of refusal.TooLarge = status.TooLarge
status_of (refusal.OldRanks ranks) = status.OldRanks ranks
status_of (refusal.CheckpointBad rank at why) = status.CheckpointBad rank at why
status_of (refusal.MarksDiffer other plane group first_has) = status.MarksDiffer other plane group first_has

-- how a command is refused whose study has this fault
abbrev pub study_refusal : StudyFault → Refusal
study_refusal study.Memory = refusal.Memory
study_refusal fault = refusal.Study fault

-- A refusal is the one that is right, a failed read where the files are sound. Want of memory says nothing of what is held.
abbrev pub IsRefused : {A : Type 0} → (sound : Bool) → Refusal → Result A Status → Type 0
IsRefused sound refusal.ReadFault right = IsTrue sound → right ≡ Err status.ReadFault
IsRefused sound refusal.Memory right = ⊤
IsRefused sound r right = right ≡ Err (status_of r)

-- what was answered, seen by view, is what is right
abbrev pub Agrees : {A B : Type 0} → (sound : Bool) → (A → B) → Result A Refusal → Result B Status → Type 0
Agrees sound view (Ok x) right = right ≡ Ok (view x)
Agrees sound view (Err r) right = IsRefused sound r right

-- the count of failed loads after a refusal: it rose where a read failed, and stands as before else
abbrev pub Counts : Refusal → ℕ → ℕ → Type 0
Counts refusal.ReadFault before now = Rose before now
Counts r before now = now ≡ before

-- what is told after a refusal: as before, but that nothing may be told any more after a failed read
abbrev pub Leaves : {A : Type 0} → Refusal → Option A → Option A → Type 0
Leaves refusal.ReadFault old new = MayCease old new
Leaves r old new = new ≡ old

-- no read failed
abbrev pub IsOfContent : Refusal → Type 0
IsOfContent refusal.ReadFault = ⊥
IsOfContent r = ⊤

-- What was loaded, seen by view, is what the held files ask for, or the refusal is. The files hold the same after it, and
-- are sound where they were.
pub record Loads {A B : Type 0} (view : A → B) (asked : Names → Result B Status) (old new : FileState) (result : Result A Refusal) : Type 0 where
  pub right : (held : Names) → old.held ≡ Some held → Agrees old.sound view result (asked held)
  pub same : MatchResult result (λ _. new.held ≡ old.held) (λ r. Leaves r old.held new.held)
  pub sound : StaysSound old.sound new.sound
  pub loads : MatchResult result (λ _. new.load_faults ≡ old.load_faults) (λ r. Counts r old.load_faults new.load_faults)
  pub saves : new.save_faults ≡ old.save_faults
