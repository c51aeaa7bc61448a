-- What is right of an export, from the files and from the keepers.
use Rattle.std.specs.Prelude.{◌≡◌, ℕ, ◌<◌, List, Some, None, Result, Ok, Err, IsSome, IsSomeAnd}
use Rattle.mls_base.specs.Told.{Names}
use Rattle.mls_model.specs.Numbers.{element}
use Rattle.mls_model.specs.Studies.{Study}
use Rattle.mls_book.specs.Keepers.{KeeperState}
use Rattle.mls_ckpt.specs.declared.faults.CkptWhy.{CkptWhy}
use Rattle.mls_ckpt.specs.declared.faults.CkptWhy.TheVariants.{Absent}
use Rattle.mls_export.specs.declared.faults.ExportFault.{ExportFault}
use Rattle.mls_export.specs.declared.faults.ExportFault.TheVariants as fault
use Rattle.mls_result.specs.declared.status.Status.{Status}
use Rattle.mls_result.specs.declared.status.Status.TheVariants as status
use Rattle.mls_cli.specs.Inputs.{◌>>=◌, right_study}
use Rattle.mls_cli.specs.Tasks.{Exported}

abbrev pub export_over : (prefix : List ℕ) → Study → Exported
export_over prefix study = record { ranks = study.sizes.ranks; prefix = prefix }

-- what an export of a study's name and a prefix is carried out over
unfoldable pub right_export : (study prefix : List ℕ) → Names → Result Exported Status
right_export study_name prefix held = right_study study_name held >>= (λ study. Ok (export_over prefix study))

-- the keeper of each of so many ranks tells what it holds
abbrev pub AreTold : ℕ → List KeeperState → Type 0
AreTold ranks keepers = (rank : ℕ) (keeper : KeeperState) → rank < ranks → element keepers rank ≡ Some keeper → IsSome keeper.held

-- it tells that it holds bytes
abbrev pub AllHold : ℕ → List KeeperState → Type 0
AllHold ranks keepers = (rank : ℕ) (keeper : KeeperState) → rank < ranks → element keepers rank ≡ Some keeper → IsSomeAnd keeper.held IsSome

-- The least rank whose keeper holds nothing. A checkpoint is answered for it that is absent, at 0.
pub record IsEmptyAt (ranks rank at : ℕ) (why : CkptWhy) (keepers : List KeeperState) : Type 0 where
  pub here : rank < ranks
  pub below : AllHold rank keepers
  pub empty : (keeper : KeeperState) → element keepers rank ≡ Some keeper → keeper.held ≡ Some None
  pub at_first : at ≡ 0
  pub absent : why ≡ Absent

-- what is answered after an export
abbrev pub export_status : {A : Type 0} → Result A ExportFault → Status
export_status (Ok done) = status.Done
export_status (Err (fault.KeeperFault rank)) = status.KeeperFault rank
export_status (Err (fault.Absent rank)) = status.CheckpointBad rank 0 Absent
export_status (Err fault.WriteFault) = status.WriteFault
export_status (Err fault.Memory) = status.Memory
