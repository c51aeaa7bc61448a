-- The lists of bytes that ranks go on from, and the save that stands behind the history of such a rank.
use Rattle.std.specs.Prelude.{◌≡◌, ℕ, ◌+◌, ◌*◌, ◌^◌, ◌<◌, ◌≤◌, true, List, [], length, get_or, take, sum, Ok, Err, IsOkAnd, ◌⊎◌, ⊤}
use Rattle.mls_model.specs.declared.lanes.LaneKind.TheVariants.{Control}
use Rattle.mls_model.specs.Frames.{save}
use Rattle.mls_model.specs.Studies.{Sizes}
use Rattle.mls_model.specs.Histories.{LaneEvent}
use Rattle.mls_model.specs.Outcomes.{total_count}
use Rattle.mls_ckpt.specs.Reading.{Cursor, Read}
use Rattle.mls_ckpt.specs.declared.faults.RecoverFault.{RecoverFault}
use Rattle.mls_ckpt.specs.declared.faults.RecoverFault.TheVariants.{Bad, Memory}
use Rattle.mls_ckpt.specs.declared.faults.CkptWhy.TheVariants.{Range}
use Rattle.mls_ckpt.specs.States.{State}
use Rattle.mls_ckpt.specs.Spellings.{is_read, head_text, counts_list, spelled_state}
use Rattle.mls_ckpt.specs.Checkpoints.{checkpoint_of}
use Rattle.mls_field.specs.declared.fold.RowFold.{Ghosts}
use Rattle.mls_rank.specs.declared.rank_core.RankCore.{RankCore}
use Rattle.mls_rank.specs.Standing.{StandsFor}
use Rattle.mls_rank.specs.Saving.{SpellsCore}

-- a save on a control lane: that of the run whose state the bytes spell
abbrev pub saved_event : LaneEvent
saved_event = record { kind = Control; frame = save }

-- The bytes are a checkpoint of a rank that counted at most so many events.
abbrev pub IsOpening : (Sizes → ℕ → List ℕ → Cursor → Read Cursor) → Sizes → (rank most : ℕ) → List ℕ → Type 0
IsOpening part_at s rank most bytes = IsOkAnd (checkpoint_of part_at s rank bytes) (λ (state : State). total_count state.counts ≤ most)

-- A list for each rank of a study, in rising rank. No run makes the counts of such a list pass what a checkpoint may count.
pub record AreOpenings (part_at : Sizes → ℕ → List ℕ → Cursor → Read Cursor) (s : Sizes) (openings : List (List ℕ)) : Type 0 where
  pub one_each : length openings ≡ s.ranks
  pub spelled : (rank : ℕ) → rank < s.ranks → IsOpening part_at s rank (2 ^ 61) (get_or openings rank [])

-- The state that the bytes spell stands for a history.
pub record OpensWith {F : Type 0} (T : Ghosts F) (s : Sizes) (rank : ℕ) (bytes : List ℕ) (before : List LaneEvent) : Type 0 where
  pub few : length before ≤ 2 ^ 61
  pub stands : (core : RankCore F T) → SpellsCore s rank bytes core → StandsFor core before

-- the first of these counts, from 0, with which their sum passes 2 ^ 61
pub record PassesWith (counts : List ℕ) (count : ℕ) : Type 0 where
  pub here : count < length counts
  pub few : sum (take count counts) ≤ 2 ^ 61
  pub passes : 2 ^ 61 < sum (take (count + 1) counts)

-- The bytes are the checkpoint of a state whose counts add up to more. This is the first byte of the one with which their sum passes
-- it.
pub record PassesAt (part_at : Sizes → ℕ → List ℕ → Cursor → Read Cursor) (s : Sizes) (rank : ℕ) (bytes : List ℕ) (at : ℕ) : Type 0 where
  pub state : State
  pub read : checkpoint_of part_at s rank bytes ≡ Ok state
  pub version : ℕ
  pub is_read : is_read s version ≡ true
  pub spelled : bytes ≡ spelled_state version s rank state
  pub count : ℕ
  pub passes : PassesWith (counts_list state.counts) count
  pub stands : at ≡ length (head_text version s rank []) + 8 * count

-- The bytes are no checkpoint, at their first fault. Or they are one, and their counts pass what a rank that goes on may have counted.
abbrev pub RefusesOpening : (Sizes → ℕ → List ℕ → Cursor → Read Cursor) → Sizes → (rank : ℕ) → List ℕ → RecoverFault → Type 0
RefusesOpening part_at s rank bytes (Bad at why) = (checkpoint_of part_at s rank bytes ≡ Err (record { at = at; why = why })) ⊎ ((why ≡ Range) × PassesAt part_at s rank bytes at)
RefusesOpening part_at s rank bytes Memory = ⊤
