-- The states that a crash goes back to, as bytes.
use Rattle.std.specs.Prelude.{◌≡◌, ℕ, ◌^◌, ◌≤◌, Bool, cond, List, [], Option, None, Some, IfSome}
use Rattle.mls_base.specs.Told.{raised}
use Rattle.mls_model.specs.Studies.{Sizes}
use Rattle.mls_model.specs.Histories.{LaneEvent}
use Rattle.mls_model.specs.Outcomes.{total_count}
use Rattle.mls_ckpt.specs.declared.faults.CkptWhy.TheVariants as why
use Rattle.mls_ckpt.specs.Reading.{Cursor, Read, refused}
use Rattle.mls_ckpt.specs.States.{State}
use Rattle.mls_ckpt.specs.Spellings.{spelled_state}
use Rattle.mls_ckpt.specs.Checkpoints.{checkpoint_of}
use Rattle.mls_ckpt.specs.Histories.{checkpoint}
use Rattle.mls_field.specs.declared.fold.RowFold.{Ghosts}
use Rattle.mls_rank.specs.declared.rank_core.RankCore.{RankCore}
use Rattle.mls_rank.specs.Cores.{sizes_of, rank_of, counts_of}
use Rattle.mls_rank.specs.Counting.{no_counts}
use Rattle.mls_rank.specs.Standing.{StandsFor}
use Rattle.mls_rank.specs.Saving.{state_of, SpellsCore, Resumes}

-- the bytes that are put for a core
abbrev pub written_of : {F : Type 0} {T : Ghosts F} → RankCore F T → List ℕ
written_of core = spelled_state 3 (sizes_of core) (rank_of core) (state_of core)

-- The state that is read from what a keeper gives. Nothing is refused at 0.
abbrev pub given_state : (Sizes → ℕ → List ℕ → Cursor → Read Cursor) → Sizes → ℕ → Option (List ℕ) → Read State
given_state part_at s rank None = refused 0 why.Absent
given_state part_at s rank (Some bytes) = checkpoint_of part_at s rank bytes

-- how often it was asked, after an event that reads it or not
abbrev pub gets_after : Bool → ℕ → ℕ
gets_after reads gets = cond reads (raised gets) gets

-- what is put is the checkpoint of each history that the core stands for
abbrev pub IsCheckpoint : {F : Type 0} {T : Ghosts F} → RankCore F T → Type 0
IsCheckpoint {F} {T} core = (history : List LaneEvent) → StandsFor core history
    → written_of core ≡ checkpoint T.part_of (sizes_of core) (rank_of core) history

-- what is put spells the core, where it counted few enough events
abbrev pub IsSpelled : {F : Type 0} {T : Ghosts F} → RankCore F T → Type 0
IsSpelled core = total_count (counts_of core) ≤ 2 ^ 62 → SpellsCore (sizes_of core) (rank_of core) (written_of core) core

-- a core goes on from each core that the bytes spell
abbrev pub ResumesFrom : {F : Type 0} {T : Ghosts F} → Sizes → ℕ → List ℕ → RankCore F T → Type 0
ResumesFrom {F} {T} s rank bytes core = (saved : RankCore F T) → SpellsCore s rank bytes saved → Resumes saved core

-- a core is that of the beginning: of no events, or gone on from the bytes
abbrev pub Begins : {F : Type 0} {T : Ghosts F} → Sizes → ℕ → Option (List ℕ) → RankCore F T → Type 0
Begins s rank None core = (counts_of core ≡ no_counts) × StandsFor core []
Begins s rank (Some bytes) core = ResumesFrom s rank bytes core

-- a core goes on from the bytes that are held, where that is told
abbrev pub GoesBack : {F : Type 0} {T : Ghosts F} → Sizes → ℕ → Option (Option (List ℕ)) → RankCore F T → Type 0
GoesBack s rank held core = IfSome held (λ kept. IfSome kept (λ bytes. ResumesFrom s rank bytes core))

-- what is held, where that is told, spells no core
abbrev pub HoldsNone : (F : Type 0) (T : Ghosts F) → Sizes → ℕ → Option (Option (List ℕ)) → Type 0
HoldsNone F T s rank held = IfSome held (λ kept. IfSome kept (λ bytes. (saved : RankCore F T) → SpellsCore s rank bytes saved → ⊥))
