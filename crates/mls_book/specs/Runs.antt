-- What a run asks of a keeper, over its whole history.
use Rattle.std.specs.Prelude.{◌≡◌, ℕ, zero, suc, cond, List, [], ◌∷◌, length, Option, Some}
use Rattle.std.specs.List.{list_any}
use Rattle.mls_base.specs.declared.outside.Keeper as keeper
use Rattle.mls_base.specs.Told.{raised, replaced}
use Rattle.mls_model.specs.Studies.{Sizes}
use Rattle.mls_model.specs.Standing.{Table}
use Rattle.mls_model.specs.Places.{gathered}
use Rattle.mls_model.specs.Histories.{LaneEvent}
use Rattle.mls_model.specs.Survival.{is_save, before_last_save}
use Rattle.mls_ckpt.specs.Histories.{checkpoint}
use Rattle.mls_field.specs.declared.fold.RowFold.{Ghosts}
use Rattle.mls_book.specs.SavedRanks.{reads_keeper}
use Rattle.mls_book.specs.Books.{BookView}

-- the crashes of a history that stand behind a save of it: each reads the keeper
unfoldable pub reads_of : List LaneEvent → List LaneEvent
reads_of history = gathered (λ before e. cond (reads_keeper (list_any is_save before) e) (e ∷ []) []) [] history

-- a count that was raised so many times
abbrev pub raised_times : ℕ → ℕ → ℕ
raised_times zero count = count
raised_times (suc n) count = raised (raised_times n count)

-- the number of gets after a history, from the number before it
abbrev pub gets_over : List LaneEvent → ℕ → ℕ
gets_over history gets = raised_times (length (reads_of history)) gets

-- What a keeper that tells holds after a history: the checkpoint up to the last save, and where none stands in it what it held before.
abbrev pub held_over : (Sizes → ℕ → Table → List ℕ) → Sizes → ℕ → List LaneEvent → Option (Option (List ℕ)) → Option (Option (List ℕ))
held_over part_of s rank history held = cond (list_any is_save history) (replaced held (Some (checkpoint part_of s rank (before_last_save history)))) held

-- The keeper of a book is what a history makes of a keeper.
pub record IsRun {T F K : Type 0} (R : Ghosts F) (U : keeper.Ghosts K) (book : BookView T F K) (history : List LaneEvent) (start : K) : Type 0 where
  pub held : U.held book.keeper ≡ held_over R.part_of book.core.sizes book.core.rank history (U.held start)
  pub gets : U.gets book.keeper ≡ gets_over history (U.gets start)
  pub faults : U.faults book.keeper ≡ U.faults start
