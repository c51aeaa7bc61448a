-- Which history a core and its keeper carry.
use Rattle.std.specs.Prelude.{◌≡◌, ℕ, ◌≤◌, Bool, true, false, List, [], Option, None, Some, IsSome, IfSome, IsSomeAnd, ◌⊎◌}
use Rattle.std.specs.List.{list_any}
use Rattle.mls_model.specs.Studies.{Sizes}
use Rattle.mls_model.specs.Histories.{LaneEvent}
use Rattle.mls_model.specs.Survival.{is_save, before_last_save, crash_after_save}
use Rattle.mls_model.specs.Outcomes.{total_count}
use Rattle.mls_ckpt.specs.Histories.{checkpoint}
use Rattle.mls_field.specs.declared.fold.RowFold.{Ghosts}
use Rattle.mls_rank.specs.declared.rank_core.RankCore.{RankCore}
use Rattle.mls_rank.specs.Cores.{sizes_of, rank_of, counts_of}
use Rattle.mls_rank.specs.Standing.{StandsFor}
use Rattle.mls_rank.specs.Saving.{SpellsCore}

-- What a run leaves is known: the keeper tells what it holds, or no crash of the run stands behind a save of it.
abbrev pub Sure : Option (Option (List ℕ)) → List LaneEvent → Type 0
Sure held run = IsSome held ⊎ (crash_after_save run ≡ false)

-- the bytes spell the state of a core that stands for a history
pub record Saves (F : Type 0) (T : Ghosts F) (s : Sizes) (rank : ℕ) (history : List LaneEvent) (bytes : List ℕ) : Type 0 where
  pub core : RankCore F T
  pub spells : SpellsCore s rank bytes core
  pub stands : StandsFor core history

-- the state at the beginning stands for a history
abbrev pub Opens : (F : Type 0) (T : Ghosts F) → Sizes → ℕ → List LaneEvent → Option (List ℕ) → Type 0
Opens F T s rank history None = history ≡ []
Opens F T s rank history (Some bytes) = Saves F T s rank history bytes

-- A core and what its keeper holds carry a whole history, of which the run's own events are the last. Whether the run had
-- a save is kept. A crash goes back to the state before the last save of the whole history: the one that is held where the
-- run had a save, else the one at the beginning.
pub record Carries {F : Type 0} {T : Ghosts F} (core : RankCore F T) (held : Option (Option (List ℕ))) (saved : Bool) (opening : Option (List ℕ)) (whole run : List LaneEvent) : Type 0 where
  pub stands : Sure held run → StandsFor core whole
  pub had : saved ≡ list_any is_save run
  pub back : saved ≡ true → IfSome held (λ kept. IsSomeAnd kept (Saves F T (sizes_of core) (rank_of core) (before_last_save whole)))
  pub kept : saved ≡ true → IfSome held (λ kept. kept ≡ Some (checkpoint T.part_of (sizes_of core) (rank_of core) (before_last_save whole)))
  pub opens : saved ≡ false → Opens F T (sizes_of core) (rank_of core) (before_last_save whole) opening

-- the bytes spell the state of a core that counted at most so many events
pub record SpellsFew (F : Type 0) (T : Ghosts F) (s : Sizes) (rank most : ℕ) (bytes : List ℕ) : Type 0 where
  pub core : RankCore F T
  pub spells : SpellsCore s rank bytes core
  pub fewer : total_count (counts_of core) ≤ most

-- A core whose keeper tells, and the states that a crash goes back to, counted at most so many events.
pub record IsFew {F : Type 0} {T : Ghosts F} (core : RankCore F T) (held : Option (Option (List ℕ))) (saved : Bool) (opening : Option (List ℕ)) (most : ℕ) : Type 0 where
  pub few : IsSome held → total_count (counts_of core) ≤ most
  pub back : saved ≡ true → IfSome held (λ kept. IsSomeAnd kept (SpellsFew F T (sizes_of core) (rank_of core) most))
  pub opens : saved ≡ false → IfSome opening (SpellsFew F T (sizes_of core) (rank_of core) most)
