-- What clauses see of a rank with its keeper.
use Rattle.std.specs.Prelude.{◌≡◌, ℕ, Bool, true, ◌&&◌, ◌||◌, List, [], ◌∷◌, ◌++◌, Option, Ok, IsSome, IfSome, ◌⊎◌}
use Rattle.std.specs.Option.{option_map}
use Rattle.mls_model.specs.Studies.{Sizes}
use Rattle.mls_model.specs.Histories.{LaneEvent}
use Rattle.mls_model.specs.Survival.{is_save, is_crash}
use Rattle.mls_model.specs.Outcomes.{total_count}
use Rattle.mls_base.specs.declared.outside.Keeper as keeper
use Rattle.mls_field.specs.declared.fold.RowFold.{Ghosts}
use Rattle.mls_rank.specs.declared.rank_core.RankCore.{RankCore}
use Rattle.mls_rank.specs.Cores.{sizes_of, rank_of, counts_of}
use Rattle.mls_rank.specs.Standing.{IsPart}
use Rattle.mls_rank.specs.Saving.{state_of}
use Rattle.mls_book.specs.declared.faults.BookFault.{BookFault}
use Rattle.mls_book.specs.Faults.{IsRefusal}
use Rattle.mls_book.specs.Backups.{given_state, HoldsNone}
use Rattle.mls_book.specs.Histories.{Carries, IsFew}
use Rattle.mls_book.specs.declared.saved_rank.SavedRank.{SavedRank}

abbrev pub core_of : {F K : Type 0} {T : Ghosts F} {U : keeper.Ghosts K} → SavedRank F K T U → RankCore F T
core_of x = x.core

abbrev pub keeper_of : {F K : Type 0} {T : Ghosts F} {U : keeper.Ghosts K} → SavedRank F K T U → K
keeper_of x = x.keeper

-- its study, its number, and how many events it counted
abbrev pub study_of : {F K : Type 0} {T : Ghosts F} {U : keeper.Ghosts K} → SavedRank F K T U → Sizes
study_of x = sizes_of x.core

abbrev pub number_of : {F K : Type 0} {T : Ghosts F} {U : keeper.Ghosts K} → SavedRank F K T U → ℕ
number_of x = rank_of x.core

abbrev pub total_of : {F K : Type 0} {T : Ghosts F} {U : keeper.Ghosts K} → SavedRank F K T U → ℕ
total_of x = total_count (counts_of x.core)

-- whether this run had a save
abbrev pub saved_of : {F K : Type 0} {T : Ghosts F} {U : keeper.Ghosts K} → SavedRank F K T U → Bool
saved_of x = x.saved

-- the bytes of the state at the beginning, where that isn't the empty one
abbrev pub opening_of : {F K : Type 0} {T : Ghosts F} {U : keeper.Ghosts K} → SavedRank F K T U → Option (List ℕ)
opening_of x = option_map (λ bytes. bytes.items) x.opening

-- nothing, or the bytes that the keeper holds, where it tells them
abbrev pub held_of : {F K : Type 0} {T : Ghosts F} {U : keeper.Ghosts K} → SavedRank F K T U → Option (Option (List ℕ))
held_of {F} {K} {T} {U} x = U.held x.keeper

-- how many of the keeper's calls failed, how many gets there were, what the last one gave, where that is told, and whether the keeper is sound
abbrev pub faults_of : {F K : Type 0} {T : Ghosts F} {U : keeper.Ghosts K} → SavedRank F K T U → ℕ
faults_of {F} {K} {T} {U} x = U.faults x.keeper

abbrev pub gets_of : {F K : Type 0} {T : Ghosts F} {U : keeper.Ghosts K} → SavedRank F K T U → ℕ
gets_of {F} {K} {T} {U} x = U.gets x.keeper

abbrev pub last_of : {F K : Type 0} {T : Ghosts F} {U : keeper.Ghosts K} → SavedRank F K T U → Option (Option (List ℕ))
last_of {F} {K} {T} {U} x = U.last_get x.keeper

abbrev pub sound_of : {F K : Type 0} {T : Ghosts F} {U : keeper.Ghosts K} → SavedRank F K T U → Bool
sound_of {F} {K} {T} {U} x = U.sound x.keeper

-- what the last get gave, where that is told, is read as the state of the core
abbrev pub IsGiven : {F K : Type 0} {T : Ghosts F} {U : keeper.Ghosts K} → SavedRank F K T U → SavedRank F K T U → Type 0
IsGiven {F} {K} {T} {U} old new = IfSome (last_of new) (λ given. given_state T.part_at (study_of old) (number_of old) given ≡ Ok (state_of (core_of new)))

-- or refused with a fault
abbrev pub IsRefused : {F K : Type 0} {T : Ghosts F} {U : keeper.Ghosts K} → BookFault → SavedRank F K T U → SavedRank F K T U → Type 0
IsRefused {F} {K} {T} {U} fault old new = IfSome (last_of new) (λ given. IsRefusal fault (given_state T.part_at (study_of old) (number_of old) given))

-- what the keeper holds, where that is told, spells no core of the rank
abbrev pub IsUnspelled : {F K : Type 0} {T : Ghosts F} {U : keeper.Ghosts K} → SavedRank F K T U → Type 0
IsUnspelled {F} {K} {T} {U} x = HoldsNone F T (study_of x) (number_of x) (held_of x)

-- whether an event reads the keeper, and whether it calls it at all
abbrev pub reads_keeper : Bool → LaneEvent → Bool
reads_keeper saved e = is_crash e && saved

abbrev pub calls_keeper : Bool → LaneEvent → Bool
calls_keeper saved e = is_save e || reads_keeper saved e

-- Where an event takes memory: for a piece that covers a part of the rank's block, at a call of the keeper, or for the bytes of the beginning.
abbrev pub TakesMemory : {F K : Type 0} {T : Ghosts F} {U : keeper.Ghosts K} → SavedRank F K T U → LaneEvent → Type 0
TakesMemory x e = IsPart (study_of x) (number_of x) e.kind e.frame ⊎ ((calls_keeper (saved_of x) e ≡ true) ⊎ IsSome (opening_of x))

-- it carries a whole history, of which the run's own events are the last
abbrev pub CarriesHistory : {F K : Type 0} {T : Ghosts F} {U : keeper.Ghosts K} → SavedRank F K T U → (whole run : List LaneEvent) → Type 0
CarriesHistory {F} {K} {T} {U} x whole run = Carries (core_of x) (held_of x) (saved_of x) (opening_of x) whole run

-- and one event more
abbrev pub CarriesMore : {F K : Type 0} {T : Ghosts F} {U : keeper.Ghosts K} → SavedRank F K T U → (whole run : List LaneEvent) → LaneEvent → Type 0
CarriesMore x whole run e = CarriesHistory x (whole ++ e ∷ []) (run ++ e ∷ [])

-- It counted at most so many events, where its keeper tells, and so did the states that a crash goes back to.
abbrev pub CountsFew : {F K : Type 0} {T : Ghosts F} {U : keeper.Ghosts K} → SavedRank F K T U → ℕ → Type 0
CountsFew {F} {K} {T} {U} x most = IsFew (core_of x) (held_of x) (saved_of x) (opening_of x) most
