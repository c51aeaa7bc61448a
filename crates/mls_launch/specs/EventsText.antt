-- The events file: a line for each event.
use Rattle.std.specs.Prelude.{◌≡◌, ℕ, ◌+◌, ◌^◌, ◌<◌, List, [], ◌∷◌, ◌++◌, length, codes, decimal}
use Rattle.std.specs.List.{flat_map, AllByRecursion}
use Rattle.mls_model.specs.declared.launcher.Event.{Event}
use Rattle.mls_model.specs.declared.launcher.Event.TheVariants.{Tick, Beat, Done, RankBeat}
use Rattle.mls_model.specs.Numbers.{joined}

-- tick NOW, beat GROUP LIFE NOW, done GROUP LIFE NOW, rank RANK NOW
unfoldable pub event_line : Event → List ℕ
event_line (Tick now) = joined (codes "tick " ∷ decimal now ∷ codes "\n" ∷ [])
event_line (Beat group life now) = joined (codes "beat " ∷ decimal group ∷ codes " " ∷ decimal life ∷ codes " " ∷ decimal now ∷ codes "\n" ∷ [])
event_line (Done group life now) = joined (codes "done " ∷ decimal group ∷ codes " " ∷ decimal life ∷ codes " " ∷ decimal now ∷ codes "\n" ∷ [])
event_line (RankBeat rank now) = joined (codes "rank " ∷ decimal rank ∷ codes " " ∷ decimal now ∷ codes "\n" ∷ [])

-- the numbers of an event are below 2 ^ 32
abbrev pub IsEvent : Event → Type 0
IsEvent (Tick now) = now < 2 ^ 32
IsEvent (Beat group life now) = (group < 2 ^ 32) × (life < 2 ^ 32) × (now < 2 ^ 32)
IsEvent (Done group life now) = (group < 2 ^ 32) × (life < 2 ^ 32) × (now < 2 ^ 32)
IsEvent (RankBeat rank now) = (rank < 2 ^ 32) × (now < 2 ^ 32)

-- The text of a list of events.
unfoldable pub events_text : List Event → List ℕ
events_text events = flat_map event_line events

-- Bytes are lines of events up to a line, numbered from 1, that is the line of none.
pub record IsRefusedAt (bytes : List ℕ) (line : ℕ) : Type 0 where
  pub before : List Event
  pub rest : List ℕ
  pub is_text : bytes ≡ events_text before ++ rest
  pub line_is : line ≡ length before + 1
  pub some : 0 < length rest
  pub events_fit : AllByRecursion IsEvent before
  pub no_event : (e : Event) → IsEvent e → (after : List ℕ) → rest ≡ event_line e ++ after → ⊥
