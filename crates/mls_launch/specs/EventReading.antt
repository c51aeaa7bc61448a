-- How the lines of an events file are read, from the front of the bytes.
use Rattle.std.specs.Prelude.{ℕ, ◌+◌, zero, suc, cond, List, [], ◌∷◌, ◌++◌, length, Option, Some, None, Result, Ok, Err, codes, ◌==◌}
use Rattle.std.specs.Option.{option_and_then}
use Rattle.mls_model.specs.declared.launcher.Event.{Event}
use Rattle.mls_model.specs.declared.launcher.Event.TheVariants.{Tick, Beat, Done, RankBeat}
use Rattle.mls_text.specs.Fronts.{number_before}

-- the bytes behind a front
abbrev pub after_in : List ℕ → List ℕ → Option (List ℕ)
after_in [] bytes = Some bytes
after_in (c ∷ front) [] = None
after_in (c ∷ front) (b ∷ bytes) = cond (c == b) (after_in front bytes) None

-- one of two, by whether the bytes begin with a word
abbrev pub behind : {A : Type 0} → (List ℕ → A) → A → Option (List ℕ) → A
behind there other None = other
behind there other (Some rest) = there rest

-- what stands behind each of the four words
unfoldable pub tick_in : List ℕ → Option (Event × List ℕ)
tick_in bytes = option_and_then (λ (x : ℕ × List ℕ). Some (Tick x.0, x.1)) (number_before 10 bytes)

unfoldable pub rank_in : List ℕ → Option (Event × List ℕ)
rank_in bytes = option_and_then (λ (x : ℕ × List ℕ). option_and_then (λ (y : ℕ × List ℕ). Some (RankBeat x.0 y.0, y.1)) (number_before 10 x.1)) (number_before 32 bytes)

unfoldable pub life_in : (ℕ → ℕ → ℕ → Event) → List ℕ → Option (Event × List ℕ)
life_in event bytes = option_and_then (λ (x : ℕ × List ℕ). option_and_then (λ (y : ℕ × List ℕ). option_and_then (λ (z : ℕ × List ℕ). Some (event x.0 y.0 z.0, z.1)) (number_before 10 y.1)) (number_before 32 x.1)) (number_before 32 bytes)

-- the event whose line stands at the front
unfoldable pub event_in : List ℕ → Option (Event × List ℕ)
event_in bytes =
    behind tick_in
    (behind (life_in (λ group life now. Beat group life now))
    (behind (life_in (λ group life now. Done group life now))
    (behind rank_in
    None (after_in (codes "rank ") bytes))
    (after_in (codes "done ") bytes))
    (after_in (codes "beat ") bytes))
    (after_in (codes "tick ") bytes)

-- events before those that are read later
abbrev pub prepended : List Event → Result (List Event) ℕ → Result (List Event) ℕ
prepended events (Ok later) = Ok (events ++ later)
prepended events (Err line) = Err line

-- the events in at most so many lines, of which the first has a number, or the number of the first line that is the
-- line of no event
unfoldable pub events_from : (most line : ℕ) → List ℕ → Result (List Event) ℕ
events_from most line [] = Ok []
events_from zero line (b ∷ bytes) = Err line
events_from (suc most) line (b ∷ bytes) = elim (event_in (b ∷ bytes)) [ None ↦ Err line | Some x ↦ prepended (x.0 ∷ []) (events_from most (line + 1) x.1) ]

-- The events of a file, or the number of the first line that is the line of no event. No line is empty.
unfoldable pub events_of : List ℕ → Result (List Event) ℕ
events_of bytes = events_from (length bytes) 1 bytes
