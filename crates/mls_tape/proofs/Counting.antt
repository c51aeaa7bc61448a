-- Counting the events of lanes one after another, as a loop does.
use Rattle.std.proofs.Common.{◌≡◌, ℕ, ◌+◌, ◌≤◌, ◌<◌, true, false, ltb, List, [], ◌∷◌, ◌++◌, length, drop, map, get_or, Ok, Err, refl, sym, ap, ◌∙◌, append_assoc}
use Rattle.std.proofs.lemmas.Bool.{lt-ltb, le-ltb}
use Rattle.std.proofs.lemmas.List.{drop_more, drop_all}
use Rattle.mls_model.specs.declared.lanes.LaneEnd.{LaneEnd}
use Rattle.mls_model.specs.declared.lanes.TapeWhy.TheVariants as why
use Rattle.mls_model.specs.Numbers.{joined}
use Rattle.mls_model.specs.Frames.{spelling}
use Rattle.mls_model.specs.Lanes.{◌>>=◌, Read, TapeRefusal, Lane, LaneBytes, lane_frames, lane_rest, end_at, lane_of, with_events, most_events}
use Rattle.mls_tape.specs.declared.lane_stretch.LaneStretch.{LaneStretch}
use Rattle.mls_tape.specs.declared.scanning.Entry.{Entry}
use Rattle.mls_tape.specs.Reading.{lane_bytes, all_lane_bytes}
use Rattle.mls_tape.specs.Scans.{starts_from, all_starts, lanes_made, entry_of, entries_of}

-- the parts from one on
pub rest_step : (parts : List LaneStretch) (i : ℕ) (p : LaneStretch) → i < length parts → p ≡ get_or parts i p → all_lane_bytes (drop i parts) ≡ lane_bytes p ∷ all_lane_bytes (drop (i + 1) parts)
rest_step parts i p lt is = ap (λ (ps : List LaneStretch). all_lane_bytes ps) (drop_more parts i p lt ∙ ap (λ (q : LaneStretch). q ∷ drop (i + 1) parts) (sym is))

pub rest_end : (parts : List LaneStretch) (i : ℕ) → length parts ≤ i → all_lane_bytes (drop i parts) ≡ []
rest_end parts i le = ap (λ (ps : List LaneStretch). all_lane_bytes ps) (drop_all i parts le)

-- what is read of the rest tells what is read of all
pub record Goes (before : ℕ) (rest all : List LaneBytes) : Type 0 where
  pub ok : with_events before rest ≡ Ok (lanes_made rest) → with_events 0 all ≡ Ok (lanes_made all)
  pub err : (e : TapeRefusal) → with_events before rest ≡ Err e → with_events 0 all ≡ Err e

pub goes_start : (all : List LaneBytes) → Goes 0 all all
goes_start all = record { ok = λ h. h; err = λ e h. h }

pub counted_one : (before : ℕ) (p : LaneBytes) (ps : List LaneBytes) → before + length (lane_frames p.bytes) ≤ most_events → with_events before (p ∷ ps) ≡ (with_events (before + length (lane_frames p.bytes)) ps >>= λ others. Ok (lane_of p.rank p.kind p.bytes ∷ others))
unfolding with_events
counted_one before p ps few =
    let test : ltb most_events (before + length (lane_frames p.bytes)) ≡ false = le-ltb _ _ few in
    rw (test, with_events) refl

pub counted_over : (before : ℕ) (p : LaneBytes) (ps : List LaneBytes) → most_events < before + length (lane_frames p.bytes) → with_events before (p ∷ ps) ≡ Err (record { at = p.at; why = why.TooManyEvents })
unfolding with_events
counted_over before p ps many =
    let test : ltb most_events (before + length (lane_frames p.bytes)) ≡ true = lt-ltb _ _ many in
    rw (test, with_events) refl

pub goes_on : (before next : ℕ) (p : LaneBytes) (ps all : List LaneBytes) → Goes before (p ∷ ps) all → before + length (lane_frames p.bytes) ≤ most_events → next ≡ before + length (lane_frames p.bytes) → Goes next ps all
goes_on before next p ps all g few is =
    let at : with_events next ps ≡ with_events (before + length (lane_frames p.bytes)) ps = ap (λ (n : ℕ). with_events n ps) is in
    record {
      ok = λ h. g.ok (counted_one before p ps few ∙ ap (λ (r : Read (List Lane)). r >>= λ others. Ok (lane_of p.rank p.kind p.bytes ∷ others)) (sym at ∙ h));
      err = λ e h. g.err e (counted_one before p ps few ∙ ap (λ (r : Read (List Lane)). r >>= λ others. Ok (lane_of p.rank p.kind p.bytes ∷ others)) (sym at ∙ h));
    }

pub goes_over : (before : ℕ) (p : LaneBytes) (ps all : List LaneBytes) → Goes before (p ∷ ps) all → most_events < before + length (lane_frames p.bytes) → with_events 0 all ≡ Err (record { at = p.at; why = why.TooManyEvents })
goes_over before p ps all g many = g.err (record { at = p.at; why = why.TooManyEvents }) (counted_over before p ps many)

pub goes_done : (before : ℕ) (all : List LaneBytes) → Goes before [] all → with_events 0 all ≡ Ok (lanes_made all)
unfolding with_events
goes_done before all g = g.ok refl

-- an entry for each lane
made_entry : (before : ℕ) (p : LaneBytes) (events : ℕ) (end : LaneEnd) → events ≡ length (lane_frames p.bytes) → end ≡ end_at (length (joined (map spelling (lane_frames p.bytes)))) (lane_rest p.bytes) → ◌≡◌ {A = Entry} (record { rank = p.rank; kind = p.kind; first = before; events = events; end = end }) (entry_of before (lane_of p.rank p.kind p.bytes))
unfolding lane_of
made_entry before p events end e1 e2 = rw (e1, e2) refl

frames_of : (p : LaneBytes) → (lane_of p.rank p.kind p.bytes).frames ≡ lane_frames p.bytes
unfolding lane_of
frames_of p = refl

pub entries_step : (found : List Entry) (before next : ℕ) (p : LaneBytes) (ps : List LaneBytes) (events : ℕ) (end : LaneEnd) → events ≡ length (lane_frames p.bytes) → end ≡ end_at (length (joined (map spelling (lane_frames p.bytes)))) (lane_rest p.bytes) → next ≡ before + events
    → (found ++ record { rank = p.rank; kind = p.kind; first = before; events = events; end = end } ∷ []) ++ entries_of next (lanes_made ps) ≡ found ++ entries_of before (lanes_made (p ∷ ps))
entries_step found before next p ps events end e1 e2 is =
    let n : next ≡ before + length (lane_of p.rank p.kind p.bytes).frames = is ∙ ap (λ (k : ℕ). before + k) (e1 ∙ ap length (sym (frames_of p))) in
    append_assoc found (record { rank = p.rank; kind = p.kind; first = before; events = events; end = end } ∷ []) (entries_of next (lanes_made ps))
    ∙ ap (λ (e : Entry). found ++ e ∷ entries_of next (lanes_made ps)) (made_entry before p events end e1 e2)
    ∙ ap (λ (k : ℕ). found ++ entry_of before (lane_of p.rank p.kind p.bytes) ∷ entries_of k (lanes_made ps)) n

-- the starts of each lane
pub all_starts_step : (found : List ℕ) (p : LaneBytes) (ps : List LaneBytes) → (found ++ starts_from p.at (lane_frames p.bytes)) ++ all_starts ps ≡ found ++ all_starts (p ∷ ps)
all_starts_step found p ps = append_assoc found (starts_from p.at (lane_frames p.bytes)) (all_starts ps)
