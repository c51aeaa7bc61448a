-- What a tape keeps of its lanes, lane by lane.
use Rattle.std.proofs.Common.{◌≡◌, false, eqb, ℕ, zero, suc, ◌+◌, ◌≤◌, ◌<◌, List, [], ◌∷◌, length, drop, get_or, Option, Some, refl, sym, ap, subst, ◌∙◌, arith, inl, inr}
use Rattle.mls_model.specs.Numbers.{element}
use Rattle.mls_model.specs.Frames.{Frame, spelling, Sight, whole, more, sight}
use Rattle.mls_model.specs.Lanes.{Lane}
use Rattle.mls_model.specs.Schedules.{event_count, is_lane_of}
use Rattle.mls_model.specs.Histories.{event_of}
use Rattle.mls_tape.specs.declared.scanning.Entry.{Entry}
use Rattle.mls_tape.specs.Scans.{entry_of, entries_of, IsEntry, AreStarts, AreAllStarts, IsWholeSight}
use Rattle.mls_tape.specs.Tapes.{told_lane}
use Rattle.mls_tape.specs.Events.{IsToldEvent}
use Rattle.mls_tape.proofs.LaneLemmas.{few_sight}
use Rattle.std.proofs.lemmas.Bool.{cases_lt}
use Rattle.std.proofs.lemmas.List.{length-drop}

pub entries-length : (before : ℕ) (lanes : List Lane) → length (entries_of before lanes) ≡ length lanes
entries-length before [] = refl
entries-length before (lane ∷ lanes) = ap suc (entries-length (before + length lane.frames) lanes)

-- a lane that there is
pub lane_there : (lanes : List Lane) (k : ℕ) → k < length lanes → (lane : Lane) × (element lanes k ≡ Some lane)
lane_there [] k lt = absurd (omega arith)
lane_there (lane ∷ lanes) zero lt = (lane, refl)
lane_there (lane ∷ lanes) (suc k) lt = lane_there lanes k (omega arith)

same_lane : (l m : Lane) → ◌≡◌ {A = Option Lane} (Some l) (Some m) → l ≡ m
same_lane l m e = cc

pub count_of : (lanes : List Lane) (k : ℕ) (lane : Lane) → element lanes k ≡ Some lane → event_count lanes k ≡ length lane.frames
count_of [] k lane e = absurd cc
count_of (l ∷ lanes) zero lane e = ap (λ (m : Lane). length m.frames) (same_lane l lane e)
count_of (l ∷ lanes) (suc k) lane e = count_of lanes k lane e

-- the entry of a lane, with its events' starts
pub entry_found : (before : ℕ) (lanes : List Lane) (k : ℕ) (lane : Lane) (d : Entry) → element lanes k ≡ Some lane → (first : ℕ) × (get_or (entries_of before lanes) k d ≡ entry_of first lane) × ((starts bytes : List ℕ) → AreAllStarts starts bytes before lanes → AreStarts starts bytes first lane.frames)
entry_found before [] k lane d e = absurd cc
entry_found before (l ∷ lanes) zero lane d e =
    let same = same_lane l lane e in
    (before, ap (λ (m : Lane). entry_of before m) same, λ starts bytes all. subst (λ (m : Lane). AreStarts starts bytes before m.frames) same all.0)
entry_found before (l ∷ lanes) (suc k) lane d e =
    let rest = entry_found (before + length l.frames) lanes k lane d e in
    (rest.0, rest.1, λ starts bytes all. rest.2 starts bytes all.1)

pub is_entry : (first : ℕ) (entry : Entry) (lane : Lane) → entry ≡ entry_of first lane → IsEntry entry lane
is_entry first entry lane e = record {
  rank = ap (λ (x : Entry). x.rank) e;
  kind = ap (λ (x : Entry). x.kind) e;
  events = ap (λ (x : Entry). x.events) e;
  end = ap (λ (x : Entry). x.end) e;
}

-- ---- events

same_frame : (f g : Frame) → ◌≡◌ {A = Option Frame} (Some f) (Some g) → f ≡ g
same_frame f g e = cc

pub frame_there : (fs : List Frame) (n : ℕ) → n < length fs → (f : Frame) × (element fs n ≡ Some f)
frame_there [] n lt = absurd (omega arith)
frame_there (f ∷ fs) zero lt = (f, refl)
frame_there (f ∷ fs) (suc n) lt = frame_there fs n (omega arith)

-- the lane and the frame of an event that there is
pub record IsEvent (lanes : List Lane) (k n : ℕ) : Type 0 where
  pub lane : Lane
  pub frame : Frame
  pub on : element lanes k ≡ Some lane
  pub at : element lane.frames n ≡ Some frame

pub event_there : (lanes : List Lane) (k n : ℕ) → n < event_count lanes k → IsEvent lanes k n
event_there [] k n lt = absurd (omega arith)
event_there (l ∷ lanes) zero n lt =
    let f = frame_there l.frames n lt in
    record { lane = l; frame = f.0; on = refl; at = f.1 }
event_there (l ∷ lanes) (suc k) n lt =
    let e = event_there lanes k n lt in
    record { lane = e.lane; frame = e.frame; on = e.on; at = e.at }

pub in_lanes : (lanes : List Lane) (k n : ℕ) → n < event_count lanes k → k < length lanes
in_lanes [] k n lt = absurd (omega arith)
in_lanes (l ∷ lanes) zero n lt = omega arith
in_lanes (l ∷ lanes) (suc k) n lt = omega (arith, in_lanes lanes k n lt)

pub event_is : (lanes : List Lane) (k n : ℕ) (l : Lane) (f : Frame) → element lanes k ≡ Some l → element l.frames n ≡ Some f → event_of lanes k n ≡ Some (record { kind = l.kind; frame = f })
event_is lanes k n l f e1 e2 = rw (e1, e2) refl

-- whose lane it is
pub lane_of_rank : (lanes : List Lane) (rank k : ℕ) (l : Lane) → element lanes k ≡ Some l → is_lane_of lanes rank k ≡ eqb l.rank rank
lane_of_rank [] rank k l e = absurd cc
lane_of_rank (m ∷ lanes) rank zero l e = ap (λ (x : Lane). eqb x.rank rank) (same_lane m l e)
lane_of_rank (m ∷ lanes) rank (suc k) l e = lane_of_rank lanes rank k l e

pub no_lane : (lanes : List Lane) (rank k : ℕ) → length lanes ≤ k → is_lane_of lanes rank k ≡ false
no_lane [] rank k le = refl
no_lane (l ∷ lanes) rank zero le = absurd (omega arith)
no_lane (l ∷ lanes) rank (suc k) le = no_lane lanes rank k (omega arith)

-- ---- where an event begins

pub record StartsAt (lanes : List Lane) (starts bytes : List ℕ) (k n : ℕ) (entry : Entry) : Type 0 where
  pub within : entry.first + n < length starts
  pub seen : (l : Lane) (f : Frame) → element lanes k ≡ Some l → element l.frames n ≡ Some f → sight (drop (get_or starts (entry.first + n) 0) bytes) ≡ whole f (length (spelling f))

pub starts_at : (lanes : List Lane) (starts bytes : List ℕ) (k n : ℕ) (entry : Entry) → AreAllStarts starts bytes 0 lanes → n < event_count lanes k → entry ≡ get_or (entries_of 0 lanes) k entry → StartsAt lanes starts bytes k n entry
starts_at lanes starts bytes k n entry all lt is =
    let e = event_there lanes k n lt in
    let found = entry_found 0 lanes k e.lane entry e.on in
    let first : entry.first ≡ found.0 = ap (λ (x : Entry). x.first) (is ∙ found.1) in
    let here = found.2 starts bytes all n e.frame e.at in
    record {
      within = omega (arith, first, here.0);
      seen = λ l f on at.
          let found_l = entry_found 0 lanes k l entry on in
          let first_l : entry.first ≡ found_l.0 = ap (λ (x : Entry). x.first) (is ∙ found_l.1) in
          let here_l = found_l.2 starts bytes all n f at in
          subst (λ (m : ℕ). sight (drop (get_or starts (m + n) 0) bytes) ≡ whole f (length (spelling f))) (sym first_l) here_l.1;
    }

more_no_whole : (f : Frame) (n : ℕ) → more ≡ whole f n → ⊥
more_no_whole f n e = cc

-- a frame is seen within the bytes alone
pub in_bytes : (s : ℕ) (bytes : List ℕ) (f : Frame) (n : ℕ) → sight (drop s bytes) ≡ whole f n → s ≤ length bytes
in_bytes s bytes f n e =
    elim (cases_lt (length bytes) s) [
      | inl lt ↦ absurd (more_no_whole f n (sym (few_sight (drop s bytes) (omega (arith, length-drop s bytes))) ∙ e))
      | inr le ↦ le
    ]

pub is_whole : (s : Sight) (f : Frame) (n : ℕ) → s ≡ whole f n → IsWholeSight s
is_whole s f n e = subst (λ (t : Sight). IsWholeSight t) (sym e) tt

pub told_event : (lanes : List Lane) (k n : ℕ) (l : Lane) (f : Frame) → element lanes k ≡ Some l → element l.frames n ≡ Some f → IsToldEvent (told_lane lanes k) n l.kind f
told_event lanes k n l f e1 e2 = rw e1 (refl, e2)
