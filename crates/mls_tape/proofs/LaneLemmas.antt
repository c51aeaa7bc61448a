-- The frames of a lane's bytes, one after another.
use Rattle.std.proofs.Common.{◌≡◌, ℕ, zero, suc, ◌+◌, ◌-◌, ◌≤◌, ◌<◌, Bool, true, cond, ltb, List, [], ◌∷◌, ◌++◌, length, drop, map, refl, sym, ap, subst, ◌∙◌, append_assoc, arith}
use Rattle.std.proofs.lemmas.List.{length-append}
use Rattle.std.proofs.lemmas.Bool.{lt-ltb}
use Rattle.mls_model.specs.Numbers.{joined}
use Rattle.mls_model.specs.Frames.{Frame, IsFrame, spelling, Sight, whole, more, bad, sight}
use Rattle.mls_model.specs.Lanes.{AreLaneEvents, frames_in, lane_frames, lane_rest}
use Rattle.mls_frame.specs.declared.frame_view.FrameView.{FrameView}
use Rattle.mls_frame.specs.declared.frame_view.Seen.{Seen}
use Rattle.mls_frame.specs.declared.frame_view.Seen.TheVariants as seen
use Rattle.mls_frame.specs.Views.{AreBytes, sight_of}
use Rattle.mls_frame.proofs.Places.{AreBytes-drop}
use Rattle.mls_tape.specs.Scans.{starts_from}
use Rattle.mls_frame.proofs.Takes.{seen_takes}
use Rattle.mls_frame.proofs.Theorems.{one_front, bad_begins, more_begins}
use Rattle.mls_frame.proofs.Within.{spelling-some}

-- no frame is seen
abbrev pub IsNone : Sight → Type 0
IsNone (whole f used) = ⊥
IsNone more = Unit {0}
IsNone (bad fault) = Unit {0}

pub whole_step : (n : ℕ) (bytes : List ℕ) (f : Frame) (used : ℕ) → sight bytes ≡ whole f used → frames_in (suc n) bytes ≡ (f ∷ (frames_in n (drop used bytes)).0, (frames_in n (drop used bytes)).1)
unfolding frames_in
whole_step n bytes f used e = rw (e, frames_in) refl

pub none_step : (n : ℕ) (bytes : List ℕ) (s : Sight) → sight bytes ≡ s → IsNone s → frames_in n bytes ≡ ([], bytes)
unfolding frames_in
none_step zero bytes s e none = refl
none_step (suc n) bytes (whole f used) e none = absurd none
none_step (suc n) bytes more e none = rw (e, frames_in) refl
none_step (suc n) bytes (bad fault) e none = rw (e, frames_in) refl

-- a frame takes some bytes
pub shorter : (bytes : List ℕ) (f : Frame) (used : ℕ) → AreBytes bytes → sight bytes ≡ whole f used → (5 ≤ used) × (used + length (drop used bytes) ≡ length bytes)
shorter bytes f used h e =
    let t = seen_takes bytes f used h e in
    (omega (arith, spelling-some f, t.taken), omega (arith, ap length t.split, length-append (spelling f) (drop used bytes), t.taken))

few_cond : (b : Bool) (x : Sight) → b ≡ true → cond b more x ≡ more
few_cond b x e = rw e refl

-- too few bytes
pub few_sight : (bytes : List ℕ) → length bytes < 4 → sight bytes ≡ more
unfolding sight
few_sight bytes lt = few_cond (ltb (length bytes) 4) _ (lt-ltb _ _ lt)

nothing_seen : (m : ℕ) (bytes : List ℕ) → length bytes ≤ 0 → frames_in m bytes ≡ ([], bytes)
nothing_seen m [] le = none_step m [] more (few_sight [] (omega arith)) tt
nothing_seen m (b ∷ bytes) le = absurd (omega arith)

same_fuel_step : (m n : ℕ) (bytes : List ℕ) (s : Sight) → AreBytes bytes → sight bytes ≡ s → ((rest : List ℕ) → AreBytes rest → length rest < length bytes → frames_in m rest ≡ frames_in n rest) → frames_in (suc m) bytes ≡ frames_in (suc n) bytes
same_fuel_step m n bytes (whole f used) h e later =
    let less = shorter bytes f used h e in
    let rest = later (drop used bytes) (AreBytes-drop used bytes h) (omega (arith, less.0, less.1)) in
    whole_step m bytes f used e ∙ ap (λ (p : List Frame × List ℕ). (f ∷ p.0, p.1)) rest ∙ sym (whole_step n bytes f used e)
same_fuel_step m n bytes more h e later = none_step (suc m) bytes more e tt ∙ sym (none_step (suc n) bytes more e tt)
same_fuel_step m n bytes (bad fault) h e later = none_step (suc m) bytes (bad fault) e tt ∙ sym (none_step (suc n) bytes (bad fault) e tt)

-- more frames than bytes needn't be asked for
pub same_fuel : (m n : ℕ) (bytes : List ℕ) → AreBytes bytes → length bytes ≤ m → length bytes ≤ n → frames_in m bytes ≡ frames_in n bytes
same_fuel zero n bytes h p q = nothing_seen 0 bytes p ∙ sym (nothing_seen n bytes p)
same_fuel (suc m) zero bytes h p q = nothing_seen (suc m) bytes q ∙ sym (nothing_seen 0 bytes q)
same_fuel (suc m) (suc n) bytes h p q =
    same_fuel_step m n bytes (sight bytes) h refl (λ rest bytes-fit less. same_fuel m n rest bytes-fit (omega arith) (omega arith))

-- a lane whose front is a frame
pub lane_step : (bytes : List ℕ) (f : Frame) (used : ℕ) → AreBytes bytes → sight bytes ≡ whole f used → (lane_frames bytes ≡ f ∷ lane_frames (drop used bytes)) × (lane_rest bytes ≡ lane_rest (drop used bytes))
lane_step bytes f used h e =
    let less = shorter bytes f used h e in
    let up : length bytes ≡ suc (length bytes - 1) = omega (arith, less.0, less.1) in
    let one : frames_in (length bytes) bytes ≡ (f ∷ (frames_in (length bytes - 1) (drop used bytes)).0, (frames_in (length bytes - 1) (drop used bytes)).1) = ap (λ (n : ℕ). frames_in n bytes) up ∙ whole_step (length bytes - 1) bytes f used e in
    let rest : frames_in (length bytes - 1) (drop used bytes) ≡ frames_in (length (drop used bytes)) (drop used bytes) = same_fuel (length bytes - 1) (length (drop used bytes)) (drop used bytes) (AreBytes-drop used bytes h) (omega (arith, less.0, less.1)) (omega arith) in (
      ap (λ (p : List Frame × List ℕ). p.0) one ∙ ap (λ (p : List Frame × List ℕ). f ∷ p.0) rest,
      ap (λ (p : List Frame × List ℕ). p.1) one ∙ ap (λ (p : List Frame × List ℕ). p.1) rest,
    )

-- a lane whose front is none
pub lane_stop : (bytes : List ℕ) (s : Sight) → sight bytes ≡ s → IsNone s → (lane_frames bytes ≡ []) × (lane_rest bytes ≡ bytes)
lane_stop bytes s e none =
    let one = none_step (length bytes) bytes s e none in
    (ap (λ (p : List Frame × List ℕ). p.0) one, ap (λ (p : List Frame × List ℕ). p.1) one)

-- ---- the lane's events

no_more : (bytes : List ℕ) (s : Sight) → sight bytes ≡ s → IsNone s → (f : Frame) (tail : List ℕ) → IsFrame f → bytes ≡ spelling f ++ tail → ⊥
no_more bytes (whole f used) e none g tail fits is = absurd none
no_more bytes more e none f tail fits is = more_begins bytes f tail e fits is
no_more bytes (bad fault) e none f tail fits is = bad_begins bytes fault f tail e fits is

no_events : (bytes : List ℕ) (s : Sight) → sight bytes ≡ s → IsNone s → AreLaneEvents bytes [] bytes
no_events bytes s e none = record { split = refl; each = tt; longest = no_more bytes s e none }

one_more_event : (bytes rest : List ℕ) (f : Frame) (fs : List Frame) (left : List ℕ) → IsFrame f → bytes ≡ spelling f ++ rest → AreLaneEvents rest fs left → AreLaneEvents bytes (f ∷ fs) left
one_more_event bytes rest f fs left fits is later = record {
  split = is ∙ ap (λ (t : List ℕ). spelling f ++ t) later.split ∙ sym (append_assoc (spelling f) (joined (map spelling fs)) left);
  each = (fits, later.each);
  longest = later.longest;
}

events_step : (n : ℕ) (bytes : List ℕ) (s : Sight) → AreBytes bytes → sight bytes ≡ s → ((rest : List ℕ) → AreBytes rest → length rest < length bytes → AreLaneEvents rest (frames_in n rest).0 (frames_in n rest).1) → AreLaneEvents bytes (frames_in (suc n) bytes).0 (frames_in (suc n) bytes).1
events_step n bytes (whole f used) h e later =
    let less = shorter bytes f used h e in
    let t = seen_takes bytes f used h e in
    let rest = later (drop used bytes) (AreBytes-drop used bytes h) (omega (arith, less.0, less.1)) in
    subst (λ (p : List Frame × List ℕ). AreLaneEvents bytes p.0 p.1) (sym (whole_step n bytes f used e)) (one_more_event bytes (drop used bytes) f (frames_in n (drop used bytes)).0 (frames_in n (drop used bytes)).1 t.fits t.split rest)
events_step n bytes more h e later = subst (λ (p : List Frame × List ℕ). AreLaneEvents bytes p.0 p.1) (sym (none_step (suc n) bytes more e tt)) (no_events bytes more e tt)
events_step n bytes (bad fault) h e later = subst (λ (p : List Frame × List ℕ). AreLaneEvents bytes p.0 p.1) (sym (none_step (suc n) bytes (bad fault) e tt)) (no_events bytes (bad fault) e tt)

events_of : (n : ℕ) (bytes : List ℕ) → AreBytes bytes → length bytes ≤ n → AreLaneEvents bytes (frames_in n bytes).0 (frames_in n bytes).1
events_of zero bytes h le = subst (λ (p : List Frame × List ℕ). AreLaneEvents bytes p.0 p.1) (sym (nothing_seen 0 bytes le)) (no_events bytes more (few_sight bytes (omega arith)) tt)
events_of (suc n) bytes h le = events_step n bytes (sight bytes) h refl (λ rest bytes-fit less. events_of n rest bytes-fit (omega arith))

-- the computed events are the lane's
pub lane_events : (bytes : List ℕ) → AreBytes bytes → AreLaneEvents bytes (lane_frames bytes) (lane_rest bytes)
lane_events bytes h = events_of (length bytes) bytes h (omega arith)

-- a lane has one list of events
pub same_events : (bytes : List ℕ) (fs gs : List Frame) (r s : List ℕ) → AreLaneEvents bytes fs r → AreLaneEvents bytes gs s → (fs ≡ gs) × (r ≡ s)
same_events bytes [] [] r s a b = (refl, sym a.split ∙ b.split)
same_events bytes [] (g ∷ gs) r s a b = absurd (a.longest g (joined (map spelling gs) ++ s) b.each.0 (sym a.split ∙ b.split ∙ append_assoc (spelling g) (joined (map spelling gs)) s))
same_events bytes (f ∷ fs) [] r s a b = absurd (b.longest f (joined (map spelling fs) ++ r) a.each.0 (sym b.split ∙ a.split ∙ append_assoc (spelling f) (joined (map spelling fs)) r))
same_events bytes (f ∷ fs) (g ∷ gs) r s a b =
    let both : spelling f ++ (joined (map spelling fs) ++ r) ≡ spelling g ++ (joined (map spelling gs) ++ s) = sym (append_assoc (spelling f) (joined (map spelling fs)) r) ∙ sym a.split ∙ b.split ∙ append_assoc (spelling g) (joined (map spelling gs)) s in
    let first = one_front f g (joined (map spelling fs) ++ r) (joined (map spelling gs) ++ s) a.each.0 b.each.0 both in
    let rest = same_events (joined (map spelling fs) ++ r) fs gs r s (record { split = refl; each = a.each.1; longest = a.longest }) (record { split = first.1; each = b.each.1; longest = b.longest }) in
    (cc, rest.1)

-- ---- a scan's step and its end

-- one more frame of the rest
pub record IsStep (bytes : List ℕ) (f : Frame) (used : ℕ) : Type 0 where
  pub frames : lane_frames bytes ≡ f ∷ lane_frames (drop used bytes)
  pub rest : lane_rest bytes ≡ lane_rest (drop used bytes)
  pub taken : used ≡ length (spelling f)
  pub count : length (lane_frames bytes) ≡ suc (length (lane_frames (drop used bytes)))
  pub size : length (joined (map spelling (lane_frames bytes))) ≡ used + length (joined (map spelling (lane_frames (drop used bytes))))
  pub left : used + length (drop used bytes) ≡ length bytes
  pub some : 5 ≤ used

pub is_step : (bytes : List ℕ) (f : Frame) (used : ℕ) → AreBytes bytes → sight bytes ≡ whole f used → IsStep bytes f used
is_step bytes f used h e =
    let s = lane_step bytes f used h e in
    let t = seen_takes bytes f used h e in
    let less = shorter bytes f used h e in
    record {
      frames = s.0;
      rest = s.1;
      taken = t.taken;
      count = ap length s.0;
      size = ap (λ (fs : List Frame). length (joined (map spelling fs))) s.0 ∙ omega (arith, length-append (spelling f) (joined (map spelling (lane_frames (drop used bytes)))), t.taken);
      left = less.1;
      some = less.0;
    }

-- what was seen is no frame
none_of : (s : Seen) → ((frame : FrameView) (used : ℕ) → s ≡ seen.Whole frame used → ⊥) → IsNone (sight_of s)
none_of (seen.Whole frame used) h = h frame used refl
none_of seen.More h = tt
none_of (seen.Bad fault) h = tt

pub stops : (bytes : List ℕ) (s : Seen) → sight_of s ≡ sight bytes → ((frame : FrameView) (used : ℕ) → s ≡ seen.Whole frame used → ⊥) → (lane_frames bytes ≡ []) × (lane_rest bytes ≡ bytes)
stops bytes s e h = lane_stop bytes (sight_of s) (sym e) (none_of s h)

pub starts_step : (found : List ℕ) (at : ℕ) (bytes : List ℕ) (f : Frame) (used : ℕ) → IsStep bytes f used → (found ++ at ∷ []) ++ starts_from (at + used) (lane_frames (drop used bytes)) ≡ found ++ starts_from at (lane_frames bytes)
starts_step found at bytes f used s =
    append_assoc found (at ∷ []) (starts_from (at + used) (lane_frames (drop used bytes)))
    ∙ ap (λ (n : ℕ). found ++ at ∷ starts_from (at + n) (lane_frames (drop used bytes))) s.taken
    ∙ ap (λ (fs : List Frame). found ++ starts_from at fs) (sym s.frames)
