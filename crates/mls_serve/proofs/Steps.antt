-- What is kept from step to step of a lane that is served.
use Rattle.std.proofs.Common.{◌≡◌, ℕ, ◌+◌, ◌≤◌, List, [], ◌∷◌, ◌++◌, length, drop, map, Option, Some, None, refl, sym, ap, subst, ◌∙◌, inl, inr, append_assoc, append-nil, length-append, arith}
use Rattle.std.specs.List.{AllByRecursion}
use Rattle.std.proofs.lemmas.Grind.{flat_map-append}
use Rattle.mls_model.specs.declared.lanes.LaneEnd.{LaneEnd}
use Rattle.mls_model.specs.Numbers.{joined}
use Rattle.mls_model.specs.Frames.{Frame, IsFrame, spelling, Sight, whole, sight}
use Rattle.mls_model.specs.Lanes.{lane_frames, lane_rest}
use Rattle.mls_frame.specs.Views.{AreBytes}
use Rattle.mls_frame.specs.Feeding.{Fed, after_next, after_sight}
use Rattle.mls_frame.proofs.Takes.{seen_takes}
use Rattle.mls_tape.proofs.LaneLemmas.{lane_step, shorter}
use Rattle.mls_wire.specs.Links.{Talk}
use Rattle.mls_serve.specs.Posts.{Posted, posted, frame_posts, frames_posts}
use Rattle.mls_serve.specs.Readings.{HasRead, EndsReading, taken_of}
use Rattle.mls_serve.specs.declared.stepping.Step.{Step}
use Rattle.mls_serve.specs.declared.stepping.Step.TheVariants as steps
use Rattle.mls_serve.specs.Steps.{Moving, HasStepped, StepTook, StepRead, StepEnded, FrameStopped, ReadStopped, StepStopped}
use Rattle.mls_serve.specs.Serving.{FramesServed, FramesStopped}
use Rattle.mls_serve.proofs.Lanes.{bytes_behind, bytes_both, has_none, has_more, joined-append, all-append, are_all, begins_with}

pub posted-nil : (old : Option (List Posted)) → posted old [] ≡ old
posted-nil None = refl
posted-nil (Some before) = ap (λ (xs : List Posted). Some xs) (append-nil before)

pub posted-posted : (old : Option (List Posted)) (a b : List Posted) → posted (posted old a) b ≡ posted old (a ++ b)
posted-posted None a b = refl
posted-posted (Some before) a b = ap (λ (xs : List Posted). Some xs) (append_assoc before a b)

pub posts-append : (rank lane : ℕ) (fs gs : List Frame) → frames_posts rank lane (fs ++ gs) ≡ frames_posts rank lane fs ++ frames_posts rank lane gs
posts-append rank lane fs gs = flat_map-append (frame_posts rank lane) fs gs

-- These bytes were read since the start. With the first ones they are the spellings of these frames, which were posted, and
-- what the feeder holds.
pub record SoFar (rank lane head events : ℕ) (first : List ℕ) (start now : Moving) : Type 0 where
  pub bytes : List ℕ
  pub frames : List Frame
  pub read : HasRead bytes start.told now.told
  pub split : first ++ bytes ≡ joined (map spelling frames) ++ now.fed.rest
  pub each : AllByRecursion IsFrame frames
  pub offset : now.fed.offset ≡ head + length (joined (map spelling frames))
  pub count : events ≡ length frames
  pub posts : now.posts ≡ posted start.posts (frames_posts rank lane frames)
  pub faultless : now.faults ≡ start.faults

pub starts : (rank lane : ℕ) (start : Moving) → SoFar rank lane start.fed.offset 0 start.fed.rest start start
starts rank lane start = record {
  bytes = [];
  frames = [];
  read = has_none start.told;
  split = append-nil start.fed.rest;
  each = tt;
  offset = omega arith;
  count = refl;
  posts = sym (posted-nil start.posts);
  faultless = refl;
}

rest_fits : (first bytes rest : List ℕ) (frames : List Frame) → AreBytes first → AreBytes bytes → first ++ bytes ≡ joined (map spelling frames) ++ rest → AreBytes rest
rest_fits first bytes rest frames h k split = bytes_behind (joined (map spelling frames)) rest (subst AreBytes split (bytes_both first bytes h k))

-- the bytes that a frame takes
pub takes_some : (fed after : Fed) (f : Frame) (used : ℕ) → AreBytes fed.rest → sight fed.rest ≡ whole f used → after ≡ after_next fed → (5 ≤ used) × (after.offset ≡ fed.offset + used) × (used + length after.rest ≡ length fed.rest)
takes_some fed after f used h e is =
    let s : after ≡ after_sight (whole f used) fed = is ∙ ap (λ (s : Sight). after_sight s fed) e in
    let less = shorter fed.rest f used h e in (
      less.0,
      ap (λ (x : Fed). x.offset) s,
      omega (arith, less.1, ap (λ (x : Fed). length x.rest) s),
    )

pub took : (rank lane head events : ℕ) (first : List ℕ) (start now next : Moving) → AreBytes first → SoFar rank lane head events first start now → StepTook rank lane now next → SoFar rank lane head (events + 1) first start next
took rank lane head events first start now next fit so_far step =
    let f = step.took.frame in
    let used = step.took.used in
    let fs = so_far.frames in
    let rest = now.fed.rest in
    let h : AreBytes rest = rest_fits first so_far.bytes rest fs fit so_far.read.are_bytes so_far.split in
    let t = seen_takes rest f used h step.took.is_seen in
    let s : next.fed ≡ after_sight (whole f used) now.fed = step.fed ∙ ap (λ (s : Sight). after_sight s now.fed) step.took.is_seen in
    let left : drop used rest ≡ next.fed.rest = sym (ap (λ (x : Fed). x.rest) s) in
    let here : next.fed.offset ≡ now.fed.offset + used = ap (λ (x : Fed). x.offset) s in
    let all : joined (map spelling (fs ++ f ∷ [])) ≡ joined (map spelling fs) ++ spelling f = joined-append fs (f ∷ []) ∙ ap (λ (xs : List ℕ). joined (map spelling fs) ++ xs) (append-nil (spelling f)) in
    let posts = posts-append rank lane fs (f ∷ []) ∙ ap (λ (xs : List Posted). frames_posts rank lane fs ++ xs) (append-nil (frame_posts rank lane f)) in
    record {
      bytes = so_far.bytes;
      frames = fs ++ f ∷ [];
      read = subst (λ (o : Option Talk). HasRead so_far.bytes start.told o) (sym step.link) so_far.read;
      split = so_far.split ∙ ap (λ (xs : List ℕ). joined (map spelling fs) ++ xs) (t.split ∙ ap (λ (xs : List ℕ). spelling f ++ xs) left) ∙ sym (append_assoc (joined (map spelling fs)) (spelling f) next.fed.rest) ∙ ap (λ (xs : List ℕ). xs ++ next.fed.rest) (sym all);
      each = all-append fs (f ∷ []) so_far.each (t.fits, tt);
      offset = omega (arith, here, so_far.offset, ap length all, length-append (joined (map spelling fs)) (spelling f), t.taken);
      count = omega (arith, so_far.count, length-append fs (f ∷ []));
      posts = step.took.is_posted ∙ ap (λ o. posted o (frame_posts rank lane f)) so_far.posts ∙ posted-posted start.posts (frames_posts rank lane fs) (frame_posts rank lane f) ∙ ap (λ (xs : List Posted). posted start.posts xs) (sym posts);
      faultless = step.faultless ∙ so_far.faultless;
    }

pub more_came : (rank lane head events : ℕ) (first : List ℕ) (start now next : Moving) → SoFar rank lane head events first start now → StepRead head now next → SoFar rank lane head events first start next
more_came rank lane head events first start now next so_far step =
    let piece = step.read.piece in
    let fs = so_far.frames in
    let rest = now.fed.rest in
    let left : next.fed.rest ≡ rest ++ piece = ap (λ (x : Fed). x.rest) step.read.fed in
    let here : next.fed.offset ≡ now.fed.offset = ap (λ (x : Fed). x.offset) step.read.fed in
    record {
      bytes = so_far.bytes ++ piece;
      frames = fs;
      read = has_more so_far.bytes piece start.told now.told next.told so_far.read step.read.read;
      split = sym (append_assoc first so_far.bytes piece) ∙ ap (λ (xs : List ℕ). xs ++ piece) so_far.split ∙ append_assoc (joined (map spelling fs)) rest piece ∙ ap (λ (xs : List ℕ). joined (map spelling fs) ++ xs) (sym left);
      each = so_far.each;
      offset = here ∙ so_far.offset;
      count = so_far.count;
      posts = step.posts ∙ so_far.posts;
      faultless = step.faultless ∙ so_far.faultless;
    }

pub ends_same : (end : LaneEnd) (taken taken' size size' : ℕ) (rest rest' : List ℕ) (told now : Option Talk) (before before' after : ℕ) → taken ≡ taken' → rest ≡ rest' → size ≡ size' → before ≡ before' → EndsReading end taken rest size told now before after → EndsReading end taken' rest' size' told now before' after
ends_same end taken taken' size size' rest rest' told now before before' after a b c d h =
    subst (λ (n : ℕ). EndsReading end taken' rest' size' told now n after) d
    (subst (λ (n : ℕ). EndsReading end taken' rest' n told now before after) c
    (subst (λ (xs : List ℕ). EndsReading end taken' xs size told now before after) b
    (subst (λ (n : ℕ). EndsReading end n rest size told now before after) a h)))

pub all_served : (rank lane head events : ℕ) (end : LaneEnd) (first : List ℕ) (start now next : Moving) → AreBytes first → SoFar rank lane head events first start now → StepEnded end head now next → FramesServed rank lane events end first start next
all_served rank lane head events end first start now next fit so_far step =
    let bytes = first ++ so_far.bytes in
    let fs = so_far.frames in
    let a = are_all bytes fs now.fed.rest (bytes_both first so_far.bytes fit so_far.read.are_bytes) so_far.split so_far.each step.none in
    record {
      bytes = so_far.bytes;
      said = now.told;
      read = so_far.read;
      count = so_far.count ∙ ap (λ (gs : List Frame). length gs) (sym a.frames);
      ended = ends_same end _ (taken_of bytes) _ (length bytes) _ (lane_rest bytes) now.told next.told _ start.faults next.faults (omega (arith, so_far.offset, a.taken)) (sym a.rest_is) (omega (arith, so_far.offset, a.size)) so_far.faultless step.ended;
      posts = step.posts ∙ so_far.posts ∙ ap (λ (gs : List Frame). posted start.posts (frames_posts rank lane gs)) (sym a.frames);
    }

frame_stopped : (rank lane head events : ℕ) (first : List ℕ) (start now next : Moving) → AreBytes first → SoFar rank lane head events first start now → FrameStopped rank lane now next → FramesStopped rank lane first start next
frame_stopped rank lane head events first start now next fit so_far step =
    let f = step.lost.frame in
    let used = step.lost.used in
    let fs = so_far.frames in
    let rest = now.fed.rest in
    let part = step.lost.part in
    let h : AreBytes rest = rest_fits first so_far.bytes rest fs fit so_far.read.are_bytes so_far.split in
    let one = lane_step rest f used h step.lost.is_seen in
    let later = lane_frames (drop used rest) in
    let frames : lane_frames (first ++ so_far.bytes) ≡ fs ++ f ∷ later = begins_with (first ++ so_far.bytes) fs rest (bytes_both first so_far.bytes fit so_far.read.are_bytes) so_far.split so_far.each ∙ ap (λ (gs : List Frame). fs ++ gs) one.0 in
    let P = frames_posts rank lane in
    record {
      bytes = so_far.bytes;
      read = subst (λ (o : Option Talk). HasRead so_far.bytes start.told o) (sym step.link) so_far.read;
      part = record {
        front = P fs ++ part.front;
        rest = part.rest ++ P later;
        are_posts = append_assoc (P fs) part.front (part.rest ++ P later) ∙ ap (λ (xs : List Posted). P fs ++ xs) (sym (append_assoc part.front part.rest (P later)) ∙ ap (λ (xs : List Posted). xs ++ P later) part.are_posts) ∙ sym (posts-append rank lane fs (f ∷ later)) ∙ ap (λ (gs : List Frame). P gs) (sym frames);
        is_posted = part.is_posted ∙ ap (λ o. posted o part.front) so_far.posts ∙ posted-posted start.posts (P fs) part.front;
      };
    }

read_stopped : (rank lane head events : ℕ) (first : List ℕ) (start now next : Moving) → AreBytes first → SoFar rank lane head events first start now → ReadStopped now next → FramesStopped rank lane first start next
read_stopped rank lane head events first start now next fit so_far step =
    let piece = step.lost.piece in
    let fs = so_far.frames in
    let rest = now.fed.rest in
    let read = has_more so_far.bytes piece start.told now.told next.told so_far.read step.lost.read in
    let split : first ++ (so_far.bytes ++ piece) ≡ joined (map spelling fs) ++ (rest ++ piece) = sym (append_assoc first so_far.bytes piece) ∙ ap (λ (xs : List ℕ). xs ++ piece) so_far.split ∙ append_assoc (joined (map spelling fs)) rest piece in
    let later = lane_frames (rest ++ piece) in
    let frames : lane_frames (first ++ (so_far.bytes ++ piece)) ≡ fs ++ later = begins_with (first ++ (so_far.bytes ++ piece)) fs (rest ++ piece) (bytes_both first (so_far.bytes ++ piece) fit read.are_bytes) split so_far.each in
    let P = frames_posts rank lane in
    record {
      bytes = so_far.bytes ++ piece;
      read = read;
      part = record {
        front = P fs;
        rest = P later;
        are_posts = sym (posts-append rank lane fs later) ∙ ap (λ (gs : List Frame). P gs) (sym frames);
        is_posted = step.posts ∙ so_far.posts;
      };
    }

pub was_stopped : (rank lane head events : ℕ) (first : List ℕ) (start now next : Moving) → AreBytes first → SoFar rank lane head events first start now → StepStopped rank lane now next → FramesStopped rank lane first start next
was_stopped rank lane head events first start now next fit so_far step =
    elim step [
      | inl frame ↦ frame_stopped rank lane head events first start now next fit so_far frame
      | inr read ↦ read_stopped rank lane head events first start now next fit so_far read
    ]

pub still_fits : (rank lane head events : ℕ) (first : List ℕ) (start now : Moving) → AreBytes first → SoFar rank lane head events first start now → AreBytes now.fed.rest
still_fits rank lane head events first start now fit so_far = rest_fits first so_far.bytes now.fed.rest so_far.frames fit so_far.read.are_bytes so_far.split

-- how many bytes a frame takes
pub record TookSome (old new : Fed) : Type 0 where
  pub used : ℕ
  pub some : 5 ≤ used
  pub offset : new.offset ≡ old.offset + used
  pub rest : used + length new.rest ≡ length old.rest

pub took_some : (rank lane head events : ℕ) (first : List ℕ) (start now next : Moving) → AreBytes first → SoFar rank lane head events first start now → StepTook rank lane now next → TookSome now.fed next.fed
took_some rank lane head events first start now next fit so_far step =
    let t = takes_some now.fed next.fed step.took.frame step.took.used (still_fits rank lane head events first start now fit so_far) step.took.is_seen step.fed in
    record { used = step.took.used; some = t.0; offset = t.1; rest = t.2 }

-- what a step of a kind is
pub as_took : (s : Step) (rank lane head : ℕ) (old new : Moving) → s ≡ steps.Took → HasStepped s rank lane head old new → StepTook rank lane old new
as_took s rank lane head old new e h = subst (λ (x : Step). HasStepped x rank lane head old new) e h

pub as_read : (s : Step) (rank lane head : ℕ) (old new : Moving) → s ≡ steps.Read → HasStepped s rank lane head old new → StepRead head old new
as_read s rank lane head old new e h = subst (λ (x : Step). HasStepped x rank lane head old new) e h

pub as_ended : (s : Step) (end : LaneEnd) (rank lane head : ℕ) (old new : Moving) → s ≡ steps.Ended end → HasStepped s rank lane head old new → StepEnded end head old new
as_ended s end rank lane head old new e h = subst (λ (x : Step). HasStepped x rank lane head old new) e h
