-- A lane that is served whole, or stopped.
use Rattle.std.proofs.Common.{◌≡◌, ℕ, ◌<◌, Bool, true, false, not, nat_lt, ◌==◌, List, [], ◌∷◌, ◌++◌, length, take, Option, Some, None, IfSome, refl, sym, ap, subst, ◌∙◌, inl, inr, append_assoc, arith, Result, Ok, Err, IfOk, IfErr}
use Rattle.std.specs.List.{find}
use Rattle.std.proofs.lemmas.Bool.Decides.{nat_tests}
use Rattle.mls_base.specs.Told.{MayCease, Rose}
use Rattle.mls_model.specs.declared.lanes.LaneKind.TheVariants as kinds
use Rattle.mls_model.specs.declared.lanes.LaneEnd.{LaneEnd}
use Rattle.mls_model.specs.declared.lanes.LaneEnd.TheVariants as ends
use Rattle.mls_model.specs.Studies.{Sizes}
use Rattle.mls_model.specs.Blocks.{overlaps}
use Rattle.mls_model.specs.Frames.{Frame, piece, beat, bye, save, crash, hello, welcome, refuse, spelling}
use Rattle.mls_model.specs.Lanes.{lane_frames}
use Rattle.mls_frame.specs.Feeding.{Fed}
use Rattle.mls_wire.specs.Links.{Talk, after_read, after_write, SentFront}
use Rattle.mls_wire.specs.Sessions.{Line, line, decided, greeting}
use Rattle.mls_wire.specs.declared.greeting.Greeting.{Greeting}
use Rattle.mls_wire.specs.declared.greeting.Greeting.TheVariants as greetings
use Rattle.mls_serve.specs.declared.post.Note.TheVariants as notes
use Rattle.mls_serve.specs.declared.served.LaneFault.{LaneFault}
use Rattle.mls_serve.specs.declared.served.Served.{Served}
use Rattle.mls_serve.specs.declared.served.Served.TheVariants as served
use Rattle.mls_serve.specs.Posts.{Posted, noted, posted, PostedFront, frames_posts, end_posts, lane_posts}
use Rattle.mls_serve.specs.Readings.{HasRead, EndsReading, EndsLane}
use Rattle.mls_serve.specs.Steps.{Moving}
use Rattle.mls_serve.specs.Serving.{FramesServed, FramesStopped}
use Rattle.mls_serve.specs.declared.opening.Opening.{Opening}
use Rattle.mls_serve.specs.declared.opening.Opening.TheVariants as openings
use Rattle.mls_serve.specs.Openings.{Greeted, HasOpened, answer_of}
use Rattle.mls_serve.specs.Lanes.{LaneServed, LaneStopped, WelcomesBelow, GreetedServed, GreetedStopped, StoppedUnanswered, StoppedWelcomed, Talking, talking, Spoke, IsServed, IsStopped, StoppedEarly, StoppedLate}
use Rattle.mls_serve.proofs.Lanes.{has_none, has_more}
use Rattle.mls_serve.proofs.Steps.{posted-nil, posted-posted}

pub ceases-same : (o : Option Talk) → MayCease o o
ceases-same None = tt
ceases-same (Some talk) = refl

ceases-is : (old new : Option Talk) → new ≡ old → MayCease old new
ceases-is old new e = subst (λ (o : Option Talk). MayCease old o) (sym e) (ceases-same old)

-- at each end what is told is as before, or may have ceased
pub ends_cease : (end : LaneEnd) (taken : ℕ) (rest : List ℕ) (size : ℕ) (told now : Option Talk) (before after : ℕ) → EndsReading end taken rest size told now before after → MayCease told now
ends_cease ends.Clean taken rest size told now before after h = ceases-is told now h.link
ends_cease (ends.Cut at) taken rest size told now before after h = ceases-is told now h.link
ends_cease (ends.BadKind at) taken rest size told now before after h = ceases-is told now h.link
ends_cease (ends.BadLength at) taken rest size told now before after h = ceases-is told now h.link
ends_cease (ends.Fault at) taken rest size told now before after h = h.ceased
ends_cease (ends.Full at) taken rest size told now before after h = ceases-is told now h.link

-- posts after posts
pub posted_more : (old mid new : Option (List Posted)) (a b : List Posted) → mid ≡ posted old a → new ≡ posted mid b → new ≡ posted old (a ++ b)
posted_more old mid new a b p q = q ∙ ap (λ o. posted o b) p ∙ posted-posted old a b

pub front_more : (old mid new : Option (List Posted)) (a b : List Posted) → mid ≡ posted old a → PostedFront mid new b → PostedFront old new (a ++ b)
front_more old mid new a b p q = record {
  front = a ++ q.front;
  rest = q.rest;
  are_posts = append_assoc a q.front q.rest ∙ ap (λ (xs : List Posted). a ++ xs) q.are_posts;
  is_posted = posted_more old mid new a q.front p q.is_posted;
}

pub front_short : (old new : Option (List Posted)) (a b : List Posted) → PostedFront old new a → PostedFront old new (a ++ b)
front_short old new a b q = record {
  front = q.front;
  rest = q.rest ++ b;
  are_posts = sym (append_assoc q.front q.rest b) ∙ ap (λ (xs : List Posted). xs ++ b) q.are_posts;
  is_posted = q.is_posted;
}

pub front_none : (old new : Option (List Posted)) (a : List Posted) → new ≡ old → PostedFront old new a
front_none old new a e = record { front = []; rest = a; are_posts = refl; is_posted = e ∙ sym (posted-nil old) }

abbrev pub moving : Option Talk → ℕ → Option (List Posted) → Fed → Moving
moving told faults posts fed = record { told = told; faults = faults; posts = posts; fed = fed }

-- the sign at a lane's beginning
abbrev pub first_post : (group life : ℕ) → List Posted
first_post group life = noted (notes.Beat group life) ∷ []

pub lane_served : (group life rank lane events : ℕ) (end : LaneEnd) (first : List ℕ) (old next : Moving) (p q : Option (List Posted))
    → p ≡ posted old.posts (first_post group life)
    → FramesServed rank lane events end first (moving old.told old.faults p old.fed) next
    → q ≡ posted next.posts (end_posts rank)
    → LaneServed (record { lane = lane; rank = rank; kind = kinds.Client; events = events; end = end }) group life rank lane first old (moving next.told next.faults q next.fed)
lane_served group life rank lane events end first old next p q sign s last =
    let frames = frames_posts rank lane (lane_frames (first ++ s.bytes)) in
    record {
      bytes = s.bytes;
      said = s.said;
      read = s.read;
      is_line = ap (λ (n : ℕ). record { lane = lane; rank = rank; kind = kinds.Client; events = n; end = end }) s.count;
      ended = s.ended;
      posts = posted_more old.posts next.posts q (first_post group life ++ frames) (end_posts rank) (posted_more old.posts p next.posts (first_post group life) frames sign s.posts) last;
    }

-- the first sign wasn't posted
pub stopped_first : (group life rank lane : ℕ) (first : List ℕ) (old : Moving) (p : Option (List Posted)) (fed : Fed) → p ≡ old.posts → LaneStopped group life rank lane first old (moving old.told old.faults p fed)
stopped_first group life rank lane first old p fed same = record {
  bytes = [];
  said = old.told;
  read = has_none old.told;
  ceased = ceases-same old.told;
  part = front_none old.posts p _ same;
}

-- a frame wasn't posted, or memory ran out
pub stopped_between : (group life rank lane : ℕ) (first : List ℕ) (old next : Moving) (p : Option (List Posted))
    → p ≡ posted old.posts (first_post group life)
    → FramesStopped rank lane first (moving old.told old.faults p old.fed) next
    → LaneStopped group life rank lane first old next
stopped_between group life rank lane first old next p sign s =
    let frames = frames_posts rank lane (lane_frames (first ++ s.bytes)) in
    record {
      bytes = s.bytes;
      said = next.told;
      read = s.read;
      ceased = ceases-same next.told;
      part = front_more old.posts p next.posts (first_post group life) (frames ++ end_posts rank) sign (front_short p next.posts frames (end_posts rank) s.part);
    }

-- the end wasn't posted
pub stopped_last : (group life rank lane events : ℕ) (end : LaneEnd) (first : List ℕ) (old next : Moving) (p q : Option (List Posted))
    → p ≡ posted old.posts (first_post group life)
    → FramesServed rank lane events end first (moving old.told old.faults p old.fed) next
    → PostedFront next.posts q (end_posts rank)
    → LaneStopped group life rank lane first old (moving next.told next.faults q next.fed)
stopped_last group life rank lane events end first old next p q sign s last =
    let frames = frames_posts rank lane (lane_frames (first ++ s.bytes)) in
    record {
      bytes = s.bytes;
      said = s.said;
      read = s.read;
      ceased = ends_cease end _ _ _ s.said next.told old.faults next.faults s.ended;
      part = front_more old.posts next.posts q (first_post group life ++ frames) (end_posts rank) (posted_more old.posts p next.posts (first_post group life) frames sign s.posts) last;
    }

below_by : (b1 b2 b3 b4 b5 : Bool) (v1 v2 v3 v4 v5 group life client rank ranks : ℕ) → (b4 ≡ false → rank < ranks)
    → WelcomesBelow (decided (find (λ (l : Line). l.holds) (line b1 1 v1 ∷ line b2 2 v2 ∷ line b3 3 v3 ∷ line b4 4 v4 ∷ line b5 5 v5 ∷ [])) (greetings.Welcome group life client rank)) ranks
below_by true b2 b3 b4 b5 v1 v2 v3 v4 v5 group life client rank ranks h = tt
below_by false true b3 b4 b5 v1 v2 v3 v4 v5 group life client rank ranks h = tt
below_by false false true b4 b5 v1 v2 v3 v4 v5 group life client rank ranks h = tt
below_by false false false true b5 v1 v2 v3 v4 v5 group life client rank ranks h = tt
below_by false false false false true v1 v2 v3 v4 v5 group life client rank ranks h = tt
below_by false false false false false v1 v2 v3 v4 v5 group life client rank ranks h = h refl

is_below : (rank ranks : ℕ) → not (nat_lt rank ranks) ≡ false → rank < ranks
is_below rank ranks e = grind (arith, nat_tests)

-- a welcome is for one of the study's ranks
pub greets_below : (s : Sizes) (frame : Frame) → WelcomesBelow (greeting s frame) s.ranks
unfolding greeting
greets_below s (hello version group life client rank) =
    below_by (not (version == 1)) (not (nat_lt group s.groups)) (not (nat_lt client s.clients)) (not (nat_lt rank s.ranks)) (not (overlaps s rank client)) version group client rank client group life client rank s.ranks (is_below rank s.ranks)
greets_below s (piece p) = tt
greets_below s (beat group life) = tt
greets_below s (bye group life) = tt
greets_below s save = tt
greets_below s crash = tt
greets_below s (welcome lane) = tt
greets_below s (refuse reason value) = tt

commute : (o : Option Talk) (n : ℕ) (text : List ℕ) → after_read n (after_write text o) ≡ after_write text (after_read n o)
commute None n text = refl
commute (Some talk) n text = refl

left_same : (o : Option Talk) (text more : List ℕ) → IfSome (after_write text o) (λ talk. take (length more) talk.left ≡ more) → IfSome o (λ talk. take (length more) talk.left ≡ more)
left_same None text more h = tt
left_same (Some talk) text more h = h

-- bytes were read, a text was written, and then more bytes were read
pub spoke_more : (a b text : List ℕ) (old mid said : Option Talk) → HasRead a old mid → HasRead b (after_write text mid) said → Spoke (a ++ b) text old said
spoke_more a b text old mid said ra rb =
    let next : HasRead b mid (after_read (length b) mid) = record { told = refl; front = left_same mid text b rb.front; are_bytes = rb.are_bytes } in
    let both = has_more a b old mid (after_read (length b) mid) ra next in
    record { told = rb.told ∙ commute mid (length b) text ∙ ap (λ o. after_write text o) both.told; front = both.front }

spoke_after : (frame : Frame) (rest bytes text : List ℕ) (old mid said : Option Talk) → HasRead (spelling frame ++ rest) old mid → HasRead bytes (after_write text mid) said → Spoke (spelling frame ++ (rest ++ bytes)) text old said
spoke_after frame rest bytes text old mid said ra rb =
    subst (λ (xs : List ℕ). Spoke xs text old said) (append_assoc (spelling frame) rest bytes) (spoke_more (spelling frame ++ rest) bytes text old mid said ra rb)

spoke_only : (frame : Frame) (rest text : List ℕ) (old mid said : Option Talk) → HasRead (spelling frame ++ rest) old mid → said ≡ after_write text mid → Spoke (spelling frame ++ rest) text old said
spoke_only frame rest text old mid said ra e = record { told = e ∙ ap (λ o. after_write text o) ra.told; front = ra.front }

-- what a connection was whose first frame was greeted so
pub connection_served : (result : Served) (given : Greeting) (s : Sizes) (lane : ℕ) (old : Talking) (mid new : Moving)
    → Greeted given s old.told mid.told mid.fed → mid.faults ≡ old.faults → mid.posts ≡ old.posts
    → GreetedServed result given lane mid.fed.rest mid new
    → IsServed result s lane old (talking new.told new.faults new.posts)
connection_served (served.Lane line) given s lane old mid new g f p h =
    let l = h.lane_is in
    record {
      frame = g.frame;
      group = h.group;
      life = h.life;
      client = h.client;
      rank = h.rank;
      bytes = mid.fed.rest ++ l.bytes;
      said = l.said;
      welcomed = sym g.is_greeting ∙ h.welcomed;
      spoke = spoke_after g.frame mid.fed.rest l.bytes (spelling (welcome lane)) old.told mid.told l.said g.read l.read;
      is_line = l.is_line;
      ended = subst (λ (n : ℕ). EndsLane line.end (mid.fed.rest ++ l.bytes) l.said new.told n new.faults) f l.ended;
      posts = l.posts ∙ ap (λ o. posted o (lane_posts h.group h.life h.rank lane (lane_frames (mid.fed.rest ++ l.bytes)))) p;
    }
connection_served (served.Refused reason value) given s lane old mid new g f p h = record {
  frame = g.frame;
  bytes = mid.fed.rest;
  refused = sym g.is_greeting ∙ h.refused;
  spoke = spoke_only g.frame mid.fed.rest (spelling (refuse reason value)) old.told mid.told new.told g.read h.told;
  faultless = h.faultless ∙ f;
  posts = h.posts ∙ p;
}
connection_served (served.Early end) given s lane old mid new g f p h = record {
  cause = inr (record {
    frame = g.frame;
    bytes = mid.fed.rest;
    said = mid.told;
    is_end = h.is_end;
    read = g.read;
    front = subst (λ (x : Greeting). SentFront mid.told new.told (spelling (answer_of x lane))) g.is_greeting h.front;
    rose = subst (λ (n : ℕ). Rose n new.faults) f h.rose;
  });
  posts = h.posts ∙ p;
}

stopped_unanswered : (fault : LaneFault) (given : Greeting) (s : Sizes) (lane : ℕ) (old : Talking) (mid new : Moving)
    → Greeted given s old.told mid.told mid.fed → mid.faults ≡ old.faults → mid.posts ≡ old.posts
    → StoppedUnanswered fault mid new → StoppedEarly fault old (talking new.told new.faults new.posts)
stopped_unanswered fault given s lane old mid new g f p h = record {
  is_memory = h.is_memory;
  bytes = spelling g.frame ++ mid.fed.rest;
  read = subst (λ (o : Option Talk). HasRead (spelling g.frame ++ mid.fed.rest) old.told o) (sym h.link) g.read;
  faultless = h.faultless ∙ f;
  posts = h.posts ∙ p;
}

stopped_welcomed : (fault : LaneFault) (given : Greeting) (s : Sizes) (lane : ℕ) (old : Talking) (mid new : Moving)
    → Greeted given s old.told mid.told mid.fed → mid.faults ≡ old.faults → mid.posts ≡ old.posts
    → StoppedWelcomed fault given lane mid.fed.rest mid new → StoppedLate fault s lane old (talking new.told new.faults new.posts)
stopped_welcomed fault given s lane old mid new g f p h =
    let l = h.lane_is in
    record {
      frame = g.frame;
      group = h.group;
      life = h.life;
      client = h.client;
      bytes = mid.fed.rest ++ l.bytes;
      said = l.said;
      welcomed = sym g.is_greeting ∙ h.welcomed;
      spoke = spoke_after g.frame mid.fed.rest l.bytes (spelling (welcome lane)) old.told mid.told l.said g.read l.read;
      ceased = l.ceased;
      part = subst (λ (o : Option (List Posted)). PostedFront o new.posts (lane_posts h.group h.life fault.rank lane (lane_frames (mid.fed.rest ++ l.bytes)))) p l.part;
    }

-- and where it was stopped
pub connection_stopped : (fault : LaneFault) (given : Greeting) (s : Sizes) (lane : ℕ) (old : Talking) (mid new : Moving)
    → Greeted given s old.told mid.told mid.fed → mid.faults ≡ old.faults → mid.posts ≡ old.posts
    → GreetedStopped fault given lane mid.fed.rest mid new
    → IsStopped fault s lane old (talking new.told new.faults new.posts)
connection_stopped fault given s lane old mid new g f p h =
    elim h [
      | inl a ↦ inl (stopped_unanswered fault given s lane old mid new g f p a)
      | inr b ↦ inr (stopped_welcomed fault given s lane old mid new g f p b)
    ]

pub all_served : (r : Result Served LaneFault) (given : Greeting) (s : Sizes) (lane : ℕ) (old : Talking) (mid new : Moving)
    → Greeted given s old.told mid.told mid.fed → mid.faults ≡ old.faults → mid.posts ≡ old.posts
    → IfOk r (λ (x : Served). GreetedServed x given lane mid.fed.rest mid new)
    → IfOk r (λ (x : Served). IsServed x s lane old (talking new.told new.faults new.posts))
all_served (Ok x) given s lane old mid new g f p h = connection_served x given s lane old mid new g f p h
all_served (Err e) given s lane old mid new g f p h = tt

pub all_stopped : (r : Result Served LaneFault) (given : Greeting) (s : Sizes) (lane : ℕ) (old : Talking) (mid new : Moving)
    → Greeted given s old.told mid.told mid.fed → mid.faults ≡ old.faults → mid.posts ≡ old.posts
    → IfErr r (λ (x : LaneFault). GreetedStopped x given lane mid.fed.rest mid new)
    → IfErr r (λ (x : LaneFault). IsStopped x s lane old (talking new.told new.faults new.posts))
all_stopped (Ok x) given s lane old mid new g f p h = tt
all_stopped (Err e) given s lane old mid new g f p h = connection_stopped e given s lane old mid new g f p h

-- what a first frame leads to
pub as_greeted : (o : Opening) (given : Greeting) (s : Sizes) (old new : Option Talk) (before after : ℕ) (fed : Fed) → o ≡ openings.Greeted given → HasOpened o s old new before after fed → Greeted given s old new fed × (after ≡ before)
as_greeted o given s old new before after fed e h = subst (λ (x : Opening). HasOpened x s old new before after fed) e h
