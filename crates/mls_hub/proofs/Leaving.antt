-- What a step of a connection leaves of a hub.
use Rattle.std.proofs.Common.{◌≡◌, ◌≢◌, ℕ, zero, suc, ◌+◌, ◌^◌, ◌<◌, ◌≤◌, Bool, true, false, List, [], ◌∷◌, ◌++◌, length, map, Option, Some, None, refl, sym, ap, subst, ◌∙◌, inl, inr, ◌⊎◌, length-append, arith}
use Rattle.std.proofs.lemmas.Bool.{true≢false}
use Rattle.std.proofs.lemmas.List.{append-nil}
use Rattle.mls_base.specs.declared.outside.Keeper as keeper
use Rattle.mls_model.specs.Studies.{Sizes}
use Rattle.mls_model.specs.Numbers.{element, times, joined}
use Rattle.mls_model.specs.Frames.{Frame, spelling}
use Rattle.mls_model.specs.declared.lanes.LaneLine.{LaneLine}
use Rattle.mls_model.specs.declared.lanes.LaneKind.TheVariants as kinds
use Rattle.mls_model.specs.declared.lanes.LaneEnd.{LaneEnd}
use Rattle.mls_frame.proofs.Within.{spelling-some}
use Rattle.mls_wire.specs.Links.{Talk}
use Rattle.mls_wire.specs.Sessions.{greeting}
use Rattle.mls_wire.specs.declared.greeting.Greeting.{Greeting}
use Rattle.mls_wire.specs.declared.greeting.Greeting.TheVariants as greetings
use Rattle.mls_tape.specs.declared.wire.Wire.{Wire}
use Rattle.mls_tape.specs.Wires.{wire_lanes}
use Rattle.mls_field.specs.declared.fold.RowFold.{Ghosts}
use Rattle.mls_held.specs.declared.run.Run as run
use Rattle.mls_poll.specs.declared.outside.PollLink as link
use Rattle.mls_poll.specs.Streams.{HasGiven}
use Rattle.mls_hub.specs.declared.connection.Connection.{Connection}
use Rattle.mls_hub.specs.declared.connection.Stage.{Stage}
use Rattle.mls_hub.specs.declared.connection.Stage.TheVariants as stages
use Rattle.mls_hub.specs.declared.faults.Fault.{Fault}
use Rattle.mls_hub.specs.Lanes.{save_event, client_event, with_frames}
use Rattle.mls_hub.specs.Books.{WireBook, OneMoved, GoOn, TookAt, RefusedAt}
use Rattle.mls_hub.specs.Connections.{IsAt, IsWelcomed, Says, IsConnected, IsOf, EndsAs, KeepsLane, is_live, is_answering, answer_of, behind}
use Rattle.mls_hub.specs.Halls.{HallSays, HallKept, Leaves, StageAt}
use Rattle.mls_hub.proofs.Elements.{within, some_element}
use Rattle.mls_hub.proofs.Seats.{all_same, took_goes, refused_goes}
use Rattle.mls_hub.proofs.Hallways.{weaker, as_strong, says_moved, says_frame, says_saved, says_refused, says_weaker}

-- nothing was taken of a connection that is answered
answering_none : {L : Type 0} (U : link.Ghosts L) (s : Sizes) (lane : ℕ) (stage : Stage) (given frames lost : List Frame) (c : Connection L) → is_answering stage ≡ true → IsAt U s true lane stage given frames lost c → frames ≡ []
answering_none U s lane stages.Opening given frames lost c answers at = absurd (true≢false (sym answers))
answering_none U s lane (stages.Answering given_as) given frames lost c answers at = at.none
answering_none U s lane (stages.Lane rank head) given frames lost c answers at = absurd (true≢false (sym answers))
answering_none U s lane stages.Stopped given frames lost c answers at = absurd (true≢false (sym answers))
answering_none U s lane (stages.Ended line) given frames lost c answers at = absurd (true≢false (sym answers))

pub welcomed_of : {L : Type 0} (U : link.Ghosts L) (s : Sizes) (going : Bool) (lane rank head : ℕ) (stage : Stage) (given frames lost : List Frame) (c : Connection L) → stage ≡ stages.Lane rank head → IsAt U s going lane stage given frames lost c → IsWelcomed s lane rank head given frames lost c.answer.items c.written
welcomed_of U s going lane rank head stage given frames lost c e at = subst (λ (st : Stage). IsAt U s going lane st given frames lost c) e at

-- frames have more bytes than they are
few_frames : (frames : List Frame) → length frames ≤ length (joined (map spelling frames))
few_frames [] = omega arith
few_frames (f ∷ fs) =
    let more = few_frames fs in
    let some = spelling-some f in
    let all = length-append (spelling f) (joined (map spelling fs)) in
    omega (arith, more, some, all)

pub few_events : (told : Option Talk) (offset : ℕ) (held : List ℕ) (given frames : List Frame) (first : Frame) → HasGiven told offset held given → given ≡ first ∷ (frames ++ []) → offset + length held ≤ 1073741824 → length frames < 2 ^ 32
few_events told offset held given frames first has are few =
    let size = has.taken in
    let all = few_frames given in
    let same = ap length are in
    let nil = ap length (append-nil frames) in
    omega (arith, size, all, same, nil, few)

module _ {L F K R : Type 0} (U : link.Ghosts L) (T : Ghosts F) (W : keeper.Ghosts K) (N : run.Ghosts R) where
  keeps_lane : (books : List (WireBook F K)) (connections : List (Connection L)) (frames : ℕ → List Frame) (i : ℕ) (before now : Connection L) → HallSays U T W N true books connections frames → element connections i ≡ Some before → KeepsLane before.stage now.stage
      → (rank : ℕ) → IsOf now.stage rank → IsOf before.stage rank ⊎ (frames (N.sizes.ranks + i) ≡ [])
  keeps_lane books connections frames i before now h was lane rank of = elim (lane rank of) [
    | inl mine ↦ inl mine
    | inr answers ↦ (let con = h.each i before was in inr (answering_none U N.sizes (N.sizes.ranks + i) before.stage con.given (frames (N.sizes.ranks + i)) [] before answers con.says.stage))
  ]

  -- one connection changed, and nothing was offered
  pub leaves_moved : (after : Bool) (books : List (WireBook F K)) (old new : List (Connection L)) (i : ℕ) (before now : Connection L)
      → ((lane : ℕ) (own : List Frame) (c : Connection L) → IsConnected U N.sizes true lane own c → IsConnected U N.sizes after lane own c)
      → OneMoved i old new → element old i ≡ Some before → element new i ≡ Some now → ((frames : List Frame) → IsConnected U N.sizes true (N.sizes.ranks + i) frames before → IsConnected U N.sizes after (N.sizes.ranks + i) frames now)
      → KeepsLane before.stage now.stage → HallKept U T W N true books old → Leaves U T W N after i books books old new
  leaves_moved after books old new i before now weak moved was is con lane kept = record {
    kept = record {
      frames = kept.frames;
      says = says_moved U T W N after books old new kept.frames i before now weak moved was is (con (kept.frames (N.sizes.ranks + i)) (kept.says.each i before was)) (keeps_lane books old kept.frames i before now kept.says was lane) kept.says;
    };
    go_on = all_same W books;
    moved = moved;
  }

  -- a frame was heard and taken
  pub leaves_frame : (old_books new_books : List (WireBook F K)) (old new : List (Connection L)) (i lane rank head : ℕ) (before now : Connection L) (frame : Frame) → lane ≡ N.sizes.ranks + i
      → OneMoved i old new → element old i ≡ Some before → element new i ≡ Some now → before.stage ≡ stages.Lane rank head → now.stage ≡ stages.Lane rank head
      → TookAt T W rank lane (client_event frame) old_books new_books
      → ((frames : List Frame) → IsConnected U N.sizes true (N.sizes.ranks + i) frames before → IsConnected U N.sizes true (N.sizes.ranks + i) (frames ++ frame ∷ []) now)
      → HallKept U T W N true old_books old → Leaves U T W N true i old_books new_books old new
  leaves_frame old_books new_books old new i lane rank head before now frame number moved was is stage stage' took con kept =
      let took' : TookAt T W rank (N.sizes.ranks + i) (client_event frame) old_books new_books = subst (λ (k : ℕ). TookAt T W rank k (client_event frame) old_books new_books) number took in
      record {
        kept = record {
          frames = with_frames kept.frames (N.sizes.ranks + i) (kept.frames (N.sizes.ranks + i) ++ frame ∷ []);
          says = says_frame U T W N old_books new_books old new kept.frames i rank head before now frame moved was is stage stage' took' (con (kept.frames (N.sizes.ranks + i)) (kept.says.each i before was)) kept.says;
        };
        go_on = took_goes T W rank lane (client_event frame) old_books new_books took;
        moved = moved;
      }

  -- a frame was heard and not taken
  pub leaves_lost : (old_books new_books : List (WireBook F K)) (old new : List (Connection L)) (i rank : ℕ) (fault : Fault) (before now : Connection L)
      → OneMoved i old new → element old i ≡ Some before → element new i ≡ Some now → RefusedAt T W rank fault old_books new_books
      → ((frames : List Frame) → IsConnected U N.sizes true (N.sizes.ranks + i) frames before → IsConnected U N.sizes false (N.sizes.ranks + i) frames now)
      → KeepsLane before.stage now.stage → HallKept U T W N true old_books old → Leaves U T W N false i old_books new_books old new
  leaves_lost old_books new_books old new i rank fault before now moved was is refused con lane kept = record {
    kept = record {
      frames = kept.frames;
      says = says_refused U T W N false old_books new_books new kept.frames rank fault refused
          (says_moved U T W N false old_books old new kept.frames i before now (weaker U N.sizes) moved was is (con (kept.frames (N.sizes.ranks + i)) (kept.says.each i before was)) (keeps_lane old_books old kept.frames i before now kept.says was lane) kept.says);
    };
    go_on = refused_goes T W rank fault old_books new_books refused;
    moved = moved;
  }

  -- how often a lane of a rank was taken
  count_at : (books : List (WireBook F K)) (connections : List (Connection L)) (frames : ℕ → List Frame) (i lane rank head events : ℕ) (c : Connection L) (book : WireBook F K) → lane ≡ N.sizes.ranks + i → element connections i ≡ Some c → c.stage ≡ stages.Lane rank head → element books rank ≡ Some book
      → ((b : WireBook F K) → element books rank ≡ Some b → events ≡ times lane b.journal) → HallSays U T W N true books connections frames → events ≡ length (frames (N.sizes.ranks + i))
  count_at books connections frames i lane rank head events c book number at stage there each h =
      let mine : IsOf c.stage rank = subst (λ (st : Stage). IsOf st rank) (sym stage) refl in
      each book there ∙ ap (λ (k : ℕ). times k book.journal) number ∙ h.taken i c rank book at mine there

  -- a lane ended, and its rank's save was taken or refused
  pub leaves_ended : (old_books new_books : List (WireBook F K)) (old new : List (Connection L)) (i lane rank head events : ℕ) (before now : Connection L) → lane ≡ N.sizes.ranks + i → rank < N.sizes.ranks
      → OneMoved i old new → element old i ≡ Some before → element new i ≡ Some now → before.stage ≡ stages.Lane rank head
      → ((b : WireBook F K) → element old_books rank ≡ Some b → events ≡ times lane b.journal) → TookAt T W rank rank save_event old_books new_books
      → ((frames : List Frame) → events ≡ length frames → IsConnected U N.sizes true (N.sizes.ranks + i) frames before → IsConnected U N.sizes true (N.sizes.ranks + i) frames now)
      → KeepsLane before.stage now.stage → HallKept U T W N true old_books old → Leaves U T W N true i old_books new_books old new
  leaves_ended old_books new_books old new i lane rank head events before now number lt moved was is stage each took con own kept =
      let count = count_at old_books old kept.frames i lane rank head events before took.before number was stage took.was each kept.says in
      record {
        kept = record {
          frames = kept.frames;
          says = says_saved U T W N true old_books new_books new kept.frames rank lt took
              (says_moved U T W N true old_books old new kept.frames i before now (as_strong U N.sizes) moved was is (con (kept.frames (N.sizes.ranks + i)) count (kept.says.each i before was)) (keeps_lane old_books old kept.frames i before now kept.says was own) kept.says);
        };
        go_on = took_goes T W rank rank save_event old_books new_books took;
        moved = moved;
      }

  pub leaves_unsaved : (old_books new_books : List (WireBook F K)) (old new : List (Connection L)) (i lane rank head events : ℕ) (fault : Fault) (before now : Connection L) → lane ≡ N.sizes.ranks + i
      → OneMoved i old new → element old i ≡ Some before → element new i ≡ Some now → before.stage ≡ stages.Lane rank head
      → ((b : WireBook F K) → element old_books rank ≡ Some b → events ≡ times lane b.journal) → RefusedAt T W rank fault old_books new_books
      → ((frames : List Frame) → events ≡ length frames → IsConnected U N.sizes true (N.sizes.ranks + i) frames before → IsConnected U N.sizes true (N.sizes.ranks + i) frames now)
      → KeepsLane before.stage now.stage → HallKept U T W N true old_books old → Leaves U T W N false i old_books new_books old new
  leaves_unsaved old_books new_books old new i lane rank head events fault before now number moved was is stage each refused con own kept =
      let count = count_at old_books old kept.frames i lane rank head events before refused.before number was stage refused.was each kept.says in
      record {
        kept = record {
          frames = kept.frames;
          says = says_refused U T W N false old_books new_books new kept.frames rank fault refused
              (says_weaker U T W N old_books new kept.frames
              (says_moved U T W N true old_books old new kept.frames i before now (as_strong U N.sizes) moved was is (con (kept.frames (N.sizes.ranks + i)) count (kept.says.each i before was)) (keeps_lane old_books old kept.frames i before now kept.says was own) kept.says));
        };
        go_on = refused_goes T W rank fault old_books new_books refused;
        moved = moved;
      }

  -- the rank of a lane is one of the books', and its number one of the lanes'
  pub rank_there : (books : List (WireBook F K)) (connections : List (Connection L)) (i rank head : ℕ) (c : Connection L) → element connections i ≡ Some c → c.stage ≡ stages.Lane rank head → HallKept U T W N true books connections → rank < N.sizes.ranks
  rank_there books connections i rank head c at stage kept =
      let con = kept.says.each i c at in
      (welcomed_of U N.sizes true (N.sizes.ranks + i) rank head c.stage con.given (kept.frames (N.sizes.ranks + i)) [] c stage con.says.stage).within

  pub book_there : (books : List (WireBook F K)) (connections : List (Connection L)) (rank : ℕ) → rank < N.sizes.ranks → HallKept U T W N true books connections → rank < length books
  book_there books connections rank lt kept = let count = kept.says.count in omega (arith, lt, count)

  pub lane_there : (books : List (WireBook F K)) (connections : List (Connection L)) (i lane rank : ℕ) (book : WireBook F K) → lane ≡ N.sizes.ranks + i → i < length connections → HallKept U T W N true books connections → element books rank ≡ Some book → lane < wire_lanes book.lanes
  lane_there books connections i lane rank book number here kept at =
      let room = kept.says.room in
      let lanes : wire_lanes book.lanes ≡ N.lane_count = ap (λ (w : Wire). wire_lanes w) (kept.says.seated rank book at).lanes in
      omega (arith, number, here, room, lanes)

  pub control_there : (books : List (WireBook F K)) (connections : List (Connection L)) (rank : ℕ) (book : WireBook F K) → rank < N.sizes.ranks → HallKept U T W N true books connections → element books rank ≡ Some book → rank < wire_lanes book.lanes
  control_there books connections rank book lt kept at =
      let room = kept.says.room in
      let lanes : wire_lanes book.lanes ≡ N.lane_count = ap (λ (w : Wire). wire_lanes w) (kept.says.seated rank book at).lanes in
      omega (arith, lt, room, lanes)

  -- a lane that ended had fewer frames than a line counts
  pub events_fit : (books : List (WireBook F K)) (connections : List (Connection L)) (i lane rank head events : ℕ) (before mid : Connection L) → lane ≡ N.sizes.ranks + i → element connections i ≡ Some before → before.stage ≡ stages.Lane rank head → mid.stage ≡ stages.Lane rank head
      → ((b : WireBook F K) → element books rank ≡ Some b → events ≡ times lane b.journal) → mid.stream.offset + length mid.stream.held ≤ 1073741824
      → ((given frames : List Frame) → Says U N.sizes true (N.sizes.ranks + i) given frames [] before → Says U N.sizes true (N.sizes.ranks + i) (given ++ []) frames [] mid)
      → HallKept U T W N true books connections → events < 2 ^ 32
  events_fit books connections i lane rank head events before mid number at stage stage' each few heard kept =
      let own = kept.frames (N.sizes.ranks + i) in
      let con = kept.says.each i before at in
      let lt = rank_there books connections i rank head before at stage kept in
      let book = some_element books rank (book_there books connections rank lt kept) in
      let count = count_at books connections kept.frames i lane rank head events before book.0 number at stage book.1 each kept.says in
      let says = heard con.given own con.says in
      let w = welcomed_of U N.sizes true (N.sizes.ranks + i) rank head mid.stage (con.given ++ []) own [] mid stage' says.stage in
      let small = few_events (U.told mid.stream.link) mid.stream.offset mid.stream.held (con.given ++ []) own w.first says.has w.given_are few in
      omega (arith, count, small)
