-- A lane's frames and its end.
use Rattle.std.proofs.Common.{◌≡◌, ℕ, ◌+◌, ◌≤◌, Bool, true, false, List, [], ◌∷◌, ◌++◌, length, take, Option, Some, IfSome, refl, sym, ap, subst, ◌∙◌, inl, inr, append_assoc, arith}
use Rattle.std.proofs.lemmas.Bool.{true≢false}
use Rattle.std.proofs.lemmas.List.{append-nil}
use Rattle.mls_model.specs.Studies.{Sizes}
use Rattle.mls_model.specs.Frames.{Frame, spelling}
use Rattle.mls_model.specs.declared.lanes.LaneLine.{LaneLine}
use Rattle.mls_model.specs.declared.lanes.LaneKind.TheVariants as kinds
use Rattle.mls_model.specs.declared.lanes.LaneEnd.{LaneEnd}
use Rattle.mls_wire.specs.declared.greeting.Greeting.{Greeting}
use Rattle.mls_poll.specs.declared.outside.PollLink as link
use Rattle.mls_poll.specs.Streams.{StreamView, HasGiven, EndsBy, EndsLane, OfRead}
use Rattle.mls_hub.specs.declared.connection.Connection.{Connection}
use Rattle.mls_hub.specs.declared.connection.Stage.{Stage}
use Rattle.mls_hub.specs.declared.connection.Stage.TheVariants as stages
use Rattle.mls_hub.specs.Connections.{IsAt, IsWelcomed, Says, IsConnected, EndsAs, answer_of, behind, is_live}
use Rattle.mls_hub.proofs.Leaving.{welcomed_of}

-- the same connection at another stage
same_has : {L : Type 0} (U : link.Ghosts L) (given : List Frame) (old new : StreamView L) → new ≡ old → HasGiven (U.told old.link) old.offset old.held given → HasGiven (U.told new.link) new.offset new.held given
same_has {L} U given old new e h = subst (λ (v : StreamView L). HasGiven (U.told v.link) v.offset v.held given) (sym e) h

same_ends : {L : Type 0} (U : link.Ghosts L) (end : LaneEnd) (given : List Frame) (mid new : Connection L) → new.stream ≡ mid.stream → EndsAs U end given mid → EndsAs U end given new
same_ends {L} U end given mid new e h = record {
  before = h.before;
  ends = subst (λ (v : StreamView L). EndsBy end v.offset v.held (v.offset + length v.held) (U.told v.link) h.before (U.faults v.link)) (sym e) h.ends;
  lane = subst (λ (v : StreamView L). OfRead (U.told v.link) (λ bytes. EndsLane end given (U.told v.link) h.before (U.faults v.link) bytes)) (sym e) h.lane;
}

-- a frame that was heard is one more of the lane's
pub frame_heard : {L : Type 0} (U : link.Ghosts L) (s : Sizes) (lane rank head : ℕ) (given frames : List Frame) (frame : Frame) (c : Connection L) → c.stage ≡ stages.Lane rank head → c.stream.ended ≡ false → Says U s true lane given frames (frame ∷ []) c → IsConnected U s true lane (frames ++ frame ∷ []) c
frame_heard U s lane rank head given frames frame c stage open_ says =
    let w = welcomed_of U s true lane rank head c.stage given frames (frame ∷ []) c stage says.stage in
    record {
      given = given;
      says = record {
        has = says.has;
        said = says.said;
        fits = says.fits;
        stage = subst (λ (st : Stage). IsAt U s true lane st given (frames ++ frame ∷ []) [] c) (sym stage) (record {
          first = w.first;
          group = w.group;
          life = w.life;
          client = w.client;
          welcomed = w.welcomed;
          within = w.within;
          given_are = w.given_are ∙ ap (λ (fs : List Frame). w.first ∷ fs) (sym (append-nil (frames ++ frame ∷ [])));
          head_is = w.head_is;
          answered = w.answered;
          whole = w.whole;
        });
      };
      live = λ l. open_;
    }

-- a frame that was heard and not taken is lost
pub frame_lost : {L : Type 0} (U : link.Ghosts L) (s : Sizes) (lane rank head : ℕ) (given frames : List Frame) (frame : Frame) (mid new : Connection L) → mid.stage ≡ stages.Lane rank head → Says U s true lane given frames (frame ∷ []) mid
    → new.stream ≡ mid.stream → new.answer.items ≡ mid.answer.items → new.written ≡ mid.written → new.stage ≡ stages.Stopped → IsConnected U s false lane frames new
frame_lost {L} U s lane rank head given frames frame mid new stage says stream answer written stopped =
    let w = welcomed_of U s true lane rank head mid.stage given frames (frame ∷ []) mid stage says.stage in
    record {
      given = given;
      says = record {
        has = same_has U given mid.stream new.stream stream says.has;
        said = subst (λ (v : StreamView L). IfSome (U.told v.link) (λ talk. talk.written ≡ take new.written new.answer.items)) (sym stream)
            (subst (λ (n : ℕ). IfSome (U.told mid.stream.link) (λ talk. talk.written ≡ take n new.answer.items)) (sym written)
            (subst (λ (xs : List ℕ). IfSome (U.told mid.stream.link) (λ talk. talk.written ≡ take mid.written xs)) (sym answer) says.said));
        fits = subst (λ (n : ℕ). n ≤ length new.answer.items) (sym written) (subst (λ (xs : List ℕ). mid.written ≤ length xs) (sym answer) says.fits);
        stage = subst (λ (st : Stage). IsAt U s false lane st given frames [] new) (sym stopped) (
          refl,
          record {
            first = w.first;
            lost = frame ∷ [];
            given_are = w.given_are;
            answered = inr (answer ∙ w.answered ∙ ap (λ (x : Greeting). spelling (answer_of x lane)) (sym w.welcomed));
          },
        );
      };
      live = λ l. absurd (true≢false (sym l ∙ ap is_live stopped));
    }

-- a lane that ended has its line
pub lane_ended : {L : Type 0} (U : link.Ghosts L) (s : Sizes) (lane rank head events : ℕ) (given frames : List Frame) (end : LaneEnd) (line : LaneLine) (mid new : Connection L) → mid.stage ≡ stages.Lane rank head → Says U s true lane (given ++ []) frames [] mid → EndsAs U end given mid
    → line ≡ record { lane = lane; rank = rank; kind = kinds.Client; events = events; end = behind head end } → events ≡ length frames
    → new.stream ≡ mid.stream → new.answer.items ≡ mid.answer.items → new.written ≡ mid.written → new.stage ≡ stages.Ended (Some line) → IsConnected U s true lane frames new
lane_ended {L} U s lane rank head events given frames end line mid new stage says ends is count stream answer written ended =
    let all : List Frame = given ++ [] in
    let w = welcomed_of U s true lane rank head mid.stage all frames [] mid stage says.stage in
    let at_rank : IsWelcomed s lane line.rank head all frames [] new.answer.items new.written =
    subst (λ (r : ℕ). IsWelcomed s lane r head all frames [] new.answer.items new.written) (sym (ap (λ (l : LaneLine). l.rank) is))
    (subst (λ (n : ℕ). IsWelcomed s lane rank head all frames [] new.answer.items n) (sym written)
    (subst (λ (xs : List ℕ). IsWelcomed s lane rank head all frames [] xs mid.written) (sym answer) w)) in
    let ends' : EndsAs U end all mid = subst (λ (fs : List Frame). EndsAs U end fs mid) (sym (append-nil given)) ends in
    record {
      given = all;
      says = record {
        has = same_has U all mid.stream new.stream stream says.has;
        said = subst (λ (v : StreamView L). IfSome (U.told v.link) (λ talk. talk.written ≡ take new.written new.answer.items)) (sym stream)
            (subst (λ (n : ℕ). IfSome (U.told mid.stream.link) (λ talk. talk.written ≡ take n new.answer.items)) (sym written)
            (subst (λ (xs : List ℕ). IfSome (U.told mid.stream.link) (λ talk. talk.written ≡ take mid.written xs)) (sym answer) says.said));
        fits = subst (λ (n : ℕ). n ≤ length new.answer.items) (sym written) (subst (λ (xs : List ℕ). mid.written ≤ length xs) (sym answer) says.fits);
        stage = subst (λ (st : Stage). IsAt U s true lane st all frames [] new) (sym ended) (record {
          head = head;
          end = end;
          welcomed = at_rank;
          number = ap (λ (l : LaneLine). l.lane) is;
          kind = ap (λ (l : LaneLine). l.kind) is;
          events = ap (λ (l : LaneLine). l.events) is ∙ count;
          ended = same_ends U end all mid new stream ends';
          end_is = ap (λ (l : LaneLine). l.end) is;
        });
      };
      live = λ l. absurd (true≢false (sym l ∙ ap is_live ended));
    }

-- nothing was heard
pub nothing_heard : {L : Type 0} (U : link.Ghosts L) (s : Sizes) (lane : ℕ) (given frames : List Frame) (c : Connection L) → c.stream.ended ≡ false → Says U s true lane (given ++ []) frames [] c → IsConnected U s true lane frames c
nothing_heard U s lane given frames c open_ says = record { given = given ++ []; says = says; live = λ l. open_ }

-- a connection whose frame is lost
abbrev pub stopped_at : {L : Type 0} → Connection L → Connection L
stopped_at c = record { stream = c.stream; stage = stages.Stopped; answer = c.answer; written = c.written }

-- a connection whose lane ended with a line
abbrev pub ended_at : {L : Type 0} → Connection L → LaneLine → Connection L
ended_at c line = record { stream = c.stream; stage = stages.Ended (Some line); answer = c.answer; written = c.written }
