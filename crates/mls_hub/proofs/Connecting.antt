-- What becomes of a connection.
use Rattle.std.proofs.Common.{◌≡◌, ℕ, ◌+◌, ◌<◌, ◌≤◌, zero, suc, Bool, true, false, not, nat_lt, ◌==◌, List, [], ◌∷◌, ◌++◌, length, take, map, Option, Some, None, IfSome, refl, sym, ap, subst, ◌∙◌, inl, inr, append_assoc, arith}
use Rattle.std.specs.List.{find}
use Rattle.std.proofs.lemmas.Bool.{true≢false}
use Rattle.std.proofs.lemmas.Bool.Decides.{nat_tests}
use Rattle.std.proofs.lemmas.List.{append-nil}
use Rattle.mls_base.specs.Told.{MayCease}
use Rattle.mls_model.specs.Numbers.{joined}
use Rattle.mls_model.specs.Studies.{Sizes}
use Rattle.mls_model.specs.Blocks.{overlaps}
use Rattle.mls_model.specs.Frames.{Frame, piece, beat, bye, save, crash, hello, welcome, refuse, spelling}
use Rattle.mls_wire.specs.Links.{Talk}
use Rattle.mls_wire.specs.Sessions.{Line, line, decided, greeting}
use Rattle.mls_wire.specs.declared.greeting.Greeting.{Greeting}
use Rattle.mls_wire.specs.declared.greeting.Greeting.TheVariants as greetings
use Rattle.mls_poll.specs.declared.outside.PollLink as link
use Rattle.mls_poll.specs.Reads.{HasRead}
use Rattle.mls_poll.specs.Streams.{StreamView, HasGiven, Leaves, ReadsOn}
use Rattle.mls_hub.specs.declared.connection.Connection.{Connection}
use Rattle.mls_hub.specs.declared.connection.Stage.{Stage}
use Rattle.mls_hub.specs.declared.connection.Stage.TheVariants as stages
use Rattle.mls_hub.specs.Connections.{WelcomesBelow, answer_of, stage_after, IsUnanswered, IsGreeted, IsAt, Says, WroteMore, listens}

below_by : (b1 b2 b3 b4 b5 : Bool) (v1 v2 v3 v4 v5 group life client rank ranks : ℕ) → (b4 ≡ false → rank < ranks)
    → WelcomesBelow (decided (find (λ (l : Line). l.holds) (line b1 1 v1 ∷ line b2 2 v2 ∷ line b3 3 v3 ∷ line b4 4 v4 ∷ line b5 5 v5 ∷ [])) (greetings.Welcome group life client rank)) ranks
below_by true b2 b3 b4 b5 v1 v2 v3 v4 v5 group life client rank ranks h = tt
below_by false true b3 b4 b5 v1 v2 v3 v4 v5 group life client rank ranks h = tt
below_by false false true b4 b5 v1 v2 v3 v4 v5 group life client rank ranks h = tt
below_by false false false true b5 v1 v2 v3 v4 v5 group life client rank ranks h = tt
below_by false false false false true v1 v2 v3 v4 v5 group life client rank ranks h = tt
below_by false false false false false v1 v2 v3 v4 v5 group life client rank ranks h = h refl

is_below : (rank ranks : ℕ) → not (nat_lt rank ranks) ≡ false → rank < ranks
is_below rank ranks e = grind (arith, nat_tests)

-- a welcome is for one of the study's ranks
pub greets_below : (s : Sizes) (frame : Frame) → WelcomesBelow (greeting s frame) s.ranks
unfolding greeting
greets_below s (hello version group life client rank) =
    below_by (not (version == 1)) (not (nat_lt group s.groups)) (not (nat_lt client s.clients)) (not (nat_lt rank s.ranks)) (not (overlaps s rank client)) version group client rank client group life client rank s.ranks (is_below rank s.ranks)
greets_below s (piece p) = tt
greets_below s (beat group life) = tt
greets_below s (bye group life) = tt
greets_below s save = tt
greets_below s crash = tt
greets_below s (welcome lane) = tt
greets_below s (refuse reason value) = tt

-- what was written is as before after a read, where it is told
said_left : (fault : Bool) (mid new : Option Talk) (bytes : List ℕ) → Leaves fault mid new → IfSome mid (λ talk. talk.written ≡ bytes) → IfSome new (λ talk. talk.written ≡ bytes)
said_left true mid None bytes leaves said = tt
said_left true mid (Some new) bytes leaves said = subst (λ (o : Option Talk). IfSome o (λ talk. talk.written ≡ bytes)) leaves said
said_left false mid new bytes leaves said = subst (λ (o : Option Talk). IfSome o (λ talk. talk.written ≡ bytes)) (sym leaves) said

said_read : (taken : List ℕ) (old mid : Option Talk) (bytes : List ℕ) → HasRead taken old mid → IfSome old (λ talk. talk.written ≡ bytes) → IfSome mid (λ talk. talk.written ≡ bytes)
said_read taken None None bytes read said = tt
said_read taken None (Some mid) bytes read said = absurd read
said_read taken (Some old) None bytes read said = tt
said_read taken (Some old) (Some mid) bytes read said = read.written ∙ said

pub said_reads : (fault : Bool) (old new : Option Talk) (bytes : List ℕ) → ReadsOn fault old new → IfSome old (λ talk. talk.written ≡ bytes) → IfSome new (λ talk. talk.written ≡ bytes)
said_reads fault old new bytes reads said = said_left fault reads.mid new bytes reads.leaves (said_read reads.piece old reads.mid bytes reads.read said)

-- the stage of a connection that gave more frames
at_more : {L : Type 0} (U : link.Ghosts L) (s : Sizes) (lane : ℕ) (stage : Stage) (given frames more : List Frame) (old new : Connection L) → listens stage ≡ true → new.answer.items ≡ old.answer.items → new.written ≡ old.written
    → IsAt U s true lane stage given frames [] old → IsAt U s true lane stage (given ++ more) frames more new
at_more U s lane stages.Opening given frames more old new hears answer written at = record {
  given_are = ap (λ (fs : List Frame). fs ++ more) at.given_are;
  none = at.none;
  unsaid = answer ∙ at.unsaid;
}
at_more U s lane (stages.Answering given_as) given frames more old new hears answer written at = absurd (true≢false (sym hears))
at_more U s lane (stages.Lane rank head) given frames more old new hears answer written at = record {
  first = at.first;
  group = at.group;
  life = at.life;
  client = at.client;
  welcomed = at.welcomed;
  within = at.within;
  given_are = ap (λ (fs : List Frame). fs ++ more) at.given_are ∙ ap (λ (fs : List Frame). at.first ∷ (fs ++ more)) (append-nil frames);
  head_is = at.head_is;
  answered = answer ∙ at.answered;
  whole = written ∙ (at.whole ∙ ap length (sym answer));
}
at_more U s lane stages.Stopped given frames more old new hears answer written at = absurd (true≢false (sym hears))
at_more U s lane (stages.Ended line) given frames more old new hears answer written at = absurd (true≢false (sym hears))

-- a connection that gave more frames
pub says_more : {L : Type 0} (U : link.Ghosts L) (s : Sizes) (lane : ℕ) (given frames more : List Frame) (c new : Connection L) (fault : Bool) → listens c.stage ≡ true → ReadsOn fault (U.told c.stream.link) (U.told new.stream.link)
    → HasGiven (U.told new.stream.link) new.stream.offset new.stream.held (given ++ more) → new.stage ≡ c.stage → new.answer.items ≡ c.answer.items → new.written ≡ c.written → Says U s true lane given frames [] c → Says U s true lane (given ++ more) frames more new
says_more {L} U s lane given frames more c new fault hears reads has stage answer written says = record {
  has = has;
  said = subst (λ (n : ℕ). IfSome (U.told new.stream.link) (λ talk. talk.written ≡ take n new.answer.items)) (sym written)
      (subst (λ (xs : List ℕ). IfSome (U.told new.stream.link) (λ talk. talk.written ≡ take c.written xs)) (sym answer)
      (said_reads fault (U.told c.stream.link) (U.told new.stream.link) (take c.written c.answer.items) reads says.said));
  fits = subst (λ (n : ℕ). n ≤ length new.answer.items) (sym written) (subst (λ (xs : List ℕ). c.written ≤ length xs) (sym answer) says.fits);
  stage = subst (λ (st : Stage). IsAt U s true lane st (given ++ more) frames more new) (sym stage) (at_more U s lane c.stage given frames more c new hears answer written says.stage);
}

take_nil : (n : ℕ) → take {A = ℕ} n [] ≡ []
take_nil zero = refl
take_nil (suc n) = refl

-- what was written where nothing is answered yet
said_none : (told : Option Talk) (written : ℕ) (answer : List ℕ) → answer ≡ [] → IfSome told (λ talk. talk.written ≡ take written answer) → IfSome told (λ talk. talk.written ≡ [])
said_none None written answer none said = tt
said_none (Some talk) written answer none said = said ∙ ap (λ (xs : List ℕ). take written xs) none ∙ take_nil written

opening_of : {L : Type 0} (U : link.Ghosts L) (s : Sizes) (lane : ℕ) (given frames lost : List Frame) (c : Connection L) → c.stage ≡ stages.Opening → IsAt U s true lane c.stage given frames lost c → IsUnanswered given frames lost c.answer.items
opening_of U s lane given frames lost c stage at = subst (λ (st : Stage). IsAt U s true lane st given frames lost c) stage at

-- the first frame is greeted
pub says_greeted : {L : Type 0} (U : link.Ghosts L) (s : Sizes) (lane : ℕ) (given : List Frame) (frame : Frame) (c new : Connection L) (given_as : Greeting) → c.stage ≡ stages.Opening → given_as ≡ greeting s frame → new.stage ≡ stages.Answering given_as → new.answer.items ≡ spelling (answer_of given_as lane) → new.written ≡ 0 → new.stream ≡ c.stream
    → Says U s true lane given [] (frame ∷ []) c → Says U s true lane given [] [] new
says_greeted {L} U s lane given frame c new given_as opening greets stage answer written stream says =
    let at = opening_of U s lane given [] (frame ∷ []) c opening says.stage in
    let none = said_none (U.told c.stream.link) c.written c.answer.items at.unsaid says.said in
    record {
      has = subst (λ (v : StreamView L). HasGiven (U.told v.link) v.offset v.held given) (sym stream) says.has;
      said = subst (λ (n : ℕ). IfSome (U.told new.stream.link) (λ talk. talk.written ≡ take n new.answer.items)) (sym written)
          (subst (λ (v : StreamView L). IfSome (U.told v.link) (λ talk. talk.written ≡ [])) (sym stream) none);
      fits = omega (arith, written);
      stage = subst (λ (st : Stage). IsAt U s true lane st given [] [] new) (sym stage) (record {
        first = frame;
        greets = greets;
        within = subst (λ (x : Greeting). WelcomesBelow x s.ranks) (sym greets) (greets_below s frame);
        given_are = at.given_are;
        none = refl;
        answered = answer;
      });
    }

-- the bytes of the first frame
first_bytes : (told : Option Talk) (offset : ℕ) (held : List ℕ) (given : List Frame) (first : Frame) → HasGiven told offset held given → given ≡ first ∷ [] → offset ≡ length (spelling first)
first_bytes told offset held given first has are =
    has.taken ∙ ap (λ (fs : List Frame). length (joined (map spelling fs))) are ∙ ap length (append-nil (spelling first))

at_replied : {L : Type 0} (U : link.Ghosts L) (s : Sizes) (lane : ℕ) (given frames : List Frame) (given_as : Greeting) (old : List ℕ) (new : Connection L) (offset : ℕ) → IsGreeted s lane given_as given frames [] old → new.answer.items ≡ old → new.written ≡ length new.answer.items
    → ((first : Frame) → given ≡ first ∷ [] → offset ≡ length (spelling first)) → IsAt U s true lane (stage_after given_as offset) given frames [] new
at_replied U s lane given frames (greetings.Welcome group life client rank) old new offset at answer whole size = record {
  first = at.first;
  group = group;
  life = life;
  client = client;
  welcomed = sym at.greets;
  within = at.within;
  given_are = at.given_are ∙ ap (λ (fs : List Frame). at.first ∷ (fs ++ [])) (sym at.none);
  head_is = size at.first at.given_are;
  answered = answer ∙ at.answered;
  whole = whole;
}
at_replied U s lane given frames (greetings.Refuse reason value) old new offset at answer whole size = inr (record {
  first = at.first;
  given_are = at.given_are;
  none = at.none;
  answered = answer ∙ at.answered ∙ ap (λ (x : Greeting). spelling (answer_of x lane)) at.greets;
  unwelcomed = inr (reason, (value, sym at.greets));
})

answering_of : {L : Type 0} (U : link.Ghosts L) (s : Sizes) (lane : ℕ) (given frames : List Frame) (given_as : Greeting) (c : Connection L) → c.stage ≡ stages.Answering given_as → IsAt U s true lane c.stage given frames [] c → IsGreeted s lane given_as given frames [] c.answer.items
answering_of U s lane given frames given_as c stage at = subst (λ (st : Stage). IsAt U s true lane st given frames [] c) stage at

-- the answer was written
pub says_replied : {L : Type 0} (U : link.Ghosts L) (s : Sizes) (lane : ℕ) (given frames : List Frame) (c mid new : Connection L) (given_as : Greeting) → c.stage ≡ stages.Answering given_as → WroteMore U c mid → mid.written ≡ length mid.answer.items
    → new.stream ≡ mid.stream → new.stage ≡ stage_after given_as mid.stream.offset → new.answer.items ≡ mid.answer.items → new.written ≡ mid.written → Says U s true lane given frames [] c → Says U s true lane given frames [] new
says_replied {L} U s lane given frames c mid new given_as was wrote whole stream stage answer written says =
    let at = answering_of U s lane given frames given_as c was says.stage in
    let has = wrote.given given says.has in
    record {
      has = subst (λ (v : StreamView L). HasGiven (U.told v.link) v.offset v.held given) (sym stream) has;
      said = subst (λ (v : StreamView L). IfSome (U.told v.link) (λ talk. talk.written ≡ take new.written new.answer.items)) (sym stream)
          (subst (λ (n : ℕ). IfSome (U.told mid.stream.link) (λ talk. talk.written ≡ take n new.answer.items)) (sym written)
          (subst (λ (xs : List ℕ). IfSome (U.told mid.stream.link) (λ talk. talk.written ≡ take mid.written xs)) (sym answer) (wrote.said says.said)));
      fits = subst (λ (n : ℕ). n ≤ length new.answer.items) (sym written) (subst (λ (xs : List ℕ). mid.written ≤ length xs) (sym answer) wrote.fits);
      stage = subst (λ (st : Stage). IsAt U s true lane st given frames [] new) (sym stage)
          (at_replied U s lane given frames given_as c.answer.items new mid.stream.offset at (answer ∙ wrote.answer) (written ∙ whole ∙ ap length (sym answer)) (λ first are. first_bytes (U.told mid.stream.link) mid.stream.offset mid.stream.held given first has are));
    }
