-- Steps of a connection, one after another.
use Rattle.std.proofs.Common.{◌≡◌, ◌≢◌, ℕ, ◌+◌, ◌<◌, ◌≤◌, Bool, true, false, List, [], ◌∷◌, ◌++◌, length, get_or, set, Option, Some, Result, Ok, Err, IfOk, refl, sym, ap, subst, ◌∙◌, append_assoc, length-append, arith}
use Rattle.std.specs.Prelude.{OnOk, OnErr}
use Rattle.futures.specs.declared.task.Poll.{Poll}
use Rattle.futures.specs.declared.task.Poll.TheVariants.{Ready, Pending}
use Rattle.futures.specs.Poll.{OnPending}
use Rattle.std.proofs.lemmas.Bool.{true≢false}
use Rattle.std.proofs.lemmas.List.{append-nil}
use Rattle.mls_base.specs.declared.outside.Keeper as keeper
use Rattle.mls_base.specs.Told.{Rose}
use Rattle.mls_model.specs.Studies.{Sizes}
use Rattle.mls_model.specs.Numbers.{element}
use Rattle.mls_model.specs.Frames.{Frame}
use Rattle.mls_field.specs.declared.fold.RowFold.{Ghosts}
use Rattle.mls_held.specs.declared.run.Run as run
use Rattle.mls_poll.specs.declared.outside.PollLink as link
use Rattle.mls_poll.specs.Streams.{HasGiven}
use Rattle.mls_hub.specs.declared.connection.Connection.{Connection}
use Rattle.mls_hub.specs.declared.connection.Stage.{Stage}
use Rattle.mls_hub.specs.declared.connection.Stage.TheVariants as stages
use Rattle.mls_hub.specs.declared.hall.Went.{Went}
use Rattle.mls_hub.specs.declared.hall.Went.TheVariants as went
use Rattle.mls_hub.specs.declared.faults.Fault.{Fault}
use Rattle.mls_hub.specs.Books.{WireBook}
use Rattle.mls_hub.specs.Connections.{IsAt, IsConnected, Gave, IsLane, has_end}
use Rattle.mls_hub.specs.Halls.{Leaves, GaveAt, WaitedAt, EndsAt, StageAt, HasGone}
use Rattle.mls_hub.proofs.Elements.{same_element, element_set_same, more_moved}
use Rattle.mls_hub.proofs.Seats.{go_further}

pub on_pending : {A : Type 0} (r : Poll A) (P : Type 0) → P → OnPending r P
on_pending (Ready x) P p = tt
on_pending Pending P p = p

-- a hub that goes on has no connection that was stopped
pub not_stopped : {L : Type 0} (U : link.Ghosts L) (s : Sizes) (lane : ℕ) (frames : List Frame) (c : Connection L) → IsConnected U s true lane frames c → c.stage ≢ stages.Stopped
not_stopped U s lane frames c con e = true≢false (subst (λ (st : Stage). IsAt U s true lane st con.given frames [] c) e con.says.stage).0

-- what becomes of a connection, told by its lane's place
pub at_lane : {L : Type 0} (U : link.Ghosts L) (s s' : Sizes) (after : Bool) (lane i : ℕ) (before now : Connection L) → s ≡ s' → lane ≡ s.ranks + i → ((frames : List Frame) → IsConnected U s true lane frames before → IsConnected U s after lane frames now)
    → (frames : List Frame) → IsConnected U s' true (s'.ranks + i) frames before → IsConnected U s' after (s'.ranks + i) frames now
at_lane U s s' after lane i before now e at f frames con =
    let place : lane ≡ s'.ranks + i = at ∙ ap (λ (x : Sizes). x.ranks + i) e in
    let there : IsConnected U s true lane frames before = subst (λ (x : Sizes). IsConnected U x true lane frames before) (sym e) (subst (λ (n : ℕ). IsConnected U s' true n frames before) (sym place) con) in
    subst (λ (n : ℕ). IsConnected U s' after n frames now) place (subst (λ (x : Sizes). IsConnected U x after lane frames now) e (f frames there))

pub stage_at : {L : Type 0} (connections : List (Connection L)) (i : ℕ) (now : Connection L) (stage : Stage) → i < length connections → now.stage ≡ stage → StageAt stage i (set connections i now)
stage_at {L} connections i now stage here e c at = ap (λ (x : Connection L). x.stage) (sym (same_element (set connections i now) i now c (element_set_same connections i now here) at)) ∙ e

pub ends_at : {L : Type 0} (connections : List (Connection L)) (i : ℕ) (now : Connection L) → i < length connections → has_end now.stage ≡ true → EndsAt i (set connections i now)
ends_at {L} connections i now here e c at = ap (λ (x : Connection L). has_end x.stage) (sym (same_element (set connections i now) i now c (element_set_same connections i now here) at)) ∙ e

pub gave_at : {L : Type 0} (U : link.Ghosts L) (many : ℕ) (connections : List (Connection L)) (i : ℕ) (before now : Connection L) → i < length connections → element connections i ≡ Some before → Gave U many before now → GaveAt U many i connections (set connections i now)
gave_at U many connections i before now here was gave = record { before = before; now = now; was = was; is = element_set_same connections i now here; gave = gave }

pub waited_at : {L : Type 0} (U : link.Ghosts L) (connections : List (Connection L)) (i : ℕ) (before now : Connection L) → i < length connections → element connections i ≡ Some before → Rose (U.waits before.stream.link) (U.waits now.stream.link) → WaitedAt U i connections (set connections i now)
waited_at U connections i before now here was rose = record { before = before; now = now; was = was; is = element_set_same connections i now here; rose = rose }

-- a connection that gave nothing yet
pub gave_none : {L : Type 0} (U : link.Ghosts L) (i : ℕ) (connections : List (Connection L)) (c : Connection L) → element connections i ≡ Some c → GaveAt U 0 i connections connections
gave_none U i connections c at = record {
  before = c;
  now = c;
  was = at;
  is = at;
  gave = record {
    later = omega arith;
    more = [];
    count = refl;
    gave = λ given has. subst (λ (fs : List Frame). HasGiven (U.told c.stream.link) c.stream.offset c.stream.held fs) (sym (append-nil given)) has;
  };
}

pub gave_more : {L : Type 0} (U : link.Ghosts L) (many i : ℕ) (old mid new : List (Connection L)) → GaveAt U many i old mid → GaveAt U 1 i mid new → GaveAt U (many + 1) i old new
gave_more {L} U many i old mid new a b =
    let same : a.now ≡ b.before = same_element mid i a.now b.before a.is b.was in
    let first = a.gave in
    let last : Gave U 1 a.now b.now = subst (λ (c : Connection L). Gave U 1 c b.now) (sym same) b.gave in
    let one = first.later in
    let two = last.later in
    let size = length-append first.more last.more in
    let left = first.count in
    let right = last.count in
    record {
      before = a.before;
      now = b.now;
      was = a.was;
      is = b.is;
      gave = record {
        later = omega (arith, one, two);
        more = first.more ++ last.more;
        count = omega (arith, size, left, right);
        gave = λ given has. subst (λ (fs : List Frame). HasGiven (U.told b.now.stream.link) b.now.stream.offset b.now.stream.held fs) (append_assoc given first.more last.more) (last.gave (given ++ first.more) (first.gave given has));
      };
    }

pub waited_more : {L : Type 0} (U : link.Ghosts L) (many i : ℕ) (old mid new : List (Connection L)) → GaveAt U many i old mid → WaitedAt U i mid new → WaitedAt U i old new
waited_more {L} U many i old mid new a b =
    let same : a.now ≡ b.before = same_element mid i a.now b.before a.is b.was in
    let one = a.gave.later in
    let rose : Rose (U.waits a.now.stream.link) (U.waits b.now.stream.link) = subst (λ (c : Connection L). Rose (U.waits c.stream.link) (U.waits b.now.stream.link)) (sym same) b.rose in
    let later = rose.later in
    let higher = rose.higher in
    record { before = a.before; now = b.now; was = a.was; is = b.is; rose = record { later = omega (arith, one, later); higher = omega (arith, one, later, higher) } }

-- a lane that nothing was heard of goes one step
gone_lane : {L : Type 0} (U : link.Ghosts L) (rank head i : ℕ) (old : List (Connection L)) (before now : Connection L) (new : List (Connection L)) (w : Went) → i < length old → element old i ≡ Some before → IsLane U rank head before now → HasGone U w i (set old i now) new → HasGone U w i old new
gone_lane {L} U rank head i old before now new went.Took here was lane gone =
    let same : gone.before ≡ now = same_element (set old i now) i gone.before now gone.was (element_set_same old i now here) in
    let g : Gave U 1 now gone.now = subst (λ (c : Connection L). Gave U 1 c gone.now) same gone.gave in
    let later = g.later in
    let waits = lane.waits in
    record { before = before; now = gone.now; was = was; is = gone.is; gave = record { later = omega (arith, later, waits); more = g.more; count = g.count; gave = λ given has. g.gave given (lane.given given has) } }
gone_lane {L} U rank head i old before now new went.Waits here was lane gone =
    let same : gone.before ≡ now = same_element (set old i now) i gone.before now gone.was (element_set_same old i now here) in
    let rose : Rose (U.waits now.stream.link) (U.waits gone.now.stream.link) = subst (λ (c : Connection L). Rose (U.waits c.stream.link) (U.waits gone.now.stream.link)) same gone.rose in
    let waits = lane.waits in
    let later = rose.later in
    let higher = rose.higher in
    record { before = before; now = gone.now; was = was; is = gone.is; rose = record { later = omega (arith, later, waits); higher = omega (arith, higher, waits) } }
gone_lane {L} U rank head i old before now new went.Ended here was lane gone = gone

pub gone_from : {L : Type 0} (U : link.Ghosts L) (rank head i : ℕ) (old : List (Connection L)) (before now : Connection L) (new : List (Connection L)) (result : Result Went Fault) → i < length old → element old i ≡ Some before → IsLane U rank head before now → IfOk result (λ w. HasGone U w i (set old i now) new) → IfOk result (λ w. HasGone U w i old new)
gone_from U rank head i old before now new (Ok w) here was lane gone = gone_lane U rank head i old before now new w here was lane gone
gone_from U rank head i old before now new (Err fault) here was lane gone = tt

module _ {L F K R : Type 0} (U : link.Ghosts L) (T : Ghosts F) (W : keeper.Ghosts K) (N : run.Ghosts R) where
  pub leaves_more : (going : Bool) (i : ℕ) (b1 b2 b3 : List (WireBook F K)) (old mid new : List (Connection L)) → Leaves U T W N true i b1 b2 old mid → Leaves U T W N going i b2 b3 mid new → Leaves U T W N going i b1 b3 old new
  leaves_more going i b1 b2 b3 old mid new a b = record { kept = b.kept; go_on = go_further W b1 b2 b3 a.go_on b.go_on; moved = more_moved i old mid new a.moved b.moved }

  pub ok_more : (i : ℕ) (b1 b2 b3 : List (WireBook F K)) (old mid new : List (Connection L)) (result : Result Went Fault) → Leaves U T W N true i b1 b2 old mid → OnOk result (Leaves U T W N true i b2 b3 mid new) → OnOk result (Leaves U T W N true i b1 b3 old new)
  ok_more i b1 b2 b3 old mid new (Ok w) a b = leaves_more true i b1 b2 b3 old mid new a b
  ok_more i b1 b2 b3 old mid new (Err fault) a b = tt

  pub err_more : (i : ℕ) (b1 b2 b3 : List (WireBook F K)) (old mid new : List (Connection L)) (result : Result Went Fault) → Leaves U T W N true i b1 b2 old mid → OnErr result (Leaves U T W N false i b2 b3 mid new) → OnErr result (Leaves U T W N false i b1 b3 old new)
  err_more i b1 b2 b3 old mid new (Ok w) a b = tt
  err_more i b1 b2 b3 old mid new (Err fault) a b = leaves_more false i b1 b2 b3 old mid new a b
