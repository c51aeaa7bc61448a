-- How the end of a server answers.
use Rattle.std.proofs.Common.{◌≡◌, ℕ, ◌+◌, ◌≤◌, Bool, false, List, [], ◌∷◌, length, Option, Some, None, IfSome, IsTrue, Result, Ok, Err, refl, sym, subst, inl, inr, arith}
use Rattle.mls_base.specs.Told.{Rose}
use Rattle.mls_text.specs.Writing.{SinkState}
use Rattle.mls_model.specs.declared.lanes.LaneLine.{LaneLine}
use Rattle.mls_model.specs.declared.launcher.Event.{Event}
use Rattle.mls_book.specs.declared.faults.BookFault.{BookFault}
use Rattle.mls_book.specs.declared.faults.BookFault.TheVariants as book
use Rattle.mls_book.specs.Keepers.{KeeperState, AtRank}
use Rattle.mls_result.specs.declared.status.Status.{Status}
use Rattle.mls_result.specs.declared.status.Status.TheVariants as status
use Rattle.mls_launch.specs.declared.faults.OutFault.{OutFault}
use Rattle.mls_launch.specs.declared.faults.OutFault.TheVariants as written
use Rattle.mls_launch.specs.Writing.{WritesOut}
use Rattle.mls_wire.specs.Doors.{Awaited, Closed, StaysAwaited}
use Rattle.mls_serve.specs.declared.served.LaneFault.{LaneFault}
use Rattle.mls_desk.specs.Ends.{AreCoresOf, FaultSays, FieldCore, HoldLast, IsLaneFault}
use Rattle.mls_server.specs.declared.faults.ServeFault.{ServeFault}
use Rattle.mls_server.specs.declared.faults.ServeFault.TheVariants as serve
use Rattle.mls_server.specs.Ends.{AreSince, IsSureDoor, ServeFaultSays}
use Rattle.mls_server.specs.Lines.{AreLines}
use Rattle.mls_served.specs.Doors.{DoorState, door_seen}
use Rattle.mls_served.specs.Serving.{EndsServe, ServedAnswers, Serves, Serving, lane_status, serve_status, served_text, written_status}

not_true : IsTrue false → ⊥
not_true e = cc

-- the door couldn't wait at the address
pub unheard : (v : Serving) (out : SinkState) (old : List KeeperState) (door door' : DoorState) → Rose door.faults door'.faults → door.sound ≡ false → Serves v out out old old door door' status.DoorFault
unheard v out old door door' rose unsound = record {
  answers = (record { rose = rose; unsure = λ sound sure. not_true (subst IsTrue unsound sound) }, refl);
  since = inl refl;
}

module _ (v : Serving) (out out' : SinkState) (old new : List KeeperState) where
  -- the text was written, or a front of it
  whole : (door door' : DoorState) (cores : List FieldCore) (lines : List LaneLine) (events : List Event) (r : Result (Unit {0}) OutFault) → AreCoresOf v.study.sizes cores → AreLines v.study.sizes.ranks (v.study.sizes.ranks + v.connections) lines → HoldLast v.study.sizes cores old new → door'.accepts ≡ door.accepts + v.connections
      → WritesOut r (served_text v.study cores lines events) out out' → ServedAnswers v out out' old new door door' (written_status r)
  whole door door' cores lines events (Ok done) are lanes last accepted w = (record { cores = cores; lines = lines; events = events; are = record { count = are.count; sizes = are.sizes; ranks = are.ranks }; lanes = lanes; text = w; last = last }, accepted)
  whole door door' cores lines events (Err written.WriteFault) are lanes last accepted w = record { cores = cores; lines = lines; events = events; are = record { count = are.count; sizes = are.sizes; ranks = are.ranks }; lanes = lanes; text = w; last = last }
  whole door door' cores lines events (Err written.Memory) are lanes last accepted w = w

  -- a rank's fault
  at_rank : (door door' : DoorState) (rank : ℕ) (f : BookFault) → AtRank rank old new (FaultSays f) → out' ≡ out → ServedAnswers v out out' old new door door' (lane_status (record { rank = rank; fault = f }))
  at_rank door door' rank book.KeeperFault says same = (says, same)
  at_rank door door' rank (book.CheckpointBad at why) says same = (says, same)
  at_rank door door' rank book.Memory says same = same

stays : (a b : List Awaited) (n : ℕ) → StaysAwaited a b → n ≤ length a → n ≤ length b
stays [] b n stay few = omega (arith, few)
stays (x ∷ xs) b n stay few = subst (λ (l : List Awaited). n ≤ length l) (sym stay) few

module _ {D : Type 0} (closed : D → Option (List Closed)) (faults link_faults accepts : D → ℕ) (sound : D → Bool) (awaited : D → List Awaited) (v : Serving) (out out' : SinkState) (old new : List KeeperState) (door mid door' : D) where
  sure_then : accepts mid ≡ accepts door → StaysAwaited (awaited door) (awaited mid) → IsSureDoor (accepts door) (awaited door) v.connections → IsSureDoor (accepts mid) (awaited mid) v.connections
  sure_then accepted stay sure = record {
    awaits = stays (awaited door) (awaited mid) v.connections stay sure.awaits;
    countable = omega (arith, accepted, sure.countable);
  }

  faulty : (f : ServeFault) → accepts mid ≡ accepts door → faults mid ≡ faults door → StaysAwaited (awaited door) (awaited mid) → ServeFaultSays accepts faults awaited v.connections mid door' v.study.sizes old new f → out' ≡ out
      → ServedAnswers v out out' old new (door_seen closed faults link_faults accepts sound awaited door) (door_seen closed faults link_faults accepts sound awaited door') (serve_status f)
  faulty serve.DoorFault accepted counted stay says same = (
    record {
      rose = subst (λ n. Rose n (faults door')) counted says.rose;
      unsure = λ is sure. says.unsure (sure_then accepted stay sure);
    },
    same,
  )
  faulty (serve.Rank f) accepted counted stay says same = at_rank v out out' old new (door_seen closed faults link_faults accepts sound awaited door) (door_seen closed faults link_faults accepts sound awaited door') f.rank f.fault says.says same
  faulty serve.Memory accepted counted stay says same = same

  -- the door listened and then served
  pub served : (cores : List FieldCore) (lines : List LaneLine) (events : List Event) (fault : Option ServeFault) (answer : Status) → accepts mid ≡ accepts door → faults mid ≡ faults door → StaysAwaited (awaited door) (awaited mid)
      → (fault ≡ None → AreCoresOf v.study.sizes cores) → (fault ≡ None → HoldLast v.study.sizes cores old new) → (fault ≡ None → accepts door' ≡ accepts mid + v.connections) → AreLines v.study.sizes.ranks (v.study.sizes.ranks + v.connections) lines → AreSince v.study.sizes.ranks old new
      → IfSome fault (ServeFaultSays accepts faults awaited v.connections mid door' v.study.sizes old new) → EndsServe fault (served_text v.study cores lines events) out out' answer
      → Serves v out out' old new (door_seen closed faults link_faults accepts sound awaited door) (door_seen closed faults link_faults accepts sound awaited door') answer
  served cores lines events (Some f) answer accepted counted stay are last more lanes since says ends = record {
    answers = subst (λ (s : Status). ServedAnswers v out out' old new (door_seen closed faults link_faults accepts sound awaited door) (door_seen closed faults link_faults accepts sound awaited door') s) (sym ends.0) (faulty f accepted counted stay says ends.1);
    since = inr since;
  }
  served cores lines events None answer accepted counted stay are last more lanes since says ends = record {
    answers = subst (λ (s : Status). ServedAnswers v out out' old new (door_seen closed faults link_faults accepts sound awaited door) (door_seen closed faults link_faults accepts sound awaited door') s) (sym ends.status_is)
        (whole v out out' old new (door_seen closed faults link_faults accepts sound awaited door) (door_seen closed faults link_faults accepts sound awaited door') cores lines events ends.result (are refl) lanes (last refl) (omega (arith, more refl, accepted)) ends.writes);
    since = inr since;
  }
